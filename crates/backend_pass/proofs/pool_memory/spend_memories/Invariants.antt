use Rattle.backend_pass.proofs.pool_memory.spend_memories.Given as goal

abbrev pub invariant-loop-memory : goal.invariant-loop-memory
invariant-loop-memory l = Unit {0}

abbrev pub decreases-loop-memory : goal.decreases-loop-memory
decreases-loop-memory l = goal.left-loop-memory l
