use Rattle.std.proofs.Common.{◌≡◌, ◌≤◌, vec_len}
use Rattle.std.specs.Prelude.{vec_capacity}
use Rattle.backend_pass.specs.PassMemories.{AreForFrames}
use Rattle.backend_pass.proofs.pool_memory.take_memories.Given as goal

abbrev pub invariant-loop : goal.invariant-loop
invariant-loop l = record { counted : vec_len l.memories ≡ l.counter; fresh : AreForFrames l.frames l.memories.items; wide : l.count ≤ vec_capacity l.memories }
