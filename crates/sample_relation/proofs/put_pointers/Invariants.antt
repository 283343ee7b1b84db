use Rattle.sample_relation.specs.Samples.{Extends, pointers}
use Rattle.sample_relation.proofs.put_pointers.Given as goal

abbrev pub invariant-loop-before : goal.invariant-loop-before
invariant-loop-before l = Extends l.initial.bytes.items l.bytes.items (pointers l.block l.before)
