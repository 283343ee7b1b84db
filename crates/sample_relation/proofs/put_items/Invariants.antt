use Rattle.std.proofs.Common.{◌≡◌, ◌++◌}
use Rattle.sample_relation.specs.Samples.{items}
use Rattle.sample_relation.proofs.put_items.Given as goal

abbrev pub invariant-loop-below : goal.invariant-loop-below
invariant-loop-below l = l.bytes.items ++ items l.block l.below ≡ l.initial.bytes.items ++ items l.block l.count
