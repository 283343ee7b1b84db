use Rattle.std.proofs.Common.{◌≡◌, ◌≤◌, ◌+◌, ◌++◌, replicate}
use Rattle.std.specs.Prelude.{vec_len, vec_capacity}
use Rattle.table_rule.specs.declared.value.Value.TheVariants as value
use Rattle.table_rule.proofs.build.put_aways.Given as goal

abbrev pub invariant-loop : goal.invariant-loop
invariant-loop g l = record {
  items : l.slots.items ≡ l.fn.slots.items ++ replicate l.counter value.Away;
  count : vec_len l.slots ≡ vec_len l.fn.slots + l.counter;
  room : vec_capacity l.fn.slots ≤ vec_capacity l.slots;
}
