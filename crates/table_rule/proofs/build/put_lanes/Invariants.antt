use Rattle.std.proofs.Common.{◌≡◌, ◌≤◌, ◌+◌, ◌++◌, reverse}
use Rattle.std.specs.Prelude.{vec_len, vec_capacity}
use Rattle.table_rule.specs.Laid.{home_lanes}
use Rattle.table_rule.proofs.build.put_lanes.Given as goal

abbrev pub invariant-loop-lane : goal.invariant-loop-lane
invariant-loop-lane g l = record {
  done : l.slots.items ++ home_lanes l.number (reverse l.lanes.items) ≡ l.fn.slots.items ++ home_lanes 0 l.fn.lanes.items;
  numbered : l.number + vec_len l.lanes ≡ vec_len l.fn.lanes;
  count : vec_len l.slots + vec_len l.lanes ≡ vec_len l.fn.slots + vec_len l.fn.lanes;
  room : vec_capacity l.fn.slots ≤ vec_capacity l.slots;
  kept : vec_len l.fn.lanes ≤ vec_capacity l.lanes;
}

abbrev pub decreases-loop-lane : goal.decreases-loop-lane
decreases-loop-lane g l = goal.left-loop-lane g l
