use Rattle.std.proofs.Common.{◌≡◌, ◌≤◌, ◌++◌, length, reverse}
use Rattle.std.specs.Prelude.{vec_capacity}
use Rattle.table_rule.specs.Laid.{lanes_among, HasNoDevices}
use Rattle.table_rule.proofs.build.take_lanes.Given as goal

abbrev pub invariant-loop-value : goal.invariant-loop-value
invariant-loop-value g l = record {
  done : lanes_among l.slots.items ++ reverse l.lanes.items ≡ lanes_among l.initial.slots.items;
  none : HasNoDevices l.slots.items;
  room : length (lanes_among l.initial.slots.items) ≤ vec_capacity l.lanes;
}

abbrev pub decreases-loop-value : goal.decreases-loop-value
decreases-loop-value g l = goal.left-loop-value g l
