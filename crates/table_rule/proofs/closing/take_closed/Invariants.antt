use Rattle.std.proofs.Common.{◌≡◌, ◌≤◌, length}
use Rattle.std.specs.Prelude.{vec_capacity}
use Rattle.std.specs.Slots.{slots_items, slots_filled}
use Rattle.table_rule.specs.Laid.{lanes_among}
use Rattle.table_rule.proofs.Emptying.{Left}
use Rattle.table_rule.proofs.closing.take_closed.Given as goal

abbrev pub invariant-loop-left : goal.invariant-loop-left
invariant-loop-left g l = record {
  items : slots_items l.closed.slots ≡ slots_items l.fn.closed.slots;
  left : Left (slots_items l.fn.closed.slots) (slots_filled l.closed.slots) l.left l.lanes.items;
  room : length (lanes_among (slots_items l.fn.closed.slots)) ≤ vec_capacity l.lanes;
}

abbrev pub decreases-loop-left : goal.decreases-loop-left
decreases-loop-left g l = l.left
