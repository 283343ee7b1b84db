use Rattle.std.proofs.Common.{◌≡◌, ◌≤◌, ◌*◌, false, sum_by}
use Rattle.std.specs.List.{list_any, range_with_len}
use Rattle.page_layout.specs.Rewritten.{is_outside, room_at}
use Rattle.page_layout.proofs.page.Page.items_fit.Given as goal

abbrev pub invariant-loop-place : goal.invariant-loop-place
invariant-loop-place l = record {
  inside : list_any (is_outside l.self) (range_with_len 0 l.place) ≡ false;
  room : l.room ≡ sum_by (room_at l.self) (range_with_len 0 l.place);
  few : l.room ≤ 32768 * l.place;
}
