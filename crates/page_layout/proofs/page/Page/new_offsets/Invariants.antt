use Rattle.std.proofs.Common.{◌≡◌, ◌<◌, ◌+◌, ◌%◌, ℕ, get_or, take, sum_by}
use Rattle.page_layout.specs.Compact.{room_of_key}
use Rattle.page_layout.proofs.page.Page.new_offsets.Given as goal

abbrev pub invariant-loop-i : goal.invariant-loop-i
invariant-loop-i l = record {
  upper : l.upper + sum_by (room_of_key l.self) (take l.i l.keys) ≡ 8192;
  placed : (j : ℕ) → j < l.i → get_or l.offsets (get_or l.keys j 0 % 65536) 0 + sum_by (room_of_key l.self) (take (j + 1) l.keys) ≡ 8192;
}
