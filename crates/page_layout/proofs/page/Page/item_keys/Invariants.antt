use Rattle.std.proofs.Common.{◌≡◌, ◌≤◌}
use Rattle.arrayvec.specs.ArrayVec.{array_vec_len}
use Rattle.page_layout.specs.Compact.{keys_of}
use Rattle.page_layout.proofs.page.Page.item_keys.Given as goal

abbrev pub invariant-loop-place : goal.invariant-loop-place
invariant-loop-place l = record { keys : l.keys.items ≡ keys_of l.self l.place; few : array_vec_len l.keys ≤ l.place }
