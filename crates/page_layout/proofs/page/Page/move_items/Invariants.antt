use Rattle.std.proofs.Common.{◌≡◌, ℕ, ltb, cond, get_or}
use Rattle.page_layout.specs.Rewritten.{item_byte, new_upper}
use Rattle.page_layout.proofs.page.Page.move_items.Given as goal

abbrev pub invariant-loop-place : goal.invariant-loop-place
invariant-loop-place l = (k : ℕ) → get_or l.self k 0 ≡ cond (ltb k (new_upper l.page)) (get_or l.initial.self k 0) (item_byte l.page k l.place)
