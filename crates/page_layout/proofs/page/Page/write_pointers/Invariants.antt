use Rattle.std.proofs.Common.{◌≡◌, ◌+◌, ◌-◌, ◌*◌, ◌/◌, ◌%◌, ℕ, ◌&&◌, leb, ltb, cond, get_or}
use Rattle.std.specs.Int.{byte_at}
use Rattle.page_layout.specs.Rewritten.{new_pointer}
use Rattle.page_layout.proofs.page.Page.write_pointers.Given as goal

abbrev pub invariant-loop-place : goal.invariant-loop-place
invariant-loop-place l = (k : ℕ) → get_or l.self k 0 ≡ cond (leb 24 k && ltb k (24 + 4 * l.place)) (byte_at ((k - 24) % 4) (new_pointer l.page ((k - 24) / 4))) (get_or l.initial.self k 0)
