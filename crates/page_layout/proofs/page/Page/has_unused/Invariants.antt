use Rattle.std.proofs.Common.{◌≡◌, false, not}
use Rattle.std.specs.List.{list_any, range_with_len}
use Rattle.page_layout.specs.Rewritten.{stays}
use Rattle.page_layout.proofs.page.Page.has_unused.Given as goal

abbrev pub invariant-loop-place : goal.invariant-loop-place
invariant-loop-place l = list_any (λ place. not (stays l.self place)) (range_with_len 0 l.place) ≡ false
