use Rattle.std.proofs.Common.{◌≡◌, ◌≤◌}
use Rattle.page_layout.specs.Rewritten.{left_of_first}
use Rattle.page_layout.proofs.page.Page.pointers_left.Given as goal

abbrev pub invariant-loop-place : goal.invariant-loop-place
invariant-loop-place l = record { left : l.left ≡ left_of_first l.self l.place; within : l.left ≤ l.place }
