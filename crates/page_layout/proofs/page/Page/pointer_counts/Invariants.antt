use Rattle.std.proofs.Common.{◌≡◌, ◌≤◌}
use Rattle.page_layout.specs.Pointers.{counts_of_states, first_items, total_of}
use Rattle.page_layout.proofs.page.Page.pointer_counts.Given as goal

abbrev pub invariant-loop-place : goal.invariant-loop-place
invariant-loop-place l = record { counts : l.counts ≡ counts_of_states (first_items l.self l.place); total : total_of l.counts ≤ l.place }
