use Rattle.std.proofs.Common.{◌≡◌, ◌++◌}
use Rattle.page_layout.specs.Dump.{pointer_lines}
use Rattle.page_layout.proofs.dump.append_pointers.Given as goal

abbrev pub invariant-loop-place : goal.invariant-loop-place
invariant-loop-place l = l.text.items ≡ l.fn.text.items ++ pointer_lines l.page l.place
