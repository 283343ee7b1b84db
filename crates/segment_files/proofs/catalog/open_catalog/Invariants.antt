use Rattle.std.proofs.Common.{◌≡◌, length}
use Rattle.segment_files.proofs.catalog.open_catalog.Given as goal

abbrev pub invariant-loop-entry : goal.invariant-loop-entry
invariant-loop-entry g l = length l.files.blocks.items ≡ l.entry-index
