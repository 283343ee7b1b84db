use Rattle.std.proofs.Common.{◌≡◌, ◌<◌, ℕ, false}
use Rattle.segment_files.specs.Catalog.{clashes_before}
use Rattle.segment_files.proofs.catalog.have_clashes.Given as goal

abbrev pub invariant-loop-place : goal.invariant-loop-place
invariant-loop-place l = (k : ℕ) → k < l.place → clashes_before l.entries k ≡ false
