use Rattle.std.proofs.Common.{◌≡◌, ◌<◌, ℕ, None}
use Rattle.block_tag.specs.Catalogue.{earlier_twin}
use Rattle.block_tag.proofs.catalogue.first_twin.Given as goal

abbrev pub invariant-loop-place : goal.invariant-loop-place
invariant-loop-place l = (k : ℕ) → k < l.place → earlier_twin l.entries k ≡ None
