-- The places of a job's blocks.
use Rattle.std.proofs.Common.{◌≡◌, ℕ, zero, suc, ◌<◌, List, [], ◌∷◌, length, refl, arith}
use mathlib.Core.Option.{some}
use lib.ListN.{get_elem?}
use Rattle.block_tag.specs.declared.tag.Fork.TheVariants.{Main}
use Rattle.block_tag.specs.declared.tag.Tag.{Tag}
use Rattle.block_tag.specs.Names.{tag_of_parts}
use Rattle.backend_pass.specs.declared.manager.Manager.{Manager}
use Rattle.page_jobs.specs.declared.job_blocks.JobBlocks.{JobBlocks}
use Rattle.page_jobs.specs.declared.job_blocks.JobBlocks.TheVariants as those
use Rattle.page_jobs.specs.JobBlocks.{AreThere, HasPlace, IsInside, count_in, listed_tag, tag_in}

pub listed_at : (tags : List Tag) (place : ℕ) → place < length tags → get_elem? tags place ≡ some (listed_tag tags place)
listed_at [] place low = absurd (omega arith)
listed_at (t ∷ tags) zero low = refl
listed_at (t ∷ tags) (suc place) low = listed_at tags place (omega arith)

module _ {L G : Type 0} (m : Manager L G) where
  pub has_place : (blocks : JobBlocks) (place : ℕ) → place < count_in m blocks → HasPlace blocks place
  has_place (those.Fork fork) place low = tt
  has_place (those.Tags tags) place low = low

  pub inside_at : (blocks : JobBlocks) (place : ℕ) → AreThere m blocks → place < count_in m blocks → IsInside m (tag_in blocks place)
  inside_at (those.Fork fork) place there low = low
  inside_at (those.Tags tags) place there low = there.1 place (tag_of_parts 0 Main 0) low
