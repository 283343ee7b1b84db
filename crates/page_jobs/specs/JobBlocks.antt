-- The blocks that a job works on.
use Rattle.std.specs.Prelude.{ℕ, ◌<◌, ◌^◌, All, List, Result, length, slice_index_or}
use Rattle.block_tag.specs.declared.tag.Fork.TheVariants.{Main}
use Rattle.block_tag.specs.declared.tag.Tag.{Tag}
use Rattle.block_tag.specs.Names.{tag_of_parts}
use Rattle.backend_pass.specs.declared.manager.Manager.{Manager}
use Rattle.backend_pass.specs.Passes.{PassState}
use Rattle.page_jobs.specs.declared.job_blocks.JobBlocks.{JobBlocks}
use Rattle.page_jobs.specs.declared.job_blocks.JobBlocks.TheVariants as those
use Rattle.page_jobs.specs.declared.ending.JobError.{JobError}
use Rattle.page_jobs.specs.Parts.{blocks_in}

-- the block is below its fork's size
abbrev pub IsInside : {L G : Type 0} → Manager L G → Tag → Type 0
IsInside m tag = tag.block < blocks_in m tag.rel.0 tag.fork

-- the tag at this place of a list, and of a job's blocks; past their end it is any tag
abbrev pub listed_tag : List Tag → ℕ → Tag
listed_tag tags place = slice_index_or tags place (tag_of_parts 0 Main 0)

abbrev pub tag_in : JobBlocks → ℕ → Tag
tag_in (those.Fork fork) place = tag_of_parts fork.rel.0 fork.fork place
tag_in (those.Tags tags) place = listed_tag tags.now place

-- how many blocks a job has
abbrev pub count_in : {L G : Type 0} → Manager L G → JobBlocks → ℕ
count_in m (those.Fork fork) = blocks_in m fork.rel.0 fork.fork
count_in m (those.Tags tags) = length tags.now

-- a list has a tag at this place
abbrev pub HasPlace : JobBlocks → ℕ → Type 0
HasPlace (those.Fork fork) place = Unit {0}
HasPlace (those.Tags tags) place = place < length tags.now

-- each of the listed blocks is below its fork's size, and their places can be numbered
abbrev pub AreThere : {L G : Type 0} → Manager L G → JobBlocks → Type 0
AreThere m (those.Fork fork) = Unit {0}
AreThere m (those.Tags tags) =
    (length tags.now < 2 ^ 32) × All (IsInside m) tags.now

-- what is done with the block at a place
abbrev pub DoesAt : {K : Type 0}
    → (Tag → PassState → PassState → K → K → Result Unit JobError → Type 0)
    → JobBlocks → ℕ → PassState → PassState → K → K → Result Unit JobError → Type 0
DoesAt does blocks place = does (tag_in blocks place)
