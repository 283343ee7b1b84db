-- The files of the example.
use Rattle.std.specs.Prelude.{◌≡◌, ℕ, ◌<◌, List, [], ◌∷◌, is_some, true, false}
use Rattle.block_tag.specs.declared.catalogue.RelEntry.{RelEntry}
use Rattle.block_tag.specs.declared.tag.Fork.TheVariants.{Main}
use Rattle.block_tag.specs.declared.tag.Tag.{Tag}
use Rattle.block_tag.specs.Names.{lane_number, tag_of_parts}
use Rattle.segment_store.specs.declared.memory_lane.MemLane.{MemLane}
use Rattle.segment_store.specs.MemoryLane.{marks_of, pages_of}

-- a relation with this many blocks in its main fork, and none in another
abbrev pub entry : ℕ → ℕ → RelEntry
entry number blocks =
    record { tablespace = 1663; database = 5; relation = number; blocks = blocks ∷ 0 ∷ 0 ∷ 0 ∷ [] }

abbrev pub relations : List RelEntry
relations = entry 16384 12 ∷ entry 16385 6 ∷ []

-- the lane has this block
abbrev pub HasBlock : MemLane → Tag → Type 0
HasBlock lane tag = is_some (pages_of lane tag) ≡ true

-- it has the blocks of a relation that are its own, as the lane of this number of two
abbrev pub HasBlocks : MemLane → ℕ → ℕ → ℕ → Type 0
HasBlocks lane number rel blocks = (block : ℕ) → block < blocks
    → lane_number (tag_of_parts rel Main block) 2 ≡ number
    → HasBlock lane (tag_of_parts rel Main block)

-- It has no block of another lane, and none whose last write failed
pub record HasOnlyOwn (number : ℕ) (lane : MemLane) : Type 0 where
  pub own : (tag : Tag) → HasBlock lane tag → lane_number tag 2 ≡ number
  pub unfailed : (tag : Tag) → marks_of lane tag ≡ false

-- It has all blocks that are its own, and nothing else
pub record IsOldLane (number : ℕ) (lane : MemLane) : Type 0 where
  pub only : HasOnlyOwn number lane
  pub first : HasBlocks lane number 0 12
  pub second : HasBlocks lane number 1 6
