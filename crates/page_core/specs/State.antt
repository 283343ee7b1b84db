-- The buffer pool with the pages of its blocks.
use Rattle.std.specs.Prelude.{ℕ, Option, None, replicate, if◌then◌else◌}
use Rattle.pin_core.specs.State.{Page, Config, is_below}
use Rattle.pin_core.specs.State as pins

-- What is known of the block that a tag names
pub record Block : Type 0 where
  -- the block's page after all entries of the log, if that is known: if its lane's contents are
  -- known, or it has an entry and wasn't read back from the lane since
  pub logged : Option Page

-- The buffer pool, and the page of each block
pub record State : Type 0 where
  -- the frames, partitions, sizes and views
  pub core : pins.State
  -- each block's page after all entries of the log, by its tag, if that is known
  pub logged : ℕ → Option Page

-- what is known of each block
abbrev pub block_of : (ℕ → Option Page) → ℕ → Block
block_of logged tag = record { logged = logged tag }

-- a page whose bytes are all 0
abbrev pub zero_page : Page
zero_page = replicate 8192 0

-- the pages of the blocks that are below their forks' sizes, and none of the others
abbrev pub below_sizes : (ℕ → ℕ) → (ℕ → Option Page) → ℕ → Option Page
below_sizes sizes pages tag = if is_below sizes tag then pages tag else None

-- the buffer pool at the start, if the lanes hold `origin`, as far as their contents are known, and
-- each frame has this page
abbrev pub opening : Config → (ℕ → Option Page) → Page → State
opening config origin page = record {
  core = pins.opening config page;
  logged = below_sizes config.sizes origin;
}
