-- The blocks of the frames: what their lanes hold.
-- One number says which entries a lane has: each write that is done raises a block's position to
-- that of its page. Log before data and checkpoints both use it, and no device has to keep it.
-- A checkpoint says nothing of a block whose last write failed, until a write is done: its frame is
-- dirty, so the page isn't lost.
use Rattle.std.specs.Prelude.{◌≡◌, ◌≢◌, ◌⊎◌, ℕ, ◌+◌, ◌<◌, ◌≤◌, Bool, true, false, List, Option}
use Rattle.std.specs.Prelude.{Some}
use Rattle.pin_core.specs.declared.view.LastWrite.TheVariants.{Done}
use Rattle.pin_core.specs.declared.view.Link.{Link}
use Rattle.pin_core.specs.declared.view.View.{View}
use Rattle.pin_core.specs.State.{Frame, Page, no_tag, link, tag_fork, tag_block, is_block, is_cut}
use Rattle.page_core.specs.State.{zero_page}
use Rattle.page_core.specs.State as page
use Rattle.page_core.specs.State.{block_of}
use Rattle.page_core.specs.Tallies.{Tally, weigh, page_shape}
use mathlib.Core.Option.{some}
use lib.ListN.{get_elem?}
use Rattle.history_core.specs.Log.{Entry, Log, resize, end_of, cell, cut}
use Rattle.history_core.specs.State.{State, stored, stored_upto, failed}
use Rattle.grid.specs.Shape.{Shape, Part}

-- What is known of a block
pub record Home : Type 0 where
  -- whether the block is below its fork's size by the log
  pub inside : Bool
  -- the block's page after the log
  pub block : page.Block
  -- whether the contents of the block's lane are known
  pub known : Bool
  -- the page that the lane holds for the block, or none
  pub stored : Option Page
  -- the position in the log up to which the block's entries are in the lane's page
  pub stored_upto : ℕ
  -- whether the block's last write failed
  pub failed : Bool
  -- the page that the lane held for the block at the start, or none
  pub held : Option Page

-- what is known of the block of a tag, in a state
abbrev pub home_of : State → ℕ → Home
home_of s tag = record {
  inside = is_block s.pool.core tag;
  block = block_of s.pool.logged tag;
  known = s.known tag;
  stored = stored s tag;
  stored_upto = stored_upto s tag;
  failed = failed s tag;
  held = s.held tag;
}

-- A block that is there is clean: its last write didn't fail, and the lane holds its page after the
-- log, if the lane's contents are known
pub record IsClean (h : Home) : Type 0 where
  -- if the block is there, its last write didn't fail
  pub done : h.inside ≡ true → h.failed ≡ false
  -- if the block is there and the lane's contents are known, the lane holds the block's page after
  -- the log
  pub stored : h.inside ≡ true → h.known ≡ true → h.block.logged ≡ h.stored

-- the grid of views and frames, with what is known of the block that a frame's tag names
abbrev pub home_shape : Shape
home_shape = record {
  Column = Frame;
  Link = Link;
  View = View;
  Tally = Tally;
  Block = Home;
  Own = Unit {0};
  weigh = weigh;
  link = link;
  own = λ _. tt;
  spot = λ fr. fr.tag;
}

-- a law of `page_core` in this grid
abbrev pub of_pages : Part page_shape → Part home_shape
of_pages p = record {
  column = λ h fr t. p.column h.block fr t;
  cell = λ h fr o l. p.cell h.block fr o l;
}

-- What holds of a frame and of its block
pub record HomeFrame (h : Home) (fr : Frame) : Type 0 where
  -- the block of a frame that has a tag and isn't dirty is clean
  pub clean : fr.tag ≢ no_tag → fr.word.dirty ≡ false → IsClean h

-- What holds if a view's last write under its output right is noted as done
pub record DoneLink (h : Home) (fr : Frame) : Type 0 where
  -- the block's last write didn't fail
  pub done : h.failed ≡ false
  -- the lane holds the frame's page
  pub stored : h.stored ≡ Some fr.page

-- What holds of a frame, of its block and of what a view has there
pub record HomeLink (h : Home) (fr : Frame) (l : Link) : Type 0 where
  -- if the last write under an output right is noted as done, the lane holds the frame's page, and
  -- the block's last write didn't fail
  pub written : l.last_write ≡ Done → DoneLink h fr

-- the law of frames and of their blocks in the lanes, in this grid
abbrev pub home_part : Part home_shape
home_part = record { column = λ h fr t. HomeFrame h fr; cell = λ h fr _ l. HomeLink h fr l }

-- no frame has the tag
abbrev pub IsUnframed : ℕ → (ℕ → Frame) → ℕ → Type 0
IsUnframed frames frame tag = (f : ℕ) → f < frames → (frame f).tag ≢ tag

-- An entry adds the block to its fork and ends past the position, and no later one cuts it away
pub record AddsBlock (es : List Entry) (upto tag : ℕ) : Type 0 where
  -- where the entry stands in the list
  pub index : ℕ
  -- the entry
  pub entry : Entry
  -- the entry is the one that stands there
  pub there : get_elem? es index ≡ some entry
  -- the entry makes the fork grow by this block
  pub grows : entry.change ≡ resize (tag_fork tag) (tag_block tag) (tag_block tag + 1)
  -- the entry ends past the position
  pub past : upto < end_of entry
  -- no later entry cuts the block away
  pub kept : (j : ℕ) (d : Entry) (fork old new : ℕ) → index < j → get_elem? es j ≡ some d
      → d.change ≡ resize fork old new → new < old → is_cut fork new tag ≡ false

-- The block isn't there, or the entry that added it to its fork isn't in the lane's page; and that
-- page is of zeros, or as at the start
pub record IsUnwrittenNew (es : List Entry) (tag : ℕ) (h : Home) : Type 0 where
  -- the block isn't there, or the entry that added it to its fork isn't in the lane's page
  pub fresh : (h.inside ≡ false) ⊎ AddsBlock es h.stored_upto tag
  -- the lane holds a page of zeros, or what it held at the start
  pub page : (h.stored ≡ Some zero_page) ⊎ (h.stored ≡ h.held)

-- The lane holds no page of the block that is ahead of the flushed log
pub record IsFlushedCell (origin : ℕ → Option Page) (log : Log) (flushed tag : ℕ)
    (h : Home) : Type 0 where
  -- the position up to which the block's entries are in the lane's page is at least the log's base
  pub based : log.base ≤ h.stored_upto
  -- the position up to which the block's entries are in the lane's page is at most the flushed
  -- position
  pub within : h.stored_upto ≤ flushed
  -- if the lane's contents are known and the block's last write didn't fail, the lane's page is the
  -- block's after the entries that it has, or the block is new to the lane
  pub is_cell : h.known ≡ true → h.failed ≡ false
      → (h.stored ≡ cell origin (cut h.stored_upto log.entries) tag)
      ⊎ IsUnwrittenNew log.entries tag h
