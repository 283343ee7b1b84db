-- Checkpoints: what a backend's checkpoint has still to write.
use Rattle.std.specs.Prelude.{◌≡◌, ◌≢◌, ℕ, ◌<◌, ◌≤◌, Bool, true, false, List, Option, Some, None}
use Rattle.std.specs.Prelude.{slice_index_or}
use mathlib.Core.Option.{some}
use lib.ListN.{get_elem?}
use Rattle.page_layout.specs.Fields.{lsn_of}
use Rattle.pin_core.specs.declared.view.JoinedCheckpoint.{JoinedCheckpoint}
use Rattle.pin_core.specs.declared.view.LastWrite.TheVariants.{Done}
use Rattle.pin_core.specs.declared.view.Link.{Link}
use Rattle.pin_core.specs.declared.view.View.{View}
use Rattle.pin_core.specs.State.{Frame, Page, no_tag, link}
use Rattle.history_core.specs.Log.{Entry, IsEntryOf, end_of}
use Rattle.history_core.specs.State.{State, stored_upto}
use Rattle.history_core.specs.Homes.{IsUnframed}

-- whether a checkpoint of a backend that was joined into another has visited the frame f
abbrev pub has_visited : JoinedCheckpoint → ℕ → Bool
has_visited c f = slice_index_or c.visited f false

-- whether a checkpoint of a backend that was joined into another has still to write the frame f
abbrev pub has_left_to_write : JoinedCheckpoint → ℕ → Bool
has_left_to_write c f = slice_index_or c.left_to_write f false

-- The entries of the log, and what the lanes have of them
pub record Taken : Type 0 where
  -- the entries of the log
  pub entries : List Entry
  -- the position up to which the entries of a tag's block are in its lane
  pub upto : ℕ → ℕ

-- all entries of the block of a tag are in its lane
abbrev pub IsCurrent : Taken → ℕ → Type 0
IsCurrent t tag = (k : ℕ) (e : Entry) → IsEntryOf t.entries tag k e → end_of e ≤ t.upto tag

-- If a checkpoint that began at `upto` has visited the frame, each entry of the frame's block that
-- ends there or before is in the lane; or the frame carries BM_CHECKPOINT_NEEDED, and is one that
-- is left for the checkpoint to write
abbrev pub IsStoredOrLeft : Taken → Frame → ℕ → Bool → Bool → Type 0
IsStoredOrLeft t fr upto visited left_to_write = visited ≡ true → fr.tag ≢ no_tag
    → (k : ℕ) (e : Entry) → IsEntryOf t.entries fr.tag k e → end_of e ≤ upto
    → t.upto fr.tag < end_of e → (fr.word.checkpoint_needed ≡ true) × (left_to_write ≡ true)

-- What holds of the checkpoint of a view, which began at `upto`, and of what the view has at a
-- frame
pub record LinkDebt (t : Taken) (fr : Frame) (upto : ℕ) (l : Link) : Type 0 where
  -- if the checkpoint has visited the frame, each entry of its block from before the checkpoint
  -- began is in the lane, or the frame carries BM_CHECKPOINT_NEEDED and is left to be written
  pub stored_or_left : IsStoredOrLeft t fr upto l.visited l.left_to_write
  -- if the last write under an output right is noted as done, all entries of the frame's block are
  -- in its lane
  pub done : l.last_write ≡ Done → fr.tag ≢ no_tag → IsCurrent t fr.tag

-- What holds of the checkpoints of a view; the log ends at `end`
pub record ViewDebts (t : Taken) (frames : ℕ) (frame : ℕ → Frame) (end : ℕ)
    (v : View) : Type 0 where
  -- the view's own checkpoint began at the log's end or before it
  pub begun : v.upto ≤ end
  -- each kept checkpoint of a joined backend began at the log's end or before it
  pub kept_begun : (k : ℕ) (c : JoinedCheckpoint) → get_elem? v.joined_checkpoints k ≡ some c
      → c.upto ≤ end
  -- the law of the view's own checkpoint, at each frame
  pub own : (f : ℕ) → f < frames → LinkDebt t (frame f) v.upto (link v f)
  -- if a kept checkpoint has visited a frame, each entry of its block from before that checkpoint
  -- began is in the lane, or the frame carries BM_CHECKPOINT_NEEDED and is left to be written
  pub kept : (k f : ℕ) (c : JoinedCheckpoint) → get_elem? v.joined_checkpoints k ≡ some c
      → f < frames → IsStoredOrLeft t (frame f) c.upto (has_visited c f) (has_left_to_write c f)

-- The law of checkpoints; `logged` is each block's page after the log, as far as it is known
pub record Debts (t : Taken) (frames : ℕ) (frame : ℕ → Frame) (end : ℕ) (logged : ℕ → Option Page)
    (views : List View) : Type 0 where
  -- the tag of an entry's block isn't all ones
  pub named : (k tag : ℕ) (e : Entry) → IsEntryOf t.entries tag k e → tag ≢ no_tag
  -- all entries of a block whose frame isn't dirty are in its lane
  pub clean : (f : ℕ) → f < frames → (frame f).tag ≢ no_tag → (frame f).word.dirty ≡ false
      → IsCurrent t (frame f).tag
  -- all entries of a block that has no frame are in its lane
  pub unframed : (tag : ℕ) → tag ≢ no_tag → IsUnframed frames frame tag → IsCurrent t tag
  -- the position of a block's page after the log, if that is known, is not before the end of any
  -- of its entries
  pub positioned : (tag k : ℕ) (p : Page) (e : Entry) → logged tag ≡ Some p
      → IsEntryOf t.entries tag k e → end_of e ≤ lsn_of p
  -- if a block's page after the log isn't known, all its entries are in the lane
  pub unknown : (tag : ℕ) → logged tag ≡ None → IsCurrent t tag
  -- the law of each view's checkpoints
  pub each : (i : ℕ) (v : View) → get_elem? views i ≡ some v → ViewDebts t frames frame end v

-- what the lanes have of the log's entries, in a state
abbrev pub taken_of : State → Taken
taken_of s = record { entries = s.log.entries; upto = stored_upto s }

-- the law of checkpoints, in a state
abbrev pub DebtsLaw : State → Type 0
DebtsLaw s = Debts (taken_of s) s.pool.core.frames s.pool.core.frame s.end s.pool.logged
    s.pool.core.views
