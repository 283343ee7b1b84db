-- How a checkpoint writes the frames that it marked.
use Rattle.std.specs.Prelude.{◌≡◌, ◌≢◌, ℕ, List, [], ◌∷◌, ◌++◌, Option, Ok}
use Rattle.segment_store.specs.Contents.{Pages}
use Rattle.pin_core.specs.declared.view.View.{View}
use Rattle.frame_table.specs.declared.table.FrameTable.{FrameTable}
use Rattle.frame_table.specs.Seats.{frames_of}
use Rattle.frame_table.specs.WordSteps.{begin_checkpoint, view_of}
use Rattle.buffer_frames.specs.declared.syncing.SyncOnly.TheVariants.{Needed}
use Rattle.buffer_frames.specs.declared.syncing.Synced.{Synced}
use Rattle.buffer_frames.specs.declared.syncing.Synced.TheVariants.{Skipped}
use Rattle.buffer_frames.specs.Syncs.{SyncsFrame}
use Rattle.backend_pass.specs.declared.marked.MarkedFrame.{MarkedFrame}
use Rattle.checkpointer.specs.Marked.{ListsDirty}
use Rattle.checkpointer.specs.Stages.{FlushesPages}

module _ {L G : Type 0} (contents : L → Option Pages) (t : FrameTable L G) where
  -- The frame f was written, or found clean, any number of times, each as it had
  -- BM_CHECKPOINT_NEEDED
  pub data SyncsWhileNeeded (f : ℕ) (v : View) : View → Type 0 where
    still : SyncsWhileNeeded f v v
    again : {u w : View} (synced : Synced) → SyncsWhileNeeded f v u → synced ≢ Skipped
        → SyncsFrame contents t Needed f u w (Ok synced) → SyncsWhileNeeded f v w

  -- The frame f was written, or found clean, any number of times, and then seen without
  -- BM_CHECKPOINT_NEEDED
  pub record SyncsUntilPassed (f : ℕ) (v w : View) : Type 0 where
    pub last : View
    pub needed : SyncsWhileNeeded f v last
    pub passes : SyncsFrame contents t Needed f last w (Ok Skipped)

  -- the frames of the list were written so in its order, and no other
  pub data WritesInOrder (v : View) : List MarkedFrame → View → Type 0 where
    nothing : WritesInOrder v [] v
    next : {u w : View} {marked : List MarkedFrame} (m : MarkedFrame) → WritesInOrder v marked u
        → SyncsUntilPassed m.frame u w → WritesInOrder v (marked ++ m ∷ []) w

  -- The frame f stands in the list. Those before it were written, and it was as long as it had
  -- BM_CHECKPOINT_NEEDED
  pub record WritesUpTo (marked : List MarkedFrame) (f : ℕ) (v w : View) : Type 0 where
    pub before : List MarkedFrame
    pub tag : ℕ
    pub rest : List MarkedFrame
    pub split : marked ≡ before ++ record { tag = tag; frame = f } ∷ rest
    pub turn : View
    pub writes : WritesInOrder v before turn
    pub needed : SyncsWhileNeeded f turn w

  -- A checkpoint began at `upto` in the view v, noted the dirty frames, and wrote these and no
  -- other, in the order of their tags: n pages
  pub record MarksAndWrites (upto n : ℕ) (v w : View) : Type 0 where
    pub marked : List MarkedFrame
    pub listed : View
    pub lists : ListsDirty (frames_of t) marked (view_of begin_checkpoint upto v) listed
    pub writes : WritesInOrder listed marked w
    pub flushes : FlushesPages n v w
