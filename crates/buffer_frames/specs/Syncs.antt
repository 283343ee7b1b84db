-- How a frame is written for the background writer and for a checkpoint, and why it is passed over.
use Rattle.std.specs.Prelude.{◌≡◌, ◌≢◌, ◌⊎◌, ℕ, ◌+◌, ◌≤◌, nat_lt, Bool, true, false, not, ◌||◌}
use Rattle.std.specs.Prelude.{List, [], ◌∷◌, ◌++◌, length, Option, Some, None, Result, Ok, Err}
use Rattle.std.specs.List.{All}
use Rattle.state_word.specs.declared.word.StateWord.{StateWord}
use Rattle.state_word.specs.Fields.{fields}
use Rattle.block_tag.specs.declared.tag.Tag.{Tag}
use Rattle.block_tag.specs.Names.{lane_number, names_block, packed_tag}
use Rattle.segment_store.specs.Contents.{Pages}
use Rattle.pin_core.specs.declared.view.DeviceCall.{DeviceCall}
use Rattle.pin_core.specs.declared.view.DeviceCall.TheVariants.{LaneWrite, LaneSync}
use Rattle.pin_core.specs.declared.view.Link.{Link}
use Rattle.pin_core.specs.declared.view.Content.TheVariants.{Unlocked}
use Rattle.pin_core.specs.declared.view.Role.TheVariants.{Absent}
use Rattle.pin_core.specs.declared.view.View.{View}
use Rattle.pin_core.specs.State.{link}
use Rattle.pin_core.specs.Kinds.{load_tag, pin_victim}
use Rattle.page_core.specs.Kinds.{need_checkpoint}
use Rattle.table_rule.specs.Blocks.{has_block}
use Rattle.table_rule.specs.declared.turn.Turn.TheVariants.{Lane}
use Rattle.frame_table.specs.declared.table.FrameTable.{FrameTable}
use Rattle.frame_table.specs.FrameSteps.{Did, looking}
use Rattle.frame_table.specs.Kinds.{pages, pins}
use Rattle.frame_table.specs.Latches.{DidTurn, IsTurned, work_of}
use Rattle.frame_table.specs.Seats.{HasFlag, HoldsWord, ListsOnly, OnlyRises, lanes_in}
use Rattle.frame_table.specs.Seats.{relations_of}
use Rattle.content_locks.specs.Io.{LocksHeader}
use Rattle.cleanup_lock.specs.Waking.{Woken}
use Rattle.clock_sweep.specs.Keeping.{SamePins}
use Rattle.buffer_frames.specs.Rests.{HasAtMostLock}
use Rattle.buffer_frames.specs.declared.flushing.FrameFlushError.{FrameFlushError}
use Rattle.buffer_frames.specs.declared.flushing.FlushedPage.{FlushedPage}
use Rattle.buffer_frames.specs.declared.flushing.FlushedPage.TheVariants as flush
use Rattle.buffer_frames.specs.Flushing.{EndedInError, EndedWritten, FindsClean, FlushAnswer}
use Rattle.buffer_frames.specs.Flushing.{met_flushing, met_lane_write}
use Rattle.buffer_frames.specs.Working.{IsFlushCall, KeepsNotes, Made, Within, WorksAt}
use Rattle.buffer_frames.specs.declared.syncing.SyncOnly.{SyncOnly}
use Rattle.buffer_frames.specs.declared.syncing.SyncOnly.TheVariants.{NotRecentlyUsed, Needed}
use Rattle.buffer_frames.specs.declared.syncing.Synced.{Synced}
use Rattle.buffer_frames.specs.declared.syncing.Synced.TheVariants.{Skipped, Clean, Written}

-- whether a frame with this state word is passed over: the background writer writes a dirty frame
-- that no backend pins and whose usage count is 0, and a checkpoint one that has
-- BM_CHECKPOINT_NEEDED
abbrev pub passes_over : SyncOnly → StateWord → Bool
passes_over NotRecentlyUsed w = not w.valid || not w.dirty || nat_lt 0 w.pins || nat_lt 0 w.usage
passes_over Needed w = not w.checkpoint_needed

-- The header of the frame f was locked and then the state word loaded, which was `word`, while the
-- view pinned what it pinned at first
pub record LooksUnderHeader (f word : ℕ) (v w : View) : Type 0 where
  pub under : View
  pub was : ℕ
  pub locks : LocksHeader f v under was
  pub pins : SamePins v under
  pub looks : Did looking f under w word

-- The frame f isn't dirty, by its state word as it was loaded in this call
pub record SeesNotDirty (f : ℕ) (v w : View) : Type 0 where
  pub word : ℕ
  pub looks : Within (λ a b. Did looking f a b word) v w
  pub clean : (fields word).dirty ≡ false

-- The header of the frame f was locked; under it the frame's tag was loaded, which was this one,
-- and BM_CHECKPOINT_NEEDED was set as the header was unlocked
pub record NotesBlock (f : ℕ) (tag : Tag) (v w : View) : Type 0 where
  pub under : View
  pub loaded : View
  pub was : ℕ
  pub word : ℕ
  pub locks : LocksHeader f v under was
  pub loads : Did (pins load_tag) f under loaded (packed_tag tag)
  pub notes : Did (pages need_checkpoint) f loaded w word

-- The frame f's tag was loaded, which was this one, while the view pinned the frame
pub record LoadsTag (f : ℕ) (tag : Tag) (v w : View) : Type 0 where
  pub pinned : (link v f).role ≢ Absent
  pub loads : Did (pins load_tag) f v w (packed_tag tag)

-- The frame f isn't dirty, by a load, or by the word that was held as a write was to start; no
-- device was called
pub data SeesClean (f : ℕ) (v w : View) : Type 0 where
  by_load : SeesNotDirty f v w → Made [] v w → SeesClean f v w
  by_word : FindsClean f v w → SeesClean f v w

-- the result for a frame, by that of its flush
abbrev pub synced_of : Result FlushedPage FrameFlushError → Result Synced FrameFlushError
synced_of (Ok flush.Written) = Ok Written
synced_of (Ok flush.Clean) = Ok Clean
synced_of (Err why) = Err why

-- The frame f was pinned as its header was unlocked, whose word was `word`, with no more usage.
-- Last of all that pin was given up, and a backend woken that waits for its own to be the only one;
-- or the view pinned the frame before
pub data PinsUnder (f word : ℕ) (v w : View) : Type 0 where
  pinned_anew : (x u y : View) → OnlyRises v x → Did (pins pin_victim) f x u word → OnlyRises u y
      → Woken f y w → PinsUnder f word v w
  pinned_before : (link v f).role ≢ Absent → PinsUnder f word v w

-- what a dirty frame's state word shows, too
pub record IsDirty (w : StateWord) : Type 0 where
  pub dirty : w.dirty ≡ true
  pub tagged : w.tag_valid ≡ true
  pub few : w.pins ≤ 64

-- what comes of a frame at once, by its state word, or that it is to be written
abbrev pub ComesAtOnce : SyncOnly → StateWord → Option Synced → Type 0
ComesAtOnce only w (Some Skipped) = passes_over only w ≡ true
ComesAtOnce only w (Some Clean) = (passes_over only w ≡ false) × (w.dirty ≡ false)
ComesAtOnce only w (Some Written) = ⊥
ComesAtOnce only w None = (passes_over only w ≡ false) × (w.dirty ≡ true)

-- A frame that is pinned is left pinned, with nothing done there, and what the pin knows it still
-- knows
pub record LeavesPinned (l m : Link) : Type 0 where
  pub calm : HasAtMostLock m
  pub unlocked : m.content ≡ Unlocked
  pub role : m.role ≡ l.role
  pub tag : (tag : ℕ) → l.tag ≡ Some tag → m.tag ≡ Some tag
  pub seen : l.seen_valid ≡ true → m.seen_valid ≡ true

-- how the write of a frame ended, if one began
abbrev pub EndsSync : ℕ → View → View → Result Synced FrameFlushError → Type 0
EndsSync f v w (Ok Written) = EndedWritten f v w
EndsSync f v w (Ok Clean) = Unit {0}
EndsSync f v w (Ok Skipped) = Unit {0}
EndsSync f v w (Err why) = EndedInError f v w

-- The view has seen that a frame has a tag: its pin saw BM_VALID, or it holds the header with
-- BM_TAG_VALID
pub data ShowsTag (l : Link) : Type 0 where
  by_pin : l.role ≢ Absent → l.seen_valid ≡ true → ShowsTag l
  by_header : HoldsWord (HasFlag true) l → ShowsTag l

module _ {L G : Type 0} (contents : L → Option Pages) (t : FrameTable L G) where
  -- The page of the frame f, which was pinned for a block of the relations, went to the block's
  -- lane, or this is why not
  pub record WritesBlock (f : ℕ) (v w : View)
      (r : Result FlushedPage FrameFlushError) : Type 0 where
    pub tag : Tag
    pub loads : Within (LoadsTag f tag) v w
    pub named : names_block tag ≡ true
    pub listed : has_block (relations_of t) tag ≡ true
    pub answer : FlushAnswer contents t (lane_number tag (lanes_in t)) tag f v w r

  -- the answer for a frame that was pinned to be written
  abbrev pub PinnedAnswer : ℕ → View → View → Result Synced FrameFlushError → Type 0
  PinnedAnswer f v w (Ok Skipped) = ⊥
  PinnedAnswer f v w (Ok Clean) = SeesClean f v w
  PinnedAnswer f v w (Ok Written) = WritesBlock f v w (Ok flush.Written)
  PinnedAnswer f v w (Err why) = WritesBlock f v w (Err why)

  -- the answer for the frame f, whose state word was `word` at the look that led to the view
  -- `looked`
  abbrev pub SyncAnswer : SyncOnly → ℕ → ℕ → View → View → View → Result Synced FrameFlushError
      → Type 0
  SyncAnswer only word f v looked w (Ok Skipped) =
      (passes_over only (fields word) ≡ true) × Made [] v w
  SyncAnswer only word f v looked w (Ok Clean) = (passes_over only (fields word) ≡ false)
      × (((fields word).dirty ≡ false) ⊎ (PinsUnder f word looked w × SeesClean f looked w))
      × Made [] v w
  SyncAnswer only word f v looked w (Ok Written) =
      (passes_over only (fields word) ≡ false) × PinsUnder f word looked w
      × WritesBlock f v w (Ok flush.Written)
  SyncAnswer only word f v looked w (Err why) =
      (passes_over only (fields word) ≡ false) × PinsUnder f word looked w
      × WritesBlock f v w (Err why)

  -- The state word of the frame f was looked at under its header, and by that the frame was passed
  -- over or written (`SyncOneBuffer`)
  pub record SyncsFrame (only : SyncOnly) (f : ℕ) (v w : View)
      (r : Result Synced FrameFlushError) : Type 0 where
    pub word : ℕ
    pub looked : View
    pub looks : LooksUnderHeader f word v looked
    pub until : OnlyRises looked w
    -- the words that were loaded and changed are of f, but for loads of words of no frame
    pub lists : ListsOnly f v w
    pub came : SyncAnswer only word f v looked w r

  -- What a frame that was pinned to be written, or was not written, makes of the view
  pub record FlushesPinned (f : ℕ) (v w : View) (r : Result Synced FrameFlushError) : Type 0 where
    pub works : WorksAt f v w
    pub notes : KeepsNotes (link v f) (link w f)
    pub answer : PinnedAnswer f v w r
    pub met : w.met ≡ met_flushing r v.met
    pub ended : EndsSync f v w r

  -- What a frame that was looked at, and written or passed over, makes of the view
  pub record SyncsOne (only : SyncOnly) (f : ℕ) (v w : View)
      (r : Result Synced FrameFlushError) : Type 0 where
    pub works : WorksAt f v w
    pub notes : KeepsNotes (link v f) (link w f)
    pub lock : (link w f).content ≡ (link v f).content
    pub syncs : SyncsFrame only f v w r
    -- the view's checkpoint has not to write a frame that was passed over for the lack of
    -- BM_CHECKPOINT_NEEDED
    pub not_left_to_write : r ≡ Ok Skipped → only ≡ Needed → (link w f).left_to_write ≡ false
    pub met : w.met ≡ met_flushing r v.met
    pub ended : EndsSync f v w r

-- how many pages went to lanes by calls of devices
abbrev pub pages_written : List DeviceCall → ℕ
pages_written [] = 0
pages_written (LaneWrite lane tag page true ∷ calls) = 1 + pages_written calls
pages_written (call ∷ calls) = pages_written calls

-- The calls of devices are syncs of the log and writes of lanes, and this many pages were written
pub record WritesPages (n : ℕ) (v w : View) : Type 0 where
  pub made : List DeviceCall
  pub calls : Made made v w
  pub each : All IsFlushCall made
  pub counted : pages_written made ≡ n

-- what the sync of a lane makes of the view, beside what it has of latches: the call, the fault if
-- it failed, and the mark
abbrev pub synced_work : ℕ → Bool → View → View
synced_work lane done v = record (work_of v) {
  device_calls = v.device_calls ++ LaneSync lane done ∷ [];
  met = met_lane_write done v.met;
  dirtied_or_synced = true;
}

-- The last step to the view left the latch of this lane, one of `lanes`. Nothing else that it has
-- of latches was changed, as how far each lane is swept
pub record LeavesLane (lanes lane : ℕ) (w : View) : Type 0 where
  pub before : View
  pub did : DidTurn false (Lane lane) before w
  pub turned : IsTurned false (Lane lane) before w
  pub wide : length before.lanes ≡ lanes
