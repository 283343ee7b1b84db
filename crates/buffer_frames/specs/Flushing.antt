-- How the page of a frame goes to its lane, and why not.
use Rattle.std.specs.Prelude.{◌≡◌, ◌≢◌, ℕ, ◌<◌, ◌≤◌, Bool, true, false, List, [], ◌∷◌, Option, Some}
use Rattle.std.specs.Prelude.{None, Result, Ok, Err}
use Rattle.access_rings.specs.declared.ring.RingKind.TheVariants.{BulkRead}
use Rattle.access_rings.specs.RingState.{RingState, Rejects, ring_after_rejection}
use Rattle.block_tag.specs.declared.tag.Tag.{Tag}
use Rattle.block_tag.specs.Names.{packed_tag}
use Rattle.page_layout.specs.Fields.{lsn_of}
use Rattle.page_layout.specs.Soundness.{is_sound_page}
use Rattle.segment_store.specs.Contents.{Pages}
use Rattle.state_word.specs.declared.word.IoEnd.TheVariants.{Bad, WriteOk}
use Rattle.state_word.specs.declared.word.StateWord.{StateWord}
use Rattle.state_word.specs.Fields.{fields}
use Rattle.pin_core.specs.declared.view.DeviceCall.{DeviceCall}
use Rattle.pin_core.specs.declared.view.DeviceCall.TheVariants.{LaneWrite, LogSync}
use Rattle.pin_core.specs.declared.view.Io.TheVariants.{Output}
use Rattle.pin_core.specs.declared.view.FailedCalls.{FailedCalls}
use Rattle.pin_core.specs.declared.view.View.{View}
use Rattle.pin_core.specs.State.{Page}
use Rattle.frame_table.specs.declared.table.FrameTable.{FrameTable}
use Rattle.page_core.specs.Kinds.{clear_just_dirtied, share}
use Rattle.frame_table.specs.FrameSteps.{Did, looking}
use Rattle.frame_table.specs.Kinds.{pages}
use Rattle.frame_table.specs.Opened.{WasAtOpening}
use Rattle.frame_table.specs.WordSteps.{DidWord, load_flushed}
use Rattle.content_locks.specs.Io.{FindsNothing}
use Rattle.content_locks.specs.declared.locks.TryLock.{TryLock}
use Rattle.content_locks.specs.Locks.{Copies, LocksAtOnce, RefusesLock, ShowsExclusive}
use Rattle.wal_flush.specs.declared.flushes.FlushLog.{FlushLog}
use Rattle.wal_flush.specs.declared.flushes.FlushLog.TheVariants.{LogShort, LogDown, LogFault}
use Rattle.wal_flush.specs.Flushes.{FlushRefused}
use Rattle.frame_table.specs.Seats.{OnlyRises}
use Rattle.buffer_frames.specs.declared.flushing.FrameFlushError.{FrameFlushError}
use Rattle.buffer_frames.specs.declared.flushing.FrameFlushError.TheVariants.{Log, WriteFault}
use Rattle.buffer_frames.specs.declared.flushing.FlushedPage.{FlushedPage}
use Rattle.buffer_frames.specs.declared.flushing.FlushedPage.TheVariants as flush
use Rattle.buffer_frames.specs.declared.flushing.FlushedPage.TheVariants.{Written}
use Rattle.buffer_frames.specs.declared.flushing.VictimPage.{VictimPage}
use Rattle.buffer_frames.specs.declared.flushing.VictimPage.TheVariants.{Clean, Spared}
use Rattle.buffer_frames.specs.Working.{EndsWork, Made, Within, met_log, met_write}

-- whether a flush wrote the page
abbrev pub is_written : FlushedPage → Bool
is_written flush.Written = true
is_written flush.Clean = false

-- the faults that were met by a write of a lane that was done, or wasn't
abbrev pub met_lane_write : Bool → FailedCalls → FailedCalls
met_lane_write true m = m
met_lane_write false m = met_write m

-- the calls of the log that a flush makes: a sync, or none
abbrev pub log_syncs : Bool → List DeviceCall
log_syncs true = LogSync true ∷ []
log_syncs false = []

-- the calls of the log of a flush that is refused: the sync that failed, if one did
abbrev pub syncs_refused : FlushLog → List DeviceCall
syncs_refused LogFault = LogSync false ∷ []
syncs_refused (LogDown at) = []
syncs_refused (LogShort lsn end) = []

-- The lane q was called for the page, and this is what it has of the block since: the page itself,
-- if the write was done
pub record CallsLane (done : Bool) (q tag : ℕ) (page : Page) (v w : View) : Type 0 where
  pub left : Page
  pub whole : done ≡ true → left ≡ page
  pub calls : Made (LaneWrite q tag left done ∷ []) v w

-- The page went to the lane q, or failed to. Before that the log was synced at most, and the
-- flushed position was seen at the page's position or past it
pub record WentToLane (done : Bool) (q tag : ℕ) (page : Page) (v w : View) : Type 0 where
  -- the view by then
  pub ready : View
  pub since : OnlyRises v ready
  pub synced : Bool
  pub log_calls : Made (log_syncs synced) v ready
  pub log_first : lsn_of page ≤ ready.flushed
  -- what the lane has of the block since the one call of it: the page itself, if the write was done
  pub left : Page
  pub whole : done ≡ true → left ≡ page
  pub lane_call : Made (LaneWrite q tag left done ∷ []) ready w
  pub until : OnlyRises ready w

-- The frame wasn't dirty, by a word that was loaded under its header in this call, and no device
-- was called
pub record FindsClean (f : ℕ) (v w : View) : Type 0 where
  pub finds : Within (FindsNothing false f) v w
  pub calls : w.device_calls ≡ v.device_calls

-- In this call a write of the frame f ended with an error, and no read or write ended after it. The
-- state word that it stored is valid and dirty, and has BM_IO_ERROR
pub record EndedInError (f : ℕ) (v w : View) : Type 0 where
  pub stored : StateWord
  pub ends : Within (EndsWork Output Bad f stored) v w
  pub last : w.last_ended ≡ Some stored
  pub valid : stored.valid ≡ true
  pub dirty : stored.dirty ≡ true
  pub failed : stored.failed ≡ true
  pub output : w.had_output ≡ true

-- In this call a write of the frame f ended without one, and no read or write ended after it. The
-- state word that it stored is valid and has no BM_IO_ERROR. It is dirty only if it has
-- BM_JUST_DIRTIED: the frame was dirtied again
pub record EndedWritten (f : ℕ) (v w : View) : Type 0 where
  pub stored : StateWord
  pub ends : Within (EndsWork Output WriteOk f stored) v w
  pub last : w.last_ended ≡ Some stored
  pub valid : stored.valid ≡ true
  pub done : stored.failed ≡ false
  pub again : stored.dirty ≡ true → stored.just_dirtied ≡ true
  pub output : w.had_output ≡ true

-- BM_JUST_DIRTIED was cleared as the header of f was unlocked
abbrev pub ClearsJust : ℕ → View → View → Type 0
ClearsJust f v w = (word : ℕ) × Did (pages clear_just_dirtied) f v w word

-- the faults that were met, by the refusal, and by the answer
abbrev pub met_refused : FrameFlushError → FailedCalls → FailedCalls
met_refused (WriteFault tag) m = met_write m
met_refused (Log LogFault) m = met_log m
met_refused (Log (LogDown at)) m = m
met_refused (Log (LogShort lsn end)) m = m

abbrev pub met_flushing : {A : Type 0} → Result A FrameFlushError → FailedCalls → FailedCalls
met_flushing (Ok done) m = m
met_flushing (Err why) m = met_refused why m

-- The page is the one of the frame f, which is sound, as it was copied under the content lock in
-- this call, after BM_JUST_DIRTIED was cleared. This came of its write
pub record CopiesAnd (Work : Page → View → View → Type 0) (f : ℕ) (v w : View) : Type 0 where
  pub page : Page
  pub sound : is_sound_page page ≡ true
  -- the view before the copy
  pub cleared : View
  pub clears : Within (ClearsJust f) v cleared
  pub copies : Within (Copies f page) cleared w
  pub work : Work page v w

-- The ring gave the frame f up. It is for bulk reads, the frame came from its current place, and
-- the log would have to be flushed for the frame's page, as that was copied in this call and the
-- flushed position loaded. The place is empty then
pub record RejectsVictim (f : ℕ) (from_ring : Bool) (before after : Option RingState)
    (v w : View) : Type 0 where
  pub came : from_ring ≡ true
  pub ring : RingState
  pub was : before ≡ Some ring
  pub rejects : Rejects ring f
  pub empty : after ≡ Some (ring_after_rejection ring)
  pub page : Page
  pub copies : Within (Copies f page) v w
  pub flushed : ℕ
  pub loads : Within (λ a b. DidWord load_flushed a b flushed) v w
  pub unflushed : flushed < lsn_of page

-- The ring keeps a dirty frame f: there is no ring, or the frame didn't come from its current
-- place; or the ring isn't for bulk reads; or the log needn't be flushed for the frame's page, as
-- that was copied in this call and the flushed position loaded
pub data IsNotRejected (f : ℕ) (from_ring : Bool) (ring : Option RingState)
    (v w : View) : Type 0 where
  no_ring : ring ≡ None → IsNotRejected f from_ring ring v w
  elsewhere : from_ring ≡ false → IsNotRejected f from_ring ring v w
  other_kind : (r : RingState) → ring ≡ Some r → r.kind ≢ BulkRead
      → IsNotRejected f from_ring ring v w
  covered : (page : Page) (flushed : ℕ) → Within (Copies f page) v w
      → Within (λ a b. DidWord load_flushed a b flushed) v w → lsn_of page ≤ flushed
      → IsNotRejected f from_ring ring v w

-- The state word of the frame f was loaded, which is dirty
pub record SeesDirty (f : ℕ) (v w : View) : Type 0 where
  pub word : ℕ
  pub looks : Did looking f v w word
  pub dirty : (fields word).dirty ≡ true

-- The state word of the frame f was loaded, which is dirty, and then its content lock was shared,
-- without a wait (`LWLockConditionalAcquire`)
pub record SharesDirty (f : ℕ) (v w : View) : Type 0 where
  pub seen : View
  pub sees : SeesDirty f v seen
  pub shares : LocksAtOnce share f seen w

module _ {L G : Type 0} (contents : L → Option Pages) (t : FrameTable L G) where
  -- What a refusal of the log shows, of the page that was to be written: the log ended before its
  -- position, which is that of the page that the block's lane held as the table was opened, if that
  -- is known; or the log is down, and that was seen. The end that is named was seen, and isn't
  -- before one that was seen at first
  abbrev pub LogShows : FlushLog → Tag → Page → View → View → Type 0
  LogShows (LogShort lsn end) tag page v w =
      (lsn ≡ lsn_of page) × (end < lsn) × (v.end_seen ≤ end) × (end ≤ w.end_seen)
      × WasAtOpening contents t tag page
  LogShows (LogDown at) tag page v w = (v.end_seen ≤ at) × (at ≤ w.end_seen) × (w.saw_down ≡ true)
  LogShows LogFault tag page v w = w.saw_down ≡ true

  -- The log was not flushed up to the page's position, for this reason, and no lane was called
  pub record LogRefuses (why : FlushLog) (tag : Tag) (page : Page) (v w : View) : Type 0 where
    pub cause : Within (λ a b. FlushRefused (lsn_of page) a b why) v w
    pub calls : Made (syncs_refused why) v w
    pub shows : LogShows why tag page v w

  -- the result of a write of a page that was copied
  abbrev pub WriteAnswer : ℕ → Tag → Page → View → View → Result Unit FrameFlushError → Type 0
  WriteAnswer q tag page v w (Ok done) = WentToLane true q (packed_tag tag) page v w
  WriteAnswer q tag page v w (Err (Log why)) = LogRefuses why tag page v w
  WriteAnswer q tag page v w (Err (WriteFault failed)) =
      (failed ≡ tag) × WentToLane false q (packed_tag tag) page v w

  -- the result of a flush of the frame f
  abbrev pub FlushAnswer : ℕ → Tag → ℕ → View → View → Result FlushedPage FrameFlushError → Type 0
  FlushAnswer q tag f v w (Ok flush.Written) =
      CopiesAnd (λ page a b. WriteAnswer q tag page a b (Ok tt)) f v w
  FlushAnswer q tag f v w (Ok flush.Clean) = FindsClean f v w
  FlushAnswer q tag f v w (Err why) =
      CopiesAnd (λ page a b. WriteAnswer q tag page a b (Err why)) f v w

  -- A dirty victim was flushed, with this answer: its content lock was shared, the ring didn't
  -- reject the frame, and no device was called before the flush
  pub record FlushesVictim (q : ℕ) (tag : Tag) (f : ℕ) (from_ring : Bool) (ring : Option RingState)
      (v w : View) (answer : Result FlushedPage FrameFlushError) : Type 0 where
    pub shared : View
    pub kept : View
    pub shares : SharesDirty f v shared
    pub keeps : IsNotRejected f from_ring ring shared kept
    pub since : OnlyRises v kept
    pub calls : Made [] v kept
    pub flush : FlushAnswer q tag f kept w answer
    pub written : answer ≡ Ok Written → EndedWritten f kept w

  -- A victim may be taken: it was clean by the word that was loaded, or it was flushed. Its page
  -- was written, or wasn't
  pub data FreesVictim (q : ℕ) (tag : Tag) (f : ℕ) (from_ring : Bool) (ring : Option RingState)
      (v w : View) : Bool → Type 0 where
    clean : (word : ℕ) → Did looking f v w word → (fields word).dirty ≡ false → Made [] v w
        → FreesVictim q tag f from_ring ring v w false
    flushed : (page : FlushedPage) → FlushesVictim q tag f from_ring ring v w (Ok page)
        → FreesVictim q tag f from_ring ring v w (is_written page)

  -- A victim is spared: it is dirty, and its content lock was refused, or the ring gave it up
  pub data SparesVictim (f : ℕ) (from_ring : Bool) (before after : Option RingState)
      (v w : View) : Type 0 where
    locked : {u : View} (why : TryLock) → SeesDirty f v u → RefusesLock ShowsExclusive f u w why
        → after ≡ before → Made [] v w → SparesVictim f from_ring before after v w
    rejected : {u : View} → SharesDirty f v u → RejectsVictim f from_ring before after u w
        → Made [] v w → SparesVictim f from_ring before after v w

  -- the answer for a victim that has this tag
  abbrev pub VictimAnswer : ℕ → Tag → ℕ → Bool → Option RingState → Option RingState
      → View → View → Result VictimPage FrameFlushError → Type 0
  VictimAnswer q tag f from_ring before after v w (Ok (Clean written)) = (after ≡ before)
      × FreesVictim q tag f from_ring before v w written
  VictimAnswer q tag f from_ring before after v w (Ok Spared)
      = SparesVictim f from_ring before after v w
  VictimAnswer q tag f from_ring before after v w (Err why) = (after ≡ before)
      × FlushesVictim q tag f from_ring before v w (Err why)
