-- How a pass writes the page of a frame, and what it is refused for.
use Rattle.std.specs.Prelude.{◌≡◌, ◌≤◌, ℕ, Bool, true, false, Option, Result, Ok, Err}
use Rattle.block_tag.specs.declared.tag.Tag.{Tag}
use Rattle.page_layout.specs.Fields.{lsn_of}
use Rattle.page_layout.specs.Soundness.{is_sound_page}
use Rattle.segment_store.specs.Contents.{Pages}
use Rattle.pin_core.specs.declared.view.View.{View}
use Rattle.pin_core.specs.State.{Page}
use Rattle.frame_table.specs.declared.table.FrameTable.{FrameTable}
use Rattle.frame_table.specs.Seats.{OnlyRises}
use Rattle.frame_table.specs.Opened.{WasAtOpening}
use Rattle.wal_flush.specs.declared.flushes.FlushLog.TheVariants as log
use Rattle.buffer_frames.specs.declared.flushing.FrameFlushError as frames
use Rattle.buffer_frames.specs.declared.flushing.FrameFlushError.TheVariants as flush
use Rattle.buffer_frames.specs.declared.flushing.FlushedPage.{FlushedPage}
use Rattle.buffer_frames.specs.declared.flushing.FlushedPage.TheVariants as flushed
use Rattle.buffer_frames.specs.Flushing.{EndedInError, met_refused}
use Rattle.buffer_frames.specs.Syncs.{WritesBlock}
use Rattle.backend_pass.specs.declared.errors.FlushError.{FlushError}
use Rattle.backend_pass.specs.declared.errors.FlushError.TheVariants.{WriteFault, LogFault, LogDown}
use Rattle.backend_pass.specs.declared.errors.FlushError.TheVariants.{LogShort}
use Rattle.backend_pass.specs.declared.met.Shown.{Shown}
use Rattle.backend_pass.specs.Passes.{PassState, shown_log, shown_write}

-- the refusal by a pass's frames that the pass hands on as this one
abbrev pub frame_refusal : FlushError → frames.FrameFlushError
frame_refusal (WriteFault tag) = flush.WriteFault tag
frame_refusal LogFault = flush.Log log.LogFault
frame_refusal (LogDown at) = flush.Log (log.LogDown at)
frame_refusal (LogShort lsn end) = flush.Log (log.LogShort lsn end)

-- the answer of a pass's frames, by the pass's answer
abbrev pub frame_answer : {A : Type 0} → Result A FlushError → Result A frames.FrameFlushError
frame_answer (Ok done) = Ok done
frame_answer (Err why) = Err (frame_refusal why)

-- the answer of a pass's frames to a flush, by the pass's answer: the page was written, or was
-- clean
abbrev pub page_answer : Result Bool FlushError → Result FlushedPage frames.FrameFlushError
page_answer (Ok true) = Ok flushed.Written
page_answer (Ok false) = Ok flushed.Clean
page_answer (Err why) = Err (frame_refusal why)

-- the call is refused because the page is past the log's end
abbrev pub IsShort : FlushError → Type 0
IsShort (LogShort lsn end) = Unit {0}
IsShort _ = ⊥

-- the call is Ok, or is refused because the page is past the log's end
abbrev pub IsOkOrShort : {A : Type 0} → Result A FlushError → Type 0
IsOkOrShort (Ok done) = Unit {0}
IsOkOrShort (Err why) = IsShort why

-- what is shown after a refusal
abbrev pub shown_unflushed : FlushError → Shown → Shown
shown_unflushed (WriteFault tag) s = shown_write s
shown_unflushed LogFault s = shown_log s
shown_unflushed (LogDown at) s = s
shown_unflushed (LogShort lsn end) s = s

-- what is shown after a page was written, was clean, or was not written
abbrev pub shown_page : Result Bool FlushError → Shown → Shown
shown_page (Ok wrote) s = s
shown_page (Err why) s = shown_unflushed why s

-- Each sound page that the block's lane can have held as the table was opened has its position at
-- `end` or before it
abbrev pub WasWithin : {L G : Type 0} → (L → Option Pages) → FrameTable L G → Tag → ℕ → Type 0
WasWithin contents t tag end =
    (page : Page) → is_sound_page page ≡ true → WasAtOpening contents t tag page → lsn_of page ≤ end

module _ {L G : Type 0} (contents : L → Option Pages) (t : FrameTable L G) where
  -- In this call the page of a frame was not written, for this reason
  pub record RefusesFrame (p q : PassState) (why : FlushError) : Type 0 where
    pub before : View
    pub since : OnlyRises p.view before
    pub frame : ℕ
    pub refused : WritesBlock contents t frame before q.view (Err (frame_refusal why))
    pub ended : EndedInError frame before q.view
    pub met : q.view.met ≡ met_refused (frame_refusal why) p.view.met
