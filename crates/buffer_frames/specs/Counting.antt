-- What a backend counts of its calls of devices, and of its victims.
use Rattle.std.specs.Prelude.{◌≡◌, ℕ, ◌+◌, Bool, true, false, List, [], ◌∷◌, Option}
use Rattle.std.specs.Prelude.{Result, Ok, Err}
use Rattle.access_rings.specs.declared.ring.RingKind.{RingKind}
use Rattle.pin_core.specs.declared.view.DeviceCall.{DeviceCall}
use Rattle.pin_core.specs.declared.view.DeviceCall.TheVariants.{LaneRead}
use Rattle.pin_core.specs.declared.view.View.{View}
use Rattle.io_counts.specs.declared.contexts.ByContext.{ByContext}
use Rattle.io_counts.specs.declared.contexts.ContextCounts.{ContextCounts}
use Rattle.io_counts.specs.declared.contexts.IoEvent.TheVariants.{Write}
use Rattle.io_counts.specs.Counts.{counts_sum, io_with, no_counts, one_of}
use Rattle.buffer_frames.specs.declared.flushing.FlushedPage.{FlushedPage}
use Rattle.buffer_frames.specs.declared.flushing.FrameFlushError.{FrameFlushError}
use Rattle.buffer_frames.specs.declared.syncing.Synced.{Synced}
use Rattle.buffer_frames.specs.declared.syncing.Synced.TheVariants.{Written}
use Rattle.buffer_frames.specs.Flushing.{is_written}
use Rattle.buffer_frames.specs.Syncs.{pages_written}
use Rattle.buffer_frames.specs.Working.{Made}

-- how many pages lanes gave by calls of devices, sound or not
abbrev pub pages_read : List DeviceCall → ℕ
pages_read [] = 0
pages_read (LaneRead lane tag true ∷ calls) = 1 + pages_read calls
pages_read (call ∷ calls) = pages_read calls

-- what counts of such calls
abbrev pub done_by : List DeviceCall → ContextCounts
done_by calls = record no_counts { reads = pages_read calls; writes = pages_written calls }

-- a write is counted, if there was one
abbrev pub writes_of : Bool → ContextCounts
writes_of true = one_of Write
writes_of false = no_counts

-- The view became w, and the counts io', in this context, by these hits, evictions and reuses and
-- by calls of devices
pub record CountsIo (context : Option RingKind) (events : ContextCounts) (v w : View)
    (io io' : ByContext) : Type 0 where
  -- these were the calls of devices
  pub made : List DeviceCall
  pub calls : Made made v w
  -- each read and each write of a lane that was done is counted, and each of those events
  pub counted : io' ≡ io_with context (counts_sum events (done_by made)) io
  -- so many frames lost their tags
  pub cleared : w.cleared ≡ v.cleared + (events.evictions + events.reuses)

-- whether a page was written, by the answer of its flush, and by that of a frame's
abbrev pub page_written : Result FlushedPage FrameFlushError → Bool
page_written (Ok page) = is_written page
page_written (Err why) = false

abbrev pub was_written : Result Synced FrameFlushError → Bool
was_written (Ok Written) = true
was_written (Ok synced) = false
was_written (Err why) = false
