-- Calls of devices that flush.
use Rattle.std.proofs.Common.{◌≡◌, ℕ, ◌+◌, Bool, true, false, List, [], ◌∷◌, ◌++◌, refl, arith}
use Rattle.std.specs.Prelude.{min}
use Rattle.std.specs.List.{All}
use Rattle.std.proofs.lemmas.List.Elements.{All-nil, All-cons, All-append}
use Rattle.pin_core.specs.declared.view.DeviceCall.{DeviceCall}
use Rattle.pin_core.specs.declared.view.DeviceCall.TheVariants.{LaneWrite, LogSync}
use Rattle.pin_core.specs.declared.view.View.{View}
use Rattle.pin_core.specs.State.{Page}
use Rattle.buffer_frames.specs.Working.{Made}
use Rattle.std.specs.Prelude.{Option, Ok}
use Rattle.block_tag.specs.Names.{lane_number, packed_tag}
use Rattle.segment_store.specs.Contents.{Pages}
use Rattle.frame_table.specs.declared.table.FrameTable.{FrameTable}
use Rattle.frame_table.specs.Seats.{lanes_in}
use Rattle.buffer_frames.specs.Flushing.{WentToLane, log_syncs}
use Rattle.buffer_frames.proofs.WorkSteps.{made_on}
use Rattle.buffer_frames.specs.declared.syncing.SyncOnly.TheVariants.{Needed}
use Rattle.buffer_frames.specs.declared.syncing.Synced.{Synced}
use Rattle.buffer_frames.specs.declared.syncing.Synced.TheVariants.{Skipped, Clean, Written}
use Rattle.buffer_frames.specs.Syncs.{SyncsFrame, pages_written}
use Rattle.buffer_frames.proofs.PagesWritten.{pages_written-append}
use Rattle.checkpointer.specs.Stages.{IsFlush, FlushesPages, pages_by}

pub flushes_none : (v w : View) → Made [] v w → FlushesPages 0 v w
flushes_none v w none = record { made = []; calls = none; each = All-nil IsFlush; counted = refl }

pub flushes_on : (m n k : ℕ) (v u w : View) → k ≡ min (m + n) 4294967295 → FlushesPages m v u → FlushesPages n u w → FlushesPages k v w
flushes_on m n k v u w sum a b = record {
  made = a.made ++ b.made;
  calls = made_on a.made b.made v u w a.calls b.calls;
  each = All-append IsFlush a.made b.made a.each b.each;
  counted = let parts = pages_written-append a.made b.made in let x = a.counted in let y = b.counted in omega arith;
}

-- a flush of one page
pub flushes_page : (q tag : ℕ) (page : Page) (xs : List DeviceCall) (v w : View) → All IsFlush xs → pages_written xs ≡ 0 → Made (xs ++ LaneWrite q tag page true ∷ []) v w → FlushesPages 1 v w
flushes_page q tag page xs v w each none calls = record {
  made = xs ++ LaneWrite q tag page true ∷ [];
  calls = calls;
  each = All-append IsFlush xs (LaneWrite q tag page true ∷ []) each (All-cons IsFlush (LaneWrite q tag page true) [] refl (All-nil IsFlush));
  counted = let parts = pages_written-append xs (LaneWrite q tag page true ∷ []) in omega arith;
}

-- where a flush of the log made a sync, or none
flushes_syncs : (synced : Bool) → All IsFlush (log_syncs synced) × (pages_written (log_syncs synced) ≡ 0)
flushes_syncs true = (All-cons IsFlush (LogSync true) [] refl (All-nil IsFlush), refl)
flushes_syncs false = (All-nil IsFlush, refl)

went_flushes : (q tag : ℕ) (page : Page) (v w : View) → WentToLane true q tag page v w → FlushesPages 1 v w
went_flushes q tag page v w a = flushes_page q tag a.left (log_syncs a.synced) v w (flushes_syncs a.synced).0 (flushes_syncs a.synced).1 (made_on (log_syncs a.synced) (LaneWrite q tag a.left true ∷ []) v a.ready w a.log_calls a.lane_call)

-- what was done at a frame
pub synced_flushes : {L G : Type 0} (contents : L → Option Pages) (t : FrameTable L G) (f : ℕ) (v w : View) (r : Synced) → SyncsFrame contents t Needed f v w (Ok r) → FlushesPages (pages_by r) v w
synced_flushes contents t f v w Skipped a = flushes_none v w a.came.1
synced_flushes contents t f v w Clean a = flushes_none v w a.came.2
synced_flushes contents t f v w Written a = let b = a.came.2 in went_flushes (lane_number b.tag (lanes_in t)) (packed_tag b.tag) b.answer.page v w b.answer.work
