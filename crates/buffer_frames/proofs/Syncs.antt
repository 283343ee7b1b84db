-- The write of a frame calls devices as a flush does, and is counted.
use Rattle.std.proofs.Common.{◌≡◌, ℕ, [], false, Option, Result, Ok, Err, refl}
use Rattle.access_rings.specs.declared.ring.RingKind.{RingKind}
use Rattle.block_tag.specs.Names.{lane_number}
use Rattle.segment_store.specs.Contents.{Pages}
use Rattle.pin_core.specs.declared.view.View.{View}
use Rattle.io_counts.specs.declared.contexts.ByContext.{ByContext}
use Rattle.io_counts.specs.Counts.{io_with, no_counts}
use Rattle.frame_table.specs.declared.table.FrameTable.{FrameTable}
use Rattle.frame_table.specs.Seats.{lanes_in}
use Rattle.buffer_frames.specs.declared.flushing.FlushedPage.TheVariants as flush
use Rattle.buffer_frames.specs.declared.flushing.FrameFlushError.{FrameFlushError}
use Rattle.buffer_frames.specs.declared.syncing.SyncOnly.{SyncOnly}
use Rattle.buffer_frames.specs.declared.syncing.Synced.{Synced}
use Rattle.buffer_frames.specs.declared.syncing.Synced.TheVariants.{Skipped, Clean, Written}
use Rattle.buffer_frames.specs.Counting.{CountsIo, was_written, writes_of}
use Rattle.buffer_frames.specs.Syncs.{SyncsFrame}
use Rattle.buffer_frames.specs.Working.{Calls, IsFlushCall}
use Rattle.buffer_frames.proofs.Answering.{flush_makes_flush_calls, none_made}
use Rattle.buffer_frames.proofs.Counting.{counts_flushed, counts_made}

module _ {L G : Type 0} (contents : L → Option Pages) (t : FrameTable L G) where
  pub sync_makes_flush_calls : (only : SyncOnly) (f : ℕ) (v w : View) (r : Result Synced FrameFlushError) → SyncsFrame contents t only f v w r → Calls IsFlushCall v w
  sync_makes_flush_calls only f v w (Ok Skipped) s = none_made v w s.came.1
  sync_makes_flush_calls only f v w (Ok Clean) s = none_made v w s.came.2
  sync_makes_flush_calls only f v w (Ok Written) s = let b = s.came.2 in flush_makes_flush_calls contents t (lane_number b.tag (lanes_in t)) b.tag f v w (Ok flush.Written) b.answer
  sync_makes_flush_calls only f v w (Err why) s = let b = s.came.2 in flush_makes_flush_calls contents t (lane_number b.tag (lanes_in t)) b.tag f v w (Err why) b.answer

  -- and its write is counted, if there was one
  pub counts_synced : (context : Option RingKind) (only : SyncOnly) (f : ℕ) (v w : View) (r : Result Synced FrameFlushError) (io io' : ByContext) → SyncsFrame contents t only f v w r → w.cleared ≡ v.cleared → io' ≡ io_with context (writes_of (was_written r)) io → CountsIo context no_counts v w io io'
  counts_synced context only f v w (Ok Skipped) io io' s cleared same = counts_made context false [] v w io io' s.came.1 refl cleared same
  counts_synced context only f v w (Ok Clean) io io' s cleared same = counts_made context false [] v w io io' s.came.2 refl cleared same
  counts_synced context only f v w (Ok Written) io io' s cleared same = let b = s.came.2 in counts_flushed contents t (lane_number b.tag (lanes_in t)) b.tag f context v w (Ok flush.Written) io io' b.answer cleared same
  counts_synced context only f v w (Err why) io io' s cleared same = let b = s.came.2 in counts_flushed contents t (lane_number b.tag (lanes_in t)) b.tag f context v w (Err why) io io' b.answer cleared same
