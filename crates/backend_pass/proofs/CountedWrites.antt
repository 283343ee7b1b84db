-- Writes of lanes are counted, call after call.
use Rattle.std.proofs.Common.{◌≡◌, ℕ, ◌+◌, List, [], ◌++◌, Option, None, Result, refl, sym, ap, ◌∙◌, subst, arith}
use Rattle.std.proofs.lemmas.List.{append_cancel_left}
use Rattle.block_tag.specs.declared.tag.Tag.{Tag}
use Rattle.segment_store.specs.Contents.{Pages}
use Rattle.pin_core.specs.declared.view.DeviceCall.{DeviceCall}
use Rattle.frame_table.specs.declared.table.FrameTable.{FrameTable}
use Rattle.io_counts.specs.declared.contexts.ByContext.{ByContext}
use Rattle.io_counts.specs.declared.contexts.ContextCounts.{ContextCounts}
use Rattle.io_counts.specs.Counts.{counts_sum, io_with, no_counts}
use Rattle.io_counts.specs.Found.{found_part}
use Rattle.io_counts.proofs.Counts.{io_none, io_twice, same_counts}
use Rattle.buffer_frames.specs.Counting.{CountsIo, done_by, pages_read}
use Rattle.buffer_frames.specs.declared.flushing.FlushedPage.{FlushedPage}
use Rattle.buffer_frames.specs.declared.flushing.FrameFlushError.{FrameFlushError}
use Rattle.buffer_frames.specs.declared.syncing.SyncOnly.{SyncOnly}
use Rattle.buffer_frames.specs.declared.syncing.Synced.{Synced}
use Rattle.buffer_frames.specs.Flushing.{FlushAnswer}
use Rattle.buffer_frames.specs.Syncs.{SyncsFrame, pages_written}
use Rattle.buffer_frames.specs.Working.{Calls, IsFlushCall, Made}
use Rattle.buffer_frames.proofs.Answering.{flush_makes_flush_calls}
use Rattle.buffer_frames.proofs.PagesWritten.{flush_reads_none, pages_read-append, pages_written-append}
use Rattle.buffer_frames.proofs.Syncs.{sync_makes_flush_calls}
use Rattle.buffer_frames.proofs.WorkSteps.{made_none, made_on}
use Rattle.backend_pass.specs.Passes.{CountsWrites, PassState}

-- what counts of calls by which nothing was read and nothing written
none_done : (made : List DeviceCall) → pages_read made ≡ 0 → pages_written made ≡ 0 → counts_sum no_counts (done_by made) ≡ no_counts
none_done made unread unwritten = same_counts (counts_sum no_counts (done_by made)) no_counts refl (omega arith) (omega arith) refl refl

-- what counts of calls one after another
done_on : (a b : List DeviceCall) → counts_sum (counts_sum no_counts (done_by a)) (counts_sum no_counts (done_by b)) ≡ counts_sum no_counts (done_by (a ++ b))
done_on a b = same_counts (counts_sum (counts_sum no_counts (done_by a)) (counts_sum no_counts (done_by b))) (counts_sum no_counts (done_by (a ++ b))) refl (omega (arith, pages_read-append a b)) (omega (arith, pages_written-append a b)) refl refl

-- calls of devices by which nothing was read and nothing written leave the counts
pub counted_unmade : (made : List DeviceCall) (p q : PassState) → Made made p.view q.view → pages_read made ≡ 0 → pages_written made ≡ 0 → q.view.cleared ≡ p.view.cleared → q.io ≡ p.io → CountsWrites p q
counted_unmade made p q calls unread unwritten cleared io = record {
  counts = record {
    made = made;
    calls = calls;
    counted = io ∙ sym (io_none None p.io) ∙ ap (λ (events : ContextCounts). io_with None events p.io) (sym (none_done made unread unwritten));
    cleared = omega (arith, cleared);
  };
  unread = unread;
}

-- as no call does
pub counted_none : (p q : PassState) → q.view.device_calls ≡ p.view.device_calls → q.view.cleared ≡ p.view.cleared → q.io ≡ p.io → CountsWrites p q
counted_none p q calls cleared io = counted_unmade [] p q (made_none p.view q.view calls) refl refl cleared io

-- some after others
pub counted_on : (p q r : PassState) → CountsWrites p q → CountsWrites q r → CountsWrites p r
counted_on p q r a b =
    let first = a.counts.made in
    let more = b.counts.made in
    let before = counts_sum no_counts (done_by first) in
    let after = counts_sum no_counts (done_by more) in
    record {
      counts = record {
        made = first ++ more;
        calls = made_on first more p.view q.view r.view a.counts.calls b.counts.calls;
        counted = b.counts.counted
            ∙ ap (λ (io : ByContext). io_with None after io) a.counts.counted
            ∙ io_twice None before after p.io
            ∙ ap (λ (events : ContextCounts). io_with None events p.io) (done_on first more);
        cleared = let x = a.counts.cleared in let y = b.counts.cleared in omega arith;
      };
      unread = let x = a.unread in let y = b.unread in omega (arith, pages_read-append first more);
    }

-- by calls that flushes make
counted_by : (p q : PassState) → Calls IsFlushCall p.view q.view → CountsIo None no_counts p.view q.view p.io q.io → CountsWrites p q
counted_by p q flush counts =
    let same : counts.made ≡ flush.made = append_cancel_left p.view.device_calls counts.made flush.made (sym counts.calls ∙ flush.calls) in
    record { counts = counts; unread = ap pages_read same ∙ flush_reads_none flush.made flush.each }

module _ {L G : Type 0} (contents : L → Option Pages) (t : FrameTable L G) where
  -- a frame's page was written, or wasn't
  pub counted_synced : (only : SyncOnly) (f : ℕ) (p q : PassState) (r : Result Synced FrameFlushError) → SyncsFrame contents t only f p.view q.view r → CountsIo None no_counts p.view q.view p.io q.io → CountsWrites p q
  counted_synced only f p q r syncs counts = counted_by p q (sync_makes_flush_calls contents t only f p.view q.view r syncs) counts

  pub counted_page : (lane : ℕ) (tag : Tag) (f : ℕ) (p q : PassState) (r : Result FlushedPage FrameFlushError) → FlushAnswer contents t lane tag f p.view q.view r → CountsIo None no_counts p.view q.view p.io q.io → CountsWrites p q
  counted_page lane tag f p q r answer counts = counted_by p q (flush_makes_flush_calls contents t lane tag f p.view q.view r answer) counts

pub counted_from : (a p q : PassState) → p ≡ a → CountsWrites p q → CountsWrites a q
counted_from a p q e w = subst (λ (x : PassState). CountsWrites x q) e w

-- the hits and the reads are as they were
events_unread : (made : List DeviceCall) → pages_read made ≡ 0 → (io : ByContext) → found_part (io_with None (counts_sum no_counts (done_by made)) io) ≡ found_part io
events_unread made unread io =
    let same : found_part (io_with None (counts_sum no_counts (done_by made)) io) ≡ found_part (io_with None no_counts io) = ap (λ (n : ℕ). found_part (io_with None (record no_counts { reads = 0 + n }) io)) unread in
    same ∙ ap found_part (io_none None io)

pub found_kept : (p q : PassState) → CountsWrites p q → found_part q.io ≡ found_part p.io
found_kept p q w = ap found_part w.counts.counted ∙ events_unread w.counts.made w.unread p.io
