-- What is counted, by steps and calls one after another.
use Rattle.std.proofs.Common.{◌≡◌, ℕ, ◌+◌, Bool, true, false, List, [], ◌∷◌, ◌++◌, Option, Some, None, Result, Ok, Err, refl, sym, ap, ◌∙◌, subst, arith}
use Rattle.std.specs.Prelude.{option_map}
use Rattle.access_rings.specs.declared.ring.RingKind.{RingKind}
use Rattle.access_rings.specs.RingState.{RingState}
use Rattle.block_tag.specs.declared.tag.Tag.{Tag}
use Rattle.segment_store.specs.Contents.{Pages}
use Rattle.pin_core.specs.declared.view.DeviceCall.{DeviceCall}
use Rattle.pin_core.specs.declared.view.DeviceCall.TheVariants.{LaneWrite}
use Rattle.pin_core.specs.declared.view.View.{View}
use Rattle.pin_core.specs.State.{Page}
use Rattle.io_counts.specs.declared.contexts.ByContext.{ByContext}
use Rattle.io_counts.specs.declared.contexts.ContextCounts.{ContextCounts}
use Rattle.io_counts.specs.declared.contexts.IoEvent.TheVariants.{Hit}
use Rattle.io_counts.specs.Counts.{context_of, counts_sum, io_with, no_counts, one_of}
use Rattle.io_counts.proofs.Counts.{io_none, io_twice, none_sum, same_counts}
use Rattle.frame_table.specs.declared.table.FrameTable.{FrameTable}
use Rattle.wal_flush.specs.declared.flushes.FlushLog.{FlushLog}
use Rattle.wal_flush.specs.declared.flushes.FlushLog.TheVariants.{LogShort, LogDown, LogFault}
use Rattle.buffer_frames.specs.declared.flushing.FlushedPage.{FlushedPage}
use Rattle.buffer_frames.specs.declared.flushing.FlushedPage.TheVariants as flush
use Rattle.buffer_frames.specs.declared.flushing.FrameFlushError.{FrameFlushError}
use Rattle.buffer_frames.specs.declared.flushing.FrameFlushError.TheVariants.{Log, WriteFault}
use Rattle.buffer_frames.specs.declared.flushing.VictimPage.{VictimPage}
use Rattle.buffer_frames.specs.declared.flushing.VictimPage.TheVariants.{Clean, Spared}
use Rattle.buffer_frames.specs.Counting.{CountsIo, done_by, page_written, writes_of}
use Rattle.buffer_frames.specs.Flushing.{FlushAnswer, FreesVictim, VictimAnswer, WentToLane, clean, flushed, locked, log_syncs, rejected, syncs_refused}
use Rattle.buffer_frames.specs.Outside.{RingShape, chosen_of, outside_of, ring_shape}
use Rattle.buffer_frames.specs.VictimChoices.{taken_from}
use Rattle.buffer_frames.specs.Working.{Made}
use Rattle.buffer_frames.proofs.PagesWritten.{pages_read-append, pages_written-append}
use Rattle.buffer_frames.proofs.WorkSteps.{made_after, made_before, made_none, made_on, made_same}

-- events and calls, and then more of them
sums_on : (a b : ContextCounts) (xs ys : List DeviceCall) → counts_sum (counts_sum a (done_by xs)) (counts_sum b (done_by ys)) ≡ counts_sum (counts_sum a b) (done_by (xs ++ ys))
sums_on a b xs ys = let r = pages_read-append xs ys in let w = pages_written-append xs ys in same_counts (counts_sum (counts_sum a (done_by xs)) (counts_sum b (done_by ys))) (counts_sum (counts_sum a b) (done_by (xs ++ ys))) (omega arith) (omega arith) (omega arith) (omega arith) (omega arith)

-- what is counted of a view
abbrev pub counted_of : View → List DeviceCall × ℕ
counted_of v = (v.device_calls, v.cleared)

module _ (context : Option RingKind) where
  -- nothing was counted
  pub counts_none : (v w : View) (io io' : ByContext) → counted_of w ≡ counted_of v → io' ≡ io → CountsIo context no_counts v w io io'
  counts_none v w io io' e same = let cleared = ap (λ (x : List DeviceCall × ℕ). x.1) e in record {
    made = [];
    calls = made_none v w (ap (λ (x : List DeviceCall × ℕ). x.0) e);
    counted = same ∙ sym (io_none context io);
    cleared = omega arith;
  }

  -- one call after another
  pub counts_on : (a b : ContextCounts) (v u w : View) (io io1 io2 : ByContext) → CountsIo context a v u io io1 → CountsIo context b u w io1 io2 → CountsIo context (counts_sum a b) v w io io2
  counts_on a b v u w io io1 io2 x y = record {
    made = x.made ++ y.made;
    calls = made_on x.made y.made v u w x.calls y.calls;
    counted = y.counted ∙ ap (io_with context (counts_sum b (done_by y.made))) x.counted ∙ io_twice context (counts_sum a (done_by x.made)) (counts_sum b (done_by y.made)) io ∙ ap (λ (s : ContextCounts). io_with context s io) (sums_on a b x.made y.made);
    cleared = let p = x.cleared in let q = y.cleared in omega arith;
  }

  -- before and after what isn't counted
  pub counts_before : (a : ContextCounts) (v u w : View) (io io' : ByContext) → counted_of u ≡ counted_of v → CountsIo context a u w io io' → CountsIo context a v w io io'
  counts_before a v u w io io' e x = record {
    made = x.made;
    calls = made_before x.made v u w (ap (λ (y : List DeviceCall × ℕ). y.0) e) x.calls;
    counted = x.counted;
    cleared = x.cleared ∙ ap (λ (y : List DeviceCall × ℕ). y.1 + (a.evictions + a.reuses)) e;
  }

  pub counts_after : (a : ContextCounts) (v u w : View) (io io' : ByContext) → CountsIo context a v u io io' → counted_of w ≡ counted_of u → CountsIo context a v w io io'
  counts_after a v u w io io' x e = record {
    made = x.made;
    calls = made_after x.made v u w x.calls (ap (λ (y : List DeviceCall × ℕ). y.0) e);
    counted = x.counted;
    cleared = ap (λ (y : List DeviceCall × ℕ). y.1) e ∙ x.cleared;
  }

  pub counts_through : (a : ContextCounts) (v u x w : View) (io io' : ByContext) → chosen_of u ≡ chosen_of v → CountsIo context a u x io io' → outside_of w ≡ outside_of x → CountsIo context a v w io io'
  counts_through a v u x w io io' before counts after = counts_before a v u w io io' (ap counted_of before) (counts_after a u x w io io' counts (ap counted_of after))

  -- the same events, in other words
  pub counts_as : (a b : ContextCounts) (v w : View) (io io' : ByContext) → a ≡ b → CountsIo context a v w io io' → CountsIo context b v w io io'
  counts_as a b v w io io' e x = subst (λ (s : ContextCounts). CountsIo context s v w io io') e x

  -- a frame lost its tag
  pub counts_taken : (from_ring : Bool) (v w : View) (io io' : ByContext) → w.device_calls ≡ v.device_calls → w.cleared ≡ v.cleared + 1 → io' ≡ io_with context (taken_from from_ring) io → CountsIo context (taken_from from_ring) v w io io'
  counts_taken true v w io io' calls cleared same = record { made = []; calls = made_none v w calls; counted = same; cleared = cleared }
  counts_taken false v w io io' calls cleared same = record { made = []; calls = made_none v w calls; counted = same; cleared = cleared }

  -- a block was found
  pub counts_hit : (v : View) (io io' : ByContext) → io' ≡ io_with context (one_of Hit) io → CountsIo context (one_of Hit) v v io io'
  counts_hit v io io' same = record { made = []; calls = made_none v v refl; counted = same; cleared = omega arith }

  -- calls that wrote a page, or didn't
  pub counts_made : (wrote : Bool) (made : List DeviceCall) (v w : View) (io io' : ByContext) → Made made v w → done_by made ≡ writes_of wrote → w.cleared ≡ v.cleared → io' ≡ io_with context (writes_of wrote) io → CountsIo context no_counts v w io io'
  counts_made wrote made v w io io' calls did cleared same = record {
    made = made;
    calls = calls;
    counted = same ∙ ap (λ (s : ContextCounts). io_with context s io) (sym did ∙ sym (none_sum (done_by made)));
    cleared = omega arith;
  }

-- the context of a ring is its kind, which is of its shape
kind_shaped : (r : Option RingState) → context_of r ≡ option_map RingShape.kind (ring_shape r)
kind_shaped (Some r) = refl
kind_shaped None = refl

pub context_shaped : (r s : Option RingState) → ring_shape r ≡ ring_shape s → context_of r ≡ context_of s
context_shaped r s e = kind_shaped r ∙ ap (option_map RingShape.kind) e ∙ sym (kind_shaped s)

-- The calls of devices that a flush made, by whether it wrote the page
pub record FlushCalls (wrote : Bool) (v w : View) : Type 0 where
  pub made : List DeviceCall
  pub calls : Made made v w
  pub did : done_by made ≡ writes_of wrote

went_did : (done synced : Bool) (q tag : ℕ) (left : Page) → done_by (log_syncs synced ++ LaneWrite q tag left done ∷ []) ≡ writes_of done
went_did true true q tag left = refl
went_did true false q tag left = refl
went_did false true q tag left = refl
went_did false false q tag left = refl

went_calls : (done : Bool) (q tag : ℕ) (page : Page) (v w : View) → WentToLane done q tag page v w → FlushCalls done v w
went_calls done q tag page v w e = record {
  made = log_syncs e.synced ++ LaneWrite q tag e.left done ∷ [];
  calls = made_on (log_syncs e.synced) (LaneWrite q tag e.left done ∷ []) v e.ready w e.log_calls e.lane_call;
  did = went_did done e.synced q tag e.left;
}

refused_did : (why : FlushLog) → done_by (syncs_refused why) ≡ no_counts
refused_did LogFault = refl
refused_did (LogDown at) = refl
refused_did (LogShort lsn end) = refl

-- what a flush of a victim wrote
abbrev pub victim_written : Result VictimPage FrameFlushError → Bool
victim_written (Ok (Clean written)) = written
victim_written (Ok Spared) = false
victim_written (Err why) = false

module _ {L G : Type 0} (contents : L → Option Pages) (t : FrameTable L G) (q : ℕ) (tag : Tag) (f : ℕ) where
  pub flush_calls : (v w : View) (r : Result FlushedPage FrameFlushError) → FlushAnswer contents t q tag f v w r → FlushCalls (page_written r) v w
  flush_calls v w (Ok flush.Written) a = went_calls true q _ a.page v w a.work
  flush_calls v w (Ok flush.Clean) a = record { made = []; calls = made_none v w a.calls; did = refl }
  flush_calls v w (Err (Log why)) a = record { made = syncs_refused why; calls = a.work.calls; did = refused_did why }
  flush_calls v w (Err (WriteFault failed)) a = went_calls false q _ a.page v w a.work.1

  -- after steps that call no device
  then_calls : (wrote : Bool) (v u w : View) → Made [] v u → FlushCalls wrote u w → FlushCalls wrote v w
  then_calls wrote v u w none x = record { made = x.made; calls = made_before x.made v u w (made_same v u none) x.calls; did = x.did }

  frees_calls : (from_ring : Bool) (ring : Option RingState) (v w : View) {written : Bool} → FreesVictim contents t q tag f from_ring ring v w written → FlushCalls written v w
  frees_calls from_ring ring v w (clean word looks low none) = record { made = []; calls = none; did = refl }
  frees_calls from_ring ring v w (flushed page x) = then_calls _ v x.kept w x.calls (flush_calls x.kept w (Ok page) x.flush)

  pub victim_calls : (from_ring : Bool) (before after : Option RingState) (v w : View) (r : Result VictimPage FrameFlushError) → VictimAnswer contents t q tag f from_ring before after v w r → FlushCalls (victim_written r) v w
  victim_calls from_ring before after v w (Ok (Clean written)) a = frees_calls from_ring before v w a.1
  victim_calls from_ring before after v w (Ok Spared) (locked why sees refuses same none) = record { made = []; calls = none; did = refl }
  victim_calls from_ring before after v w (Ok Spared) (rejected shares rejects none) = record { made = []; calls = none; did = refl }
  victim_calls from_ring before after v w (Err why) a = then_calls _ v a.1.kept w a.1.calls (flush_calls a.1.kept w (Err why) a.1.flush)

  -- what is counted of it
  pub counts_flushed : (context : Option RingKind) (v w : View) (r : Result FlushedPage FrameFlushError) (io io' : ByContext) → FlushAnswer contents t q tag f v w r → w.cleared ≡ v.cleared → io' ≡ io_with context (writes_of (page_written r)) io → CountsIo context no_counts v w io io'
  counts_flushed context v w r io io' a cleared same = let x = flush_calls v w r a in counts_made context (page_written r) x.made v w io io' x.calls x.did cleared same

  pub counts_victim : (context : Option RingKind) (from_ring : Bool) (before after : Option RingState) (v w : View) (r : Result VictimPage FrameFlushError) (io io' : ByContext) → VictimAnswer contents t q tag f from_ring before after v w r → w.cleared ≡ v.cleared → io' ≡ io_with context (writes_of (victim_written r)) io → CountsIo context no_counts v w io io'
  counts_victim context from_ring before after v w r io io' a cleared same = let x = victim_calls from_ring before after v w r a in counts_made context (victim_written r) x.made v w io io' x.calls x.did cleared same
