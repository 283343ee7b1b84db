-- What a pass keeps as the background writer, or for a checkpoint.
use Rattle.std.proofs.Common.{◌≡◌, ◌≤◌, ℕ, Bool, true, false, [], ◌∷◌, Option, Result, Ok, Err, refl, sym, ap, ◌∙◌, subst, arith}
use Rattle.std.specs.Prelude.{IsOk}
use Rattle.std.specs.Result.{is_ok}
use Rattle.block_tag.specs.Names.{lane_number}
use Rattle.byte_devices.specs.declared.device.Failed.{Failed}
use Rattle.segment_store.specs.Contents.{Pages}
use Rattle.pin_core.specs.declared.view.DeviceCall.TheVariants.{LaneSync, LogSync}
use Rattle.pin_core.specs.declared.view.FailedCalls.{FailedCalls}
use Rattle.pin_core.specs.declared.view.View.{View}
use Rattle.pin_core.specs.State.{link}
use Rattle.history_core.specs.Steps.{unmarked}
use Rattle.frame_table.specs.declared.table.FrameTable.{FrameTable}
use Rattle.frame_table.specs.Latches.{work_of}
use Rattle.frame_table.specs.Seats.{OnlyRises, lanes_in}
use Rattle.frame_table.specs.WordSteps.{begin_checkpoint, load_hand, view_of}
use Rattle.frame_table.proofs.Rising.{grows_loads, rises_by}
use Rattle.wal_flush.specs.declared.flushes.FlushedBy.{FlushedBy}
use Rattle.wal_flush.specs.declared.flushes.FlushedBy.TheVariants.{NoSync, OneSync}
use Rattle.wal_flush.specs.declared.flushes.FlushLog.{FlushLog}
use Rattle.wal_flush.specs.declared.flushes.FlushLog.TheVariants.{LogShort, LogDown, LogFault}
use Rattle.wal_flush.specs.Flushes.{as_looked, flushed_view}
use Rattle.buffer_frames.specs.Rests.{SameLocks, kept_by_calls}
use Rattle.buffer_frames.specs.Flushing.{met_flushing}
use Rattle.buffer_frames.proofs.Written.{flushed_met}
use Rattle.buffer_frames.specs.declared.syncing.Synced.{Synced}
use Rattle.buffer_frames.specs.declared.syncing.SyncOnly.{SyncOnly}
use Rattle.buffer_frames.specs.Syncs.{SyncsFrame, synced_work}
use Rattle.clock_sweep.specs.CensusList.{CensusList}
use Rattle.clock_sweep.specs.FreeFrames.{QueueState}
use Rattle.backend_pass.proofs.Owning.{beside_of, own_in}
use Rattle.backend_pass.specs.declared.errors.FlushError.{FlushError}
use Rattle.backend_pass.specs.declared.met.Shown.{Shown}
use Rattle.backend_pass.specs.FrameFlushes.{IsOkOrShort, frame_answer}
use Rattle.buffer_frames.specs.Outside.{shown_count}
use Rattle.backend_pass.specs.Passes.{CountsWrites, IsShown, KeepsCallers, NoDeviceFails, PassState, SamePass}
use Rattle.backend_pass.specs.PassSyncs.{shown_lane_synced, shown_log_flushed, shown_synced}
use Rattle.backend_pass.specs.Reading.{NothingFails}
use Rattle.backend_pass.proofs.BlockReads.{calls_kept, count_on, same_kept, shown_met}
use Rattle.backend_pass.proofs.CountedWrites.{counted_none, counted_unmade}
use Rattle.backend_pass.proofs.Flushed.{flush_complete, flush_short, shown_logged, shown_not_flushed}
use Rattle.backend_pass.proofs.SeatWork.{FlushesLog}

pub callers_kept : (p q : PassState) → q.table ≡ p.table → q.id ≡ p.id → q.tokens ≡ p.tokens → beside_of q ≡ beside_of p → q.hint ≡ p.hint → kept_by_calls q.view ≡ kept_by_calls p.view → OnlyRises p.view q.view → SameLocks p.view q.view → CountsWrites p q → KeepsCallers p q
callers_kept p q table id tokens census hint e rises locks io = record {
  keeps = (same_kept p q table id (ap own_in census) e rises).keeps;
  tokens = tokens;
  locks = locks;
  census = ap (λ (x : CensusList × QueueState). x.0) census;
  calls = calls_kept p q e;
  torn = ap (λ (x : View). x.torn) e;
  unentered = ap (λ (x : View). x.unentered) e;
  lookups = record { hint = hint; turns = ap (λ (x : View). x.turns) e; stores = ap (λ (x : View). x.hints) e; queue = ap (λ (x : CensusList × QueueState). x.1) census; ticks = ap (λ (x : View). x.ticks) e };
  io = io;
}

pub callers_from : (a p q : PassState) → p ≡ a → KeepsCallers p q → KeepsCallers a q
callers_from a p q e k = subst (λ (x : PassState). KeepsCallers x q) e k

-- the hand is loaded, and a checkpoint begins
pub rises_hand : (hand : ℕ) (v w : View) → w ≡ view_of load_hand hand v → OnlyRises v w
rises_hand hand v w e = subst (OnlyRises v) (sym e) (rises_by v (view_of load_hand hand v) (grows_loads _ v (view_of load_hand hand v) refl refl refl (omega arith)) refl (omega arith) (omega arith) (λ d. d))

pub rises_begun : (upto : ℕ) (v w : View) → w ≡ view_of begin_checkpoint upto v → OnlyRises v w
rises_begun upto v w e = subst (OnlyRises v) (sym e) (rises_by v (view_of begin_checkpoint upto v) (grows_loads _ v (view_of begin_checkpoint upto v) refl refl refl (omega arith)) refl (omega arith) (omega arith) (λ d. d))

pub callers_begun : (upto : ℕ) (p q : PassState) → q.table ≡ p.table → q.id ≡ p.id → q.tokens ≡ p.tokens → beside_of q ≡ beside_of p → q.hint ≡ p.hint → q.io ≡ p.io → q.view ≡ view_of begin_checkpoint upto p.view → SameLocks p.view q.view → KeepsCallers p q
callers_begun upto p q table id tokens census hint io e locks = record {
  io = counted_none p q (ap (λ (x : View). x.device_calls) e) (ap (λ (x : View). x.cleared) e) io;
  torn = ap (λ (x : View). x.torn) e;
  unentered = ap (λ (x : View). x.unentered) e;
  lookups = record { hint = hint; turns = ap (λ (x : View). x.turns) e; stores = ap (λ (x : View). x.hints) e; queue = ap (λ (x : CensusList × QueueState). x.1) census; ticks = ap (λ (x : View). x.ticks) e };
  keeps = record {
    table = table;
    id = id;
    own = ap own_in census;
    number = ap (λ (x : View). x.number) e;
    next = ap (λ (x : View). x.next) e;
    joined = ap (λ (x : View). x.joined) e;
    kept = ap (λ (x : View). x.joined_checkpoints) e;
    advances = rises_begun upto p.view q.view e;
  };
  tokens = tokens;
  locks = locks;
  census = ap (λ (x : CensusList × QueueState). x.0) census;
  calls = record { calls = ap (λ (x : View). x.calls) e; front = ap (λ (x : View). x.front) e; place_loads = ap (λ (x : View). x.place_loads) e };
}

pub locks_unmarked : (v w : View) → ((f : ℕ) → link w f ≡ unmarked (link v f)) → SameLocks v w
locks_unmarked v w e f = ap (λ l. l.content) (e f)

-- what is shown after a frame was to be written
pub shown_sync : (v w : View) (s : Shown) (r : Result Synced FlushError) → w.front ≡ v.front → w.met ≡ met_flushing (frame_answer r) v.met → IsShown v s → IsShown w (shown_synced r s)
shown_sync v w s (Ok synced) front met n = shown_met v w s front met n
shown_sync v w s (Err why) front met n = shown_not_flushed v w s why front met n

-- the log to be flushed
pub shown_flush : (lsn : ℕ) (v w : View) (s : Shown) (r : Result Unit FlushLog) → FlushesLog lsn v w r → IsShown v s → IsShown w (shown_log_flushed r s)
shown_flush lsn v w s (Ok done) f n = shown_met v w s (ap (λ (x : View). x.front) f.work) (flushed_met f.view.0 v w f.view.1) n
shown_flush lsn v w s (Err (LogShort l end)) f n = shown_met v w s (ap (λ (x : View). x.front) f.work) (ap (λ (x : View). x.met) f.left) n
shown_flush lsn v w s (Err (LogDown at)) f n = shown_met v w s (ap (λ (x : View). x.front) f.work) (ap (λ (x : View). x.met) f.left) n
shown_flush lsn v w s (Err LogFault) f n = shown_logged v w s (ap (λ (x : View). x.front) f.work) (ap (λ (x : View). x.met) f.left) n

pub flush_is_complete : (lsn : ℕ) (v w : View) (r : Result Unit FlushLog) → FlushesLog lsn v w r → lsn ≤ v.end_seen → w.saw_down ≡ false → IsOk r
flush_is_complete lsn v w (Ok done) f low up = refl
flush_is_complete lsn v w (Err (LogShort l end)) f low up = let c = f.cause.1.work.work in absurd (let short = c.2 in let seen = f.seen.0 in omega arith)
flush_is_complete lsn v w (Err (LogDown at)) f low up = let down = ap (λ (x : View). x.saw_down) f.left in absurd (let no : true ≡ false = sym down ∙ up in cc)
flush_is_complete lsn v w (Err LogFault) f low up = let down = ap (λ (x : View). x.saw_down) f.left in absurd (let no : true ≡ false = sym down ∙ up in cc)

-- a flush of the log calls no lane
counted_by_sync : (by : FlushedBy) (p q : PassState) → q.view ≡ as_looked (flushed_view by p.view) q.view → q.io ≡ p.io → CountsWrites p q
counted_by_sync NoSync p q e io = counted_none p q (ap (λ (x : View). x.device_calls) e) (ap (λ (x : View). x.cleared) e) io
counted_by_sync OneSync p q e io = counted_unmade (LogSync true ∷ []) p q (ap (λ (x : View). x.device_calls) e) refl refl (ap (λ (x : View). x.cleared) e) io

pub counted_flushed : (lsn : ℕ) (p q : PassState) (r : Result Unit FlushLog) → FlushesLog lsn p.view q.view r → q.io ≡ p.io → CountsWrites p q
counted_flushed lsn p q (Ok done) f io = counted_by_sync f.view.0 p q f.view.1 io
counted_flushed lsn p q (Err (LogShort l end)) f io = counted_none p q (ap (λ (x : View). x.device_calls) f.left) (ap (λ (x : View). x.cleared) f.left) io
counted_flushed lsn p q (Err (LogDown at)) f io = counted_none p q (ap (λ (x : View). x.device_calls) f.left) (ap (λ (x : View). x.cleared) f.left) io
counted_flushed lsn p q (Err LogFault) f io = counted_unmade (LogSync false ∷ []) p q (ap (λ (x : View). x.device_calls) f.left) refl refl (ap (λ (x : View). x.cleared) f.left) io

-- and a lane to be synced
pub shown_lane : (lane : ℕ) (v w : View) (s : Shown) (r : Result Unit Failed) → work_of w ≡ synced_work lane (is_ok r) v → IsShown v s → IsShown w (shown_lane_synced r s)
shown_lane lane v w s (Ok done) e n = shown_met v w s (ap (λ (x : View). x.front) e) (ap (λ (x : View). x.met) e) n
shown_lane lane v w s (Err failed) e n = let met = ap (λ (x : View). x.met) e in record {
  front = n.front ∙ sym (ap (λ (x : View). x.front) e);
  reads = n.reads ∙ ap (λ (m : FailedCalls). shown_count m.reads) (sym met);
  writes = count_on v.met.writes s.met.writes n.writes ∙ ap (λ (m : FailedCalls). shown_count m.writes) (sym met);
  logs = n.logs ∙ ap (λ (m : FailedCalls). shown_count m.logs) (sym met);
}

pub kept_synced : (lane : ℕ) (done : Bool) (v w : View) → work_of w ≡ synced_work lane done v → kept_by_calls w ≡ record (kept_by_calls v) { dirtied_or_synced = true }
kept_synced lane done v w e = ap kept_by_calls e

pub callers_synced : (lane : ℕ) (done : Bool) (p q : PassState) → q.table ≡ p.table → q.id ≡ p.id → q.tokens ≡ p.tokens → beside_of q ≡ beside_of p → q.hint ≡ p.hint → q.io ≡ p.io → work_of q.view ≡ synced_work lane done p.view → OnlyRises p.view q.view → SameLocks p.view q.view → KeepsCallers p q
callers_synced lane done p q table id tokens census hint io e rises locks = record {
  io = counted_unmade (LaneSync lane done ∷ []) p q (ap (λ (x : View). x.device_calls) e) refl refl (ap (λ (x : View). x.cleared) e) io;
  torn = ap (λ (x : View). x.torn) e;
  unentered = ap (λ (x : View). x.unentered) e;
  lookups = record { hint = hint; turns = ap (λ (x : View). x.turns) e; stores = ap (λ (x : View). x.hints) e; queue = ap (λ (x : CensusList × QueueState). x.1) census; ticks = ap (λ (x : View). x.ticks) e };
  keeps = record {
    table = table;
    id = id;
    own = ap own_in census;
    number = ap (λ (x : View). x.number) e;
    next = ap (λ (x : View). x.next) e;
    joined = ap (λ (x : View). x.joined) e;
    kept = ap (λ (x : View). x.joined_checkpoints) e;
    advances = rises;
  };
  tokens = tokens;
  locks = locks;
  census = ap (λ (x : CensusList × QueueState). x.0) census;
  calls = record { calls = ap (λ (x : View). x.calls) e; front = ap (λ (x : View). x.front) e; place_loads = ap (λ (x : View). x.place_loads) e };
}

pub same_synced : (lane : ℕ) (done : Bool) (p q : PassState) → q.table ≡ p.table → q.id ≡ p.id → q.tokens ≡ p.tokens → beside_of q ≡ beside_of p → q.hint ≡ p.hint → q.io ≡ p.io → work_of q.view ≡ synced_work lane done p.view → OnlyRises p.view q.view → SameLocks p.view q.view → SamePass p q
same_synced lane done p q table id tokens census hint io e rises locks = record { keeps = (callers_synced lane done p q table id tokens census hint io e rises locks).keeps; upto = ap (λ (x : View). x.upto) e; published = ap (λ (x : View). x.published) e; torn = ap (λ (x : View). x.torn) e; unentered = ap (λ (x : View). x.unentered) e }

module _ {L G : Type 0} (contents : L → Option Pages) (t : FrameTable L G) where
  pub sync_complete : (only : SyncOnly) (f : ℕ) (p q : PassState) (r : Result Synced FlushError) → SyncsFrame contents t only f p.view q.view (frame_answer r) → q.view.met ≡ met_flushing (frame_answer r) p.view.met → NothingFails contents t p q → IsOk r
  sync_complete only f p q (Ok synced) s met n = refl
  sync_complete only f p q (Err why) s met n = let b = s.came.2 in flush_complete contents t (lane_number b.tag (lanes_in t)) b.tag f p.view q.view (Err why) b.answer met (n.within b.tag b.named b.listed) n.devices.up n.devices.met

-- nor is it refused otherwise than for a page past the log's end, where no device fails
module _ {L G : Type 0} (contents : L → Option Pages) (t : FrameTable L G) where
  pub sync_short : (only : SyncOnly) (f : ℕ) (p q : PassState) (r : Result Synced FlushError) → SyncsFrame contents t only f p.view q.view (frame_answer r) → q.view.met ≡ met_flushing (frame_answer r) p.view.met → NoDeviceFails p q → IsOkOrShort r
  sync_short only f p q (Ok synced) s met n = tt
  sync_short only f p q (Err why) s met n = let b = s.came.2 in flush_short contents t (lane_number b.tag (lanes_in t)) b.tag f p.view q.view (Err why) b.answer met n.up n.met
