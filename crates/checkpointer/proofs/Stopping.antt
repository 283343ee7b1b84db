-- Why a checkpoint stops, and when it doesn't.
use Rattle.std.proofs.Common.{◌≡◌, ℕ, ◌+◌, true, Err, refl, sym, ap, ◌∙◌, arith}
use Rattle.std.specs.Prelude.{Option, min}
use Rattle.segment_store.specs.Contents.{Pages}
use Rattle.pin_core.specs.declared.view.FailedCalls.{FailedCalls}
use Rattle.pin_core.specs.declared.view.View.{View}
use Rattle.frame_table.specs.declared.table.FrameTable.{FrameTable}
use Rattle.frame_table.specs.Seats.{OnlyRises}
use Rattle.frame_table.proofs.Rising.{rises_on}
use Rattle.buffer_frames.specs.Flushing.{EndedInError, met_refused}
use Rattle.buffer_frames.specs.declared.syncing.SyncOnly.TheVariants.{Needed}
use Rattle.buffer_frames.specs.Syncs.{SyncsFrame}
use Rattle.backend_pass.specs.declared.errors.FlushError.{FlushError}
use Rattle.backend_pass.specs.declared.errors.FlushError.TheVariants as flush
use Rattle.backend_pass.specs.declared.manager.Manager.{Manager}
use Rattle.backend_pass.specs.FrameFlushes.{frame_refusal}
use Rattle.backend_pass.specs.Passes.{KeepsMark, NoDeviceFails, PassState}
use Rattle.backend_pass.specs.Reading.{NothingFails}
use Rattle.backend_pass.proofs.Complete.{one_more}
use Rattle.checkpointer.specs.declared.ending.CheckpointError.{CheckpointError}
use Rattle.checkpointer.specs.declared.ending.CheckpointError.TheVariants.{WriteFault, LogFault, LogDown, LogShort, SyncFault}
use Rattle.checkpointer.specs.Refusals.{IsCompleteOrShort, Stops, StopsWriting, at_frame, at_lane, at_log, met_stopping}
use Rattle.checkpointer.specs.Stages.{KeepsBackend, WritesMarked}
use Rattle.checkpointer.specs.Writes.{SyncsWhileNeeded}
use Rattle.checkpointer.proofs.Flushing.{flushes_on}
use Rattle.checkpointer.proofs.Keeping.{keeps_on}

-- where nothing fails from the first pass on nothing does from a later one on
pub fails_later : {L G : Type 0} (contents : L → Option Pages) (t : FrameTable L G) (p u q : PassState) → OnlyRises p.view u.view → u.view.met ≡ p.view.met → NothingFails contents t p q → NothingFails contents t u q
fails_later contents t p u q rises met n = record {
  within = λ tag named listed page sound was. let low = n.within tag named listed page sound was in let more = rises.end_seen in omega arith;
  devices = record { up = n.devices.up; met = n.devices.met ∙ sym met };
}

module _ {L G : Type 0} (contents : L → Option Pages) (m : Manager L G) where
  -- a write of the frame f was refused, once it was written as long as it had BM_CHECKPOINT_NEEDED
  pub stops_synced : (n f : ℕ) (p u q : PassState) (why : FlushError) → WritesMarked contents m n p u → SyncsWhileNeeded contents m.table f p.view u.view → KeepsBackend contents m u q → KeepsMark u q → SyncsFrame contents m.table Needed f u.view q.view (Err (frame_refusal why)) → EndedInError f u.view q.view → q.view.met ≡ met_refused (frame_refusal why) u.view.met → StopsWriting contents m (SyncsWhileNeeded contents m.table f p.view) f p q why
  stops_synced n f p u q why w needed keeps mark syncs ended met = record {
    keeps = keeps_on contents m p u q w.keeps keeps;
    before = u.view;
    since = w.keeps.same.keeps.advances;
    work = needed;
    written = n;
    flushes = w.flushes;
    refused = syncs;
    ended = ended;
    mark = mark ∙ w.mark;
    met = met ∙ ap (met_refused (frame_refusal why)) w.met;
  }

  -- and after other frames were written
  pub stops_on : (n f : ℕ) (A B : View → Type 0) (p u q : PassState) (why : FlushError) → WritesMarked contents m n p u → ((x : View) → A x → B x) → StopsWriting contents m A f u q why → StopsWriting contents m B f p q why
  stops_on n f A B p u q why w more s = record {
    keeps = keeps_on contents m p u q w.keeps s.keeps;
    before = s.before;
    since = rises_on p.view u.view s.before w.keeps.same.keeps.advances s.since;
    work = more s.before s.work;
    written = min (n + s.written) 4294967295;
    flushes = flushes_on n s.written (min (n + s.written) 4294967295) p.view u.view s.before refl w.flushes s.flushes;
    refused = s.refused;
    ended = s.ended;
    mark = s.mark ∙ w.mark;
    met = s.met ∙ ap (met_refused (frame_refusal why)) w.met;
  }

-- where no device fails and the log isn't down, it stops for a page past the log's end alone
module _ {L G : Type 0} (contents : L → Option Pages) (m : Manager L G) where
  stops_down : (upto at : ℕ) (v w : View) → Stops contents m upto v w (LogDown at) → w.saw_down ≡ true
  stops_down upto at v w (at_frame (flush.WriteFault tag) e x) = absurd (cc)
  stops_down upto at v w (at_frame flush.LogFault e x) = absurd (cc)
  stops_down upto at v w (at_frame (flush.LogDown end) e x) = x.refused.came.2.answer.work.shows.2
  stops_down upto at v w (at_frame (flush.LogShort lsn end) e x) = absurd (cc)
  stops_down upto at v w (at_log cause e x) = x.shows
  stops_down upto at v w (at_lane lane e low x) = absurd (cc)

  pub stops_short : (upto : ℕ) (p q : PassState) (why : CheckpointError) → Stops contents m upto p.view q.view why → q.view.met ≡ met_stopping why p.view.met → NoDeviceFails p q → IsCompleteOrShort (Err why)
  stops_short upto p q (WriteFault tag) s met n = one_more p.view.met.writes q.view.met.writes (ap (λ (k : FailedCalls). k.writes) met) (ap (λ (k : FailedCalls). k.writes) n.met)
  stops_short upto p q LogFault s met n = one_more p.view.met.logs q.view.met.logs (ap (λ (k : FailedCalls). k.logs) met) (ap (λ (k : FailedCalls). k.logs) n.met)
  stops_short upto p q (LogDown at) s met n = let down = stops_down upto at p.view q.view s in let up = n.up in absurd (cc)
  stops_short upto p q (LogShort lsn end) s met n = tt
  stops_short upto p q (SyncFault lane) s met n = one_more p.view.met.writes q.view.met.writes (ap (λ (k : FailedCalls). k.writes) met) (ap (λ (k : FailedCalls). k.writes) n.met)
