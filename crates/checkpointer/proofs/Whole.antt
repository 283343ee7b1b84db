-- A checkpoint from its begin to its end.
use Rattle.std.proofs.Common.{◌≡◌, ℕ, ◌+◌, ◌≤◌, true, [], refl, sym, ap, ◌∙◌, subst, arith}
use Rattle.std.specs.Prelude.{Option, min}
use Rattle.segment_store.specs.Contents.{Pages}
use Rattle.pin_core.specs.declared.view.FailedCalls.{FailedCalls}
use Rattle.pin_core.specs.declared.view.View.{View}
use Rattle.frame_table.specs.Seats.{OnlyRises, frames_of, lanes_in}
use Rattle.frame_table.specs.WordSteps.{DidWord, begin_checkpoint, view_of}
use Rattle.frame_table.proofs.Rising.{rises_on}
use Rattle.wal_flush.specs.declared.flushes.FlushLog.{FlushLog}
use Rattle.wal_flush.specs.declared.flushes.FlushLog.TheVariants.{LogDown, LogFault, LogShort}
use Rattle.wal_flush.specs.declared.flushes.FlushedBy.{FlushedBy}
use Rattle.wal_flush.specs.declared.flushes.FlushedBy.TheVariants as flushed_by
use Rattle.wal_flush.specs.Flushes.{FlushRefused, FlushSeesEnd, Flushed, as_looked, flushed_view, unflushed_view}
use Rattle.buffer_frames.specs.Flushing.{met_refused, syncs_refused}
use Rattle.buffer_frames.specs.Working.{Made}
use Rattle.buffer_frames.proofs.WorkSteps.{made_none}
use Rattle.backend_pass.specs.declared.errors.FlushError.{FlushError}
use Rattle.backend_pass.specs.declared.errors.FlushError.TheVariants as flush
use Rattle.backend_pass.specs.declared.manager.Manager.{Manager}
use Rattle.backend_pass.specs.Closing.{HasSwept}
use Rattle.backend_pass.specs.FrameFlushes.{frame_refusal}
use Rattle.backend_pass.specs.Managers.{Belongs}
use Rattle.backend_pass.specs.Passes.{KeepsCallers, PassState, SamePass}
use Rattle.backend_pass.proofs.Seated.{same_on}
use Rattle.backend_pass.proofs.Keeping.{callers_on}
use Rattle.checkpointer.specs.declared.ending.CheckpointError.TheVariants.{SyncFault}
use Rattle.checkpointer.specs.Checkpoints.{Begins, Completes}
use Rattle.checkpointer.specs.Marked.{HasNoneLeft, ListsDirty}
use Rattle.checkpointer.specs.Refusals.{IsDownOrFault, Stops, StopsSyncing, StopsWriting, at_frame, at_lane, at_log, met_stopping, refusal_of_flush, refusal_of_log}
use Rattle.checkpointer.specs.Stages.{FlushesPages, MarksFrames, SyncsLanes, WritesMarked}
use Rattle.checkpointer.specs.Writes.{MarksAndWrites, WritesInOrder, WritesUpTo}
use Rattle.checkpointer.proofs.Flushing.{flushes_none, flushes_on}
use Rattle.checkpointer.proofs.Keeping.{marks_listed}
use Rattle.checkpointer.proofs.Storing.{stores}
use Rattle.checkpointer.proofs.Syncing.{written_same}

-- A checkpoint of the pass p began at `upto`, and in q the dirty ones of so many frames were marked, and nothing was called yet
pub record Started (frames upto : ℕ) (p q : PassState) : Type 0 where
  pub began : PassState
  pub did : DidWord begin_checkpoint p.view began.view upto
  pub view : began.view ≡ view_of begin_checkpoint upto p.view
  pub callers : KeepsCallers p began
  pub seen : upto ≤ began.view.end_seen
  pub same : SamePass began q
  pub kept : KeepsCallers began q
  pub device_calls : q.view.device_calls ≡ p.view.device_calls
  pub met : q.view.met ≡ p.view.met
  pub mark : q.view.dirtied_or_synced ≡ p.view.dirtied_or_synced
  pub lists : ListsDirty frames q.marked (view_of begin_checkpoint upto p.view) q.view

module _ {L G : Type 0} (contents : L → Option Pages) (m : Manager L G) where
  -- the list is emptied, the checkpoint begins, and frames are marked
  pub started : (upto : ℕ) (p o b q : PassState) → o ≡ record p { marked = [] } → b ≡ record o { view = view_of begin_checkpoint upto o.view } → DidWord begin_checkpoint o.view b.view upto → upto ≤ b.view.end_seen → KeepsCallers o b → Belongs contents m p → MarksFrames contents m b q → ListsDirty (frames_of m.table) q.marked b.view q.view → Started (frames_of m.table) upto p q
  started upto p o b q emptied begun did seen callers belongs marks lists = record {
    began = b;
    did = subst (λ (v : View). DidWord begin_checkpoint v b.view upto) same did;
    view = view;
    callers = callers_on p o b (subst (KeepsCallers p) (sym emptied) (marks_listed contents m p [] belongs).keeps.callers) callers;
    seen = seen;
    same = marks.keeps.same;
    kept = marks.keeps.callers;
    device_calls = marks.device_calls ∙ ap (λ (v : View). v.device_calls) view;
    met = marks.met ∙ ap (λ (v : View). v.met) view;
    mark = marks.mark ∙ ap (λ (v : View). v.dirtied_or_synced) view;
    lists = subst (λ (v : View). ListsDirty (frames_of m.table) q.marked v q.view) view lists;
  }
    where
      same : o.view ≡ p.view
      same = ap (λ (x : PassState). x.view) emptied

      view : b.view ≡ view_of begin_checkpoint upto p.view
      view = ap (λ (x : PassState). x.view) begun ∙ ap (view_of begin_checkpoint upto) same

-- the begin, as it is seen at the end
pub begins_to : {frames : ℕ} (upto : ℕ) (p q r : PassState) → Started frames upto p q → SamePass q r → Begins upto p.view r.view
begins_to upto p q r s same = record {
  began = s.began.view;
  did = s.did;
  view = s.view;
  until = rises_on s.began.view q.view r.view s.same.keeps.advances same.keeps.advances;
  last = same.upto ∙ s.same.upto ∙ ap (λ (v : View). v.upto) s.view;
  published = same.published ∙ s.same.published ∙ ap (λ (v : View). v.published) s.view;
}

pub callers_to : {frames : ℕ} (upto : ℕ) (p q r : PassState) → Started frames upto p q → KeepsCallers q r → KeepsCallers p r
callers_to upto p q r s callers = callers_on p q r (callers_on p s.began q s.callers s.kept) callers

pub rises_to : {frames : ℕ} (upto : ℕ) (p q : PassState) → Started frames upto p q → OnlyRises p.view q.view
rises_to upto p q s = rises_on p.view s.began.view q.view s.callers.keeps.advances s.same.keeps.advances

count_same : (n : ℕ) → n ≤ 4294967295 → n ≡ min (0 + n) 4294967295
count_same n low = omega arith

counts_low : (n : ℕ) (v w : View) → FlushesPages n v w → n ≤ 4294967295
counts_low n v w f = let c = f.counted in omega arith

-- the flushes since the begin are those since the start
flushes_to : {frames : ℕ} (upto n : ℕ) (p q : PassState) (w : View) → Started frames upto p q → FlushesPages n q.view w → FlushesPages n p.view w
flushes_to upto n p q w s f = flushes_on 0 n n p.view q.view w (count_same n (counts_low n q.view w f)) (flushes_none p.view q.view (made_none p.view q.view s.device_calls)) f

-- after a flush of the log
pub none_left_logged : (frames : ℕ) (by : FlushedBy) (v w : View) → w ≡ as_looked (flushed_view by v) w → HasNoneLeft frames v → HasNoneLeft frames w
none_left_logged frames by v w e h = written_same frames v w (ap (λ (x : View). x.links) e ∙ of by) h
  where
    of : (y : FlushedBy) → (flushed_view y v).links ≡ v.links
    of flushed_by.NoSync = refl
    of flushed_by.OneSync = refl

-- A refusal of the log leaves this
pub log_shows : (upto : ℕ) (why : FlushLog) (v w : View) → upto ≤ v.end_seen → FlushRefused upto v w why → FlushSeesEnd why v w → w ≡ as_looked (unflushed_view why v) w
    → IsDownOrFault why × (w.saw_down ≡ true) × Made (syncs_refused why) v w × (w.dirtied_or_synced ≡ v.dirtied_or_synced) × (w.met ≡ met_stopping (refusal_of_log why) v.met)
log_shows upto (LogShort l e) v w seen refused sees left = absurd (let t = refused.1.work.work in let short = t.2 in let is = t.1 in let ends = sees.0 in omega arith)
log_shows upto (LogDown at) v w seen refused sees left = (tt, ap (λ (x : View). x.saw_down) left, made_none v w (ap (λ (x : View). x.device_calls) left), ap (λ (x : View). x.dirtied_or_synced) left, ap (λ (x : View). x.met) left)
log_shows upto LogFault v w seen refused sees left = (tt, ap (λ (x : View). x.saw_down) left, ap (λ (x : View). x.device_calls) left, ap (λ (x : View). x.dirtied_or_synced) left, ap (λ (x : View). x.met) left)

-- the faults of a refused write
pub met_of_flush : (why : FlushError) (m : FailedCalls) → met_refused (frame_refusal why) m ≡ met_stopping (refusal_of_flush why) m
met_of_flush (flush.WriteFault tag) m = refl
met_of_flush flush.LogFault m = refl
met_of_flush (flush.LogDown at) m = refl
met_of_flush (flush.LogShort lsn end) m = refl

module _ {L G : Type 0} (contents : L → Option Pages) (m : Manager L G) where
  -- It wrote what it marked
  wrote_all : (upto n : ℕ) (p q : PassState) (w : View) → Started (frames_of m.table) upto p q → FlushesPages n q.view w → WritesInOrder contents m.table q.view q.marked w → MarksAndWrites contents m.table upto n p.view w
  wrote_all upto n p q w s f order = record { marked = q.marked; listed = q.view; lists = s.lists; writes = order; flushes = flushes_to upto n p q w s f }

  -- It stopped at a frame
  pub stopped_at_frame : (upto f : ℕ) (p q r : PassState) (why : FlushError) → Started (frames_of m.table) upto p q → StopsWriting contents m (WritesUpTo contents m.table q.marked f q.view) f q r why → Stops contents m upto p.view r.view (refusal_of_flush why)
  stopped_at_frame upto f p q r why s w = at_frame why refl record {
    frame = f;
    marked = q.marked;
    listed = q.view;
    lists = s.lists;
    before = w.before;
    since = rises_on p.view q.view w.before (rises_to upto p q s) w.since;
    writes = w.work;
    written = w.written;
    flushes = flushes_to upto w.written p q w.before s w.flushes;
    refused = w.refused;
    ended = w.ended;
    mark = w.mark ∙ s.mark;
  }

  -- at the log
  pub stopped_at_log : (upto n : ℕ) (p q u r : PassState) (why : FlushLog) → Started (frames_of m.table) upto p q → WritesMarked contents m n q u → WritesInOrder contents m.table q.view q.marked u.view → HasNoneLeft (frames_of m.table) u.view → FlushRefused upto u.view r.view why → FlushSeesEnd why u.view r.view → r.view ≡ as_looked (unflushed_view why u.view) r.view → Stops contents m upto p.view r.view (refusal_of_log why)
  stopped_at_log upto n p q u r why s w order none refused sees left = at_log why refl record {
    before = u.view;
    since = rises_on p.view q.view u.view (rises_to upto p q s) w.keeps.same.keeps.advances;
    written = n;
    writes = wrote_all upto n p q u.view s w.flushes order;
    none_left = none;
    refused = refused;
    cause = shows.0;
    shows = shows.1;
    calls = shows.2;
    mark = shows.3 ∙ w.mark ∙ s.mark;
  }
    where
      shows : IsDownOrFault why × (r.view.saw_down ≡ true) × Made (syncs_refused why) u.view r.view × (r.view.dirtied_or_synced ≡ u.view.dirtied_or_synced) × (r.view.met ≡ met_stopping (refusal_of_log why) u.view.met)
      shows = log_shows upto why u.view r.view (let a = s.seen in let b = s.same.keeps.advances.end_seen in let d = w.keeps.same.keeps.advances.end_seen in omega arith) refused sees left

  pub met_at_log : (upto n : ℕ) (p q u r : PassState) (why : FlushLog) → Started (frames_of m.table) upto p q → WritesMarked contents m n q u → FlushRefused upto u.view r.view why → FlushSeesEnd why u.view r.view → r.view ≡ as_looked (unflushed_view why u.view) r.view → r.view.met ≡ met_stopping (refusal_of_log why) p.view.met
  met_at_log upto n p q u r why s w refused sees left = (log_shows upto why u.view r.view (let a = s.seen in let b = s.same.keeps.advances.end_seen in let d = w.keeps.same.keeps.advances.end_seen in omega arith) refused sees left).4 ∙ ap (met_stopping (refusal_of_log why)) (w.met ∙ s.met)

  -- at a lane
  pub stopped_at_lane : (upto n lane : ℕ) (p q u l r : PassState) → Started (frames_of m.table) upto p q → FlushesPages n q.view u.view → WritesInOrder contents m.table q.view q.marked u.view → SamePass q l → Flushed upto u.view l.view → HasNoneLeft (frames_of m.table) l.view → upto ≤ l.view.flushed → StopsSyncing contents m l r lane → Stops contents m upto p.view r.view (SyncFault lane)
  stopped_at_lane upto n lane p q u l r s f order same log none flushed t = at_lane lane refl t.inside record {
    before = u.view;
    written = n;
    writes = wrote_all upto n p q u.view s f order;
    logged = l.view;
    log = log;
    since = rises_on p.view q.view l.view (rises_to upto p q s) same.keeps.advances;
    none_left = none;
    flushed = flushed;
    calls = t.calls;
  }

  -- It came to its end
  pub completed : (upto n : ℕ) (p q u l r : PassState) → Started (frames_of m.table) upto p q → FlushesPages n q.view u.view → WritesInOrder contents m.table q.view q.marked u.view → SamePass q l → Flushed upto u.view l.view → upto ≤ l.view.flushed → SyncsLanes contents m l r → Completes contents m.table (record { upto = upto; written = n }) p.view r.view
  completed upto n p q u l r s f order same log flushed t = record {
    begins = begins_to upto p q r s (same_on q l r same t.keeps.same);
    before = u.view;
    writes = wrote_all upto n p q u.view s f order;
    logged = l.view;
    log = log;
    calls = t.calls;
    flushed = flushed_to;
    swept = swept_to;
    stored = stores (lanes_in m.table) t.left.0 r.view t.left.1 upto flushed_to swept_to;
  }
    where
      flushed_to : upto ≤ r.view.flushed
      flushed_to = let more = t.keeps.same.keeps.advances.flushed in omega arith

      swept_to : HasSwept (lanes_in m.table) upto r.view
      swept_to lane low = let reached = t.swept lane low in let is : l.view.upto ≡ upto = same.upto ∙ s.same.upto ∙ ap (λ (v : View). v.upto) s.view in omega arith
