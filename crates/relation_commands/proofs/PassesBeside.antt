-- What rounds beside a job leave of their pass.
use Rattle.std.proofs.Common.{◌≡◌, Option, ap, ◌∙◌}
use Rattle.segment_store.specs.Contents.{Pages}
use Rattle.pin_core.specs.declared.view.FailedCalls.{FailedCalls}
use Rattle.frame_table.specs.declared.table.FrameTable.{FrameTable}
use Rattle.frame_table.specs.Seats.{OnlyRises}
use Rattle.frame_table.proofs.Rising.{rises_on}
use Rattle.buffer_frames.specs.Flushing.{met_refused}
use Rattle.backend_pass.specs.declared.errors.FlushError.{FlushError}
use Rattle.backend_pass.specs.declared.manager.Manager.{Manager}
use Rattle.backend_pass.specs.FrameFlushes.{RefusesFrame, frame_refusal}
use Rattle.backend_pass.specs.Managers.{Belongs}
use Rattle.backend_pass.specs.Passes.{KeepsCallers, KeepsMark, PassState, SamePass}
use Rattle.backend_pass.proofs.Seated.{same_on}
use Rattle.backend_pass.proofs.Keeping.{callers_on}
use Rattle.page_jobs.specs.Beside.{WorksBeside}

module _ {L G : Type 0} (contents : L → Option Pages) (m : Manager L G) where
  pub works_on : (p q r : PassState) → WorksBeside contents m p q → Belongs contents m r → SamePass q r → KeepsCallers q r → KeepsMark q r → WorksBeside contents m p r
  works_on p q r w belongs same callers mark = record {
    belongs = belongs;
    same = same_on p q r w.same same;
    callers = callers_on p q r w.callers callers;
    mark = mark ∙ w.mark;
  }

-- a refusal after work that met no fault is one of all the work
pub refuses_since : {L G : Type 0} (contents : L → Option Pages) (t : FrameTable L G) (p q r : PassState) (why : FlushError) → OnlyRises p.view q.view → q.view.met ≡ p.view.met
    → RefusesFrame contents t q r why → RefusesFrame contents t p r why
refuses_since contents t p q r why since met x = record {
  before = x.before;
  since = rises_on p.view q.view x.before since x.since;
  frame = x.frame;
  refused = x.refused;
  ended = x.ended;
  met = x.met ∙ ap (λ (k : FailedCalls). met_refused (frame_refusal why) k) met;
}
