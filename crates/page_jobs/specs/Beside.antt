-- What the last pass of a job does while the others work on the blocks.
use Rattle.std.specs.Prelude.{◌≡◌, ℕ, ◌-◌, true, List, length, Option, Result, OnOk, IfErr}
use mathlib.Core.Option.{some}
use lib.ListN.{get_elem?}
use Rattle.segment_store.specs.Contents.{Pages}
use Rattle.backend_pass.specs.declared.errors.FlushError.{FlushError}
use Rattle.backend_pass.specs.declared.errors.FlushError.TheVariants as flush
use Rattle.backend_pass.specs.declared.manager.Manager.{Manager}
use Rattle.backend_pass.specs.FrameFlushes.{RefusesFrame}
use Rattle.backend_pass.specs.Managers.{Belongs}
use Rattle.backend_pass.specs.Passes.{KeepsCallers, KeepsMark, PassState, SamePass}
use Rattle.page_jobs.specs.declared.ending.JobError.{JobError}
use Rattle.page_jobs.specs.declared.ending.JobError.TheVariants.{WriteFault, LogFault, LogDown}
use Rattle.page_jobs.specs.declared.ending.JobError.TheVariants.{LogShort}

-- what ends a job, by the refusal of a write
abbrev pub fault_of_flush : FlushError → JobError
fault_of_flush (flush.WriteFault tag) = WriteFault tag
fault_of_flush flush.LogFault = LogFault
fault_of_flush (flush.LogDown at) = LogDown at
fault_of_flush (flush.LogShort lsn end) = LogShort lsn end

-- this is what the last of some passes did
abbrev pub LastDid : (PassState → PassState → Type 0) → List PassState → List PassState → Type 0
LastDid did ps qs =
    (p q : PassState) → get_elem? ps (length ps - 1) ≡ some p
    → get_elem? qs (length ps - 1) ≡ some q → did p q

module _ {L G : Type 0} (contents : L → Option Pages) (m : Manager L G) where
  -- A pass worked beside the workers: it is the same one, it read and put nothing, and its tokens,
  -- its content locks, its census and its mark are as they were
  pub record WorksBeside (p q : PassState) : Type 0 where
    pub belongs : Belongs contents m q
    pub same : SamePass p q
    pub callers : KeepsCallers p q
    pub mark : KeepsMark p q

  -- Its work was refused, as it didn't write the page of a frame, for a reason that the error names
  pub record WorkIsRefused (p q : PassState) (e : JobError) : Type 0 where
    pub why : FlushError
    pub fault : fault_of_flush why ≡ e
    pub refuses : RefusesFrame contents m.table p q why
    -- if the error says that the log is down, the pass has seen that
    pub down : (at : ℕ) → e ≡ LogDown at → q.view.saw_down ≡ true

  -- Its work ended so: it met no fault, or this is why the work was refused
  pub record EndsBeside (p q : PassState) (end : Result Unit JobError) : Type 0 where
    pub works : WorksBeside p q
    pub met : OnOk end (q.view.met ≡ p.view.met)
    pub cause : IfErr end (WorkIsRefused p q)

  -- As many passes are there as were, and the last one worked beside the others
  pub record StaysBeside (ps qs : List PassState) : Type 0 where
    pub counted : length qs ≡ length ps
    pub last : (p q : PassState) → get_elem? ps (length ps - 1) ≡ some p
        → get_elem? qs (length ps - 1) ≡ some q → WorksBeside p q

  -- The last pass's work was refused, as the error says
  pub record LastIsRefused (ps qs : List PassState) (e : JobError) : Type 0 where
    pub before : PassState
    pub after : PassState
    pub was : get_elem? ps (length ps - 1) ≡ some before
    pub is : get_elem? qs (length ps - 1) ≡ some after
    pub refused : WorkIsRefused before after e
