-- What reads keep of a pass.
use Rattle.std.proofs.Common.{refl, ◌∙◌, arith}
use Rattle.segment_store.specs.Contents.{Pages}
use Rattle.std.specs.Prelude.{Option}
use Rattle.backend_pass.specs.declared.manager.Manager.{Manager}
use Rattle.backend_pass.specs.Managers.{Belongs}
use Rattle.backend_pass.specs.Passes.{KeepsCalls, KeepsLocks, KeepsMark, PassState, SamePass}
use Rattle.backend_pass.proofs.Seated.{same_on}
use Rattle.backend_pass.proofs.Keeping.{pass_none}
use Rattle.page_jobs.specs.Reads.{Stays}

pub same_none : (p : PassState) → SamePass p p
same_none p = record { keeps = pass_none p; upto = refl; published = refl; torn = refl; unentered = refl }

module _ {L G : Type 0} (contents : L → Option Pages) (m : Manager L G) where
  pub stays_none : (p : PassState) → Belongs contents m p → Stays contents m p p
  stays_none p b = record { belongs = b; same = same_none p; mark = refl; locks = λ f. refl; front = omega arith }

  pub stays_on : (p q r : PassState) → Stays contents m p q → Stays contents m q r → Stays contents m p r
  stays_on p q r a b = record {
    belongs = b.belongs;
    same = same_on p q r a.same b.same;
    mark = b.mark ∙ a.mark;
    locks = λ f. b.locks f ∙ a.locks f;
    front = let x = a.front in let y = b.front in omega arith;
  }

  -- a further read that keeps the pass's calls
  pub stays_read : (p q r : PassState) → Stays contents m p q → Belongs contents m r → SamePass q r → KeepsMark q r → KeepsLocks q r → KeepsCalls q r → Stays contents m p r
  stays_read p q r s b same mark locks calls = stays_on p q r s record { belongs = b; same = same; mark = mark; locks = locks; front = let front = calls.front in omega arith }
