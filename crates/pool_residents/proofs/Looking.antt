-- What a pass keeps while it looks at frames.
use Rattle.std.proofs.Common.{refl, ◌∙◌, Option}
use Rattle.segment_store.specs.Contents.{Pages}
use Rattle.backend_pass.specs.declared.manager.Manager.{Manager}
use Rattle.backend_pass.specs.Managers.{Belongs}
use Rattle.backend_pass.specs.Passes.{PassState}
use Rattle.backend_pass.proofs.Keeping.{callers_none, callers_on, pass_none}
use Rattle.backend_pass.proofs.Seated.{same_on}
use Rattle.pool_residents.specs.Residents.{LooksOnly}

module _ {L G : Type 0} (contents : L → Option Pages) (m : Manager L G) where
  pub looks_none : (p : PassState) → Belongs contents m p → LooksOnly contents m p p
  looks_none p b = record {
    belongs = b;
    same = record { keeps = pass_none p; upto = refl; published = refl; torn = refl; unentered = refl };
    callers = callers_none p;
    mark = refl;
    marked = refl;
    devices = record { device_calls = refl; met = refl; io = refl };
  }

  pub looks_on : (p q r : PassState) → LooksOnly contents m p q → LooksOnly contents m q r → LooksOnly contents m p r
  looks_on p q r a b = record {
    belongs = b.belongs;
    same = same_on p q r a.same b.same;
    callers = callers_on p q r a.callers b.callers;
    mark = b.mark ∙ a.mark;
    marked = b.marked ∙ a.marked;
    devices = record { device_calls = b.devices.device_calls ∙ a.devices.device_calls; met = b.devices.met ∙ a.devices.met; io = b.devices.io ∙ a.devices.io };
  }
