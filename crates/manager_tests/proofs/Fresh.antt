-- Passes as a manager gives them.
use Rattle.std.proofs.Common.{◌≡◌, ◌<◌, ℕ, List, Option, None, arith}
use Rattle.segment_store.specs.Contents.{Pages}
use Rattle.table_rule.specs.declared.config.Config.{Config}
use Rattle.backend_pass.specs.declared.manager.Manager.{Manager}
use Rattle.backend_pass.specs.Managers.{AreAll, AreNewPasses}
use Rattle.backend_pass.specs.Passes.{PassState}
use Rattle.backend_pass.specs.Starting.{start_refusal}
use Rattle.backend_pass.proofs.Between.{all_new_go_back}

passes_some : (c : Config) (given : ℕ) → start_refusal c given ≡ None → 0 < c.passes
passes_some c given e = grind arith

pub all_fresh : {L G : Type 0} (contents : L → Option Pages) (m : Manager L G) (c : Config) (given : ℕ) (ps : List PassState) → start_refusal c given ≡ None → AreNewPasses contents m c.passes ps → AreAll m ps
all_fresh contents m c given ps e new = all_new_go_back contents m c.passes ps (passes_some c given e) new
