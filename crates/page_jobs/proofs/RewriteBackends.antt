-- Backends that were started for a rewrite, once it is over.
use Rattle.std.proofs.Common.{◌≡◌, ℕ, ◌<◌, List, Option, ◌∙◌, ⊎_elim, arith}
use mathlib.Core.Option.{some}
use lib.ListN.{get_elem?}
use Rattle.block_tag.specs.declared.tag.Fork.{Fork}
use Rattle.segment_store.specs.Contents.{Pages}
use Rattle.backend_pass.specs.declared.manager.Manager.{Manager}
use Rattle.backend_pass.specs.Managers.{AreNewPasses}
use Rattle.backend_pass.specs.Passes.{PassState}
use Rattle.backend_pass.specs.Between.{CanGoBack}
use Rattle.backend_pass.proofs.Between.{goes_back, new_goes_back}
use Rattle.page_jobs.specs.Beside.{StaysBeside, WorksBeside}
use Rattle.page_jobs.specs.Jobs.{workers_in}
use Rattle.page_jobs.specs.RewriteJobs.{RewriteParts}
use Rattle.page_jobs.proofs.Backends.{came_back}
use Rattle.table_rule.proofs.Opens.{length_low, there_at}

module _ {L G : Type 0} (contents : L → Option Pages) (m : Manager L G) (fork : Fork) (n : ℕ) (ps qs : List PassState) (new : AreNewPasses contents m n ps) (several : 1 < n) where
  module _ (rel : ℕ) (parts : RewriteParts contents m rel fork (workers_in ps) (workers_in qs)) (last : StaysBeside contents m ps qs) where
    pub each_given : (i : ℕ) (q : PassState) → get_elem? qs i ≡ some q → CanGoBack contents m n i q
    each_given i q at = let c = came_back contents m ps qs last i q at in
        let fresh = new.each i c.before c.at in ⊎_elim
        (λ (w : WorksBeside contents m c.before q). goes_back contents m n i c.before q (new_goes_back contents m n i c.before fresh) w.same.keeps w.belongs (w.callers.tokens ∙ fresh.tokens))
        (λ (t : (get_elem? (workers_in ps) i ≡ some c.before) × (get_elem? (workers_in qs) i ≡ some q)).
        let below = length_low (workers_in ps) i c.before t.0 in
        let long = parts.listed in
        let claimed = there_at parts.claimed i (omega arith) in
        let d = (parts.each i c.before q claimed.0 t.0 t.1 claimed.1).blocks in
        goes_back contents m n i c.before q (new_goes_back contents m n i c.before fresh) d.goes.same.keeps d.goes.belongs d.spent)
        c.either
