-- Backends that were started for a load, once it is over.
use Rattle.std.proofs.Common.{◌≡◌, ℕ, ◌<◌, List, Option, ◌∙◌, ⊎_elim, arith}
use mathlib.Core.Option.{some}
use lib.ListN.{get_elem?}
use Rattle.block_tag.specs.declared.tag.Tag.{Tag}
use Rattle.segment_store.specs.Contents.{Pages}
use Rattle.backend_pass.specs.declared.manager.Manager.{Manager}
use Rattle.backend_pass.specs.Managers.{AreAll, AreNewPasses}
use Rattle.backend_pass.specs.Passes.{PassState}
use Rattle.backend_pass.specs.Between.{CanGoBack}
use Rattle.backend_pass.proofs.Between.{all_go_back, goes_back, new_goes_back}
use Rattle.page_jobs.specs.Beside.{StaysBeside, WorksBeside}
use Rattle.page_jobs.specs.Jobs.{workers_in}
use Rattle.page_jobs.specs.Loads.{LoadsParts}
use Rattle.page_jobs.proofs.Backends.{came_back}
use Rattle.table_rule.proofs.Opens.{length_low, there_at}

module _ {L G : Type 0} (contents : L → Option Pages) (m : Manager L G) (tags : List Tag) (n : ℕ) (ps qs : List PassState) (new : AreNewPasses contents m n ps) (several : 1 < n) (parts : LoadsParts contents m tags (workers_in ps) (workers_in qs)) (last : StaysBeside contents m ps qs) where
  pub each_given : (i : ℕ) (q : PassState) → get_elem? qs i ≡ some q → CanGoBack contents m n i q
  each_given i q at = let c = came_back contents m ps qs last i q at in
      let fresh = new.each i c.before c.at in ⊎_elim
      (λ (w : WorksBeside contents m c.before q). goes_back contents m n i c.before q (new_goes_back contents m n i c.before fresh) w.same.keeps w.belongs (w.callers.tokens ∙ fresh.tokens))
      (λ (t : (get_elem? (workers_in ps) i ≡ some c.before) × (get_elem? (workers_in qs) i ≡ some q)).
      let below = length_low (workers_in ps) i c.before t.0 in
      let long = parts.listed in
      let claimed = there_at parts.claimed i (omega (arith, below, long)) in
      let d = (parts.each i c.before q claimed.0 t.0 t.1 claimed.1).loads in
      goes_back contents m n i c.before q (new_goes_back contents m n i c.before fresh) d.stays.same.keeps d.stays.belongs d.spent)
      c.either

  pub all_given : AreAll m qs
  all_given = all_go_back contents m n qs (omega (arith, several)) (last.counted ∙ new.counted) each_given
