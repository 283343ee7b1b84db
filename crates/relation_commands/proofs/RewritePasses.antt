-- The passes of a rewrite, from their start to the close.
use Rattle.std.proofs.Common.{◌≡◌, ℕ, suc, ◌-◌, ◌<◌, ◌≤◌, ◌⊎◌, List, [], append-nil, length, Option, refl, sym, ap, ◌∙◌, subst, inl, inr, ⊎_elim, arith}
use mathlib.Core.Logic.{dite}
use mathlib.Core.Option.{some, some-injective}
use native.Mathlib.Decide.{dec_le}
use lib.ListN.{get_elem?}
use Rattle.block_tag.specs.declared.tag.Fork.{Fork}
use Rattle.segment_store.specs.Contents.{Pages}
use Rattle.frame_table.specs.Seats.{base_of, lanes_in, opened_of}
use Rattle.backend_pass.specs.declared.manager.Manager.{Manager}
use Rattle.backend_pass.specs.Managers.{AreAll, AreNewPasses, Belongs}
use Rattle.backend_pass.specs.Passes.{KeepsCallers, PassState}
use Rattle.backend_pass.proofs.Keeping.{callers_none}
use Rattle.backend_pass.specs.Between.{CanGoBack, HasNoLock, HasNoTokens}
use Rattle.backend_pass.proofs.Between.{all_go_back, goes_back, new_unlocked, no_lock_kept}
use Rattle.page_jobs.specs.Beside.{StaysBeside, WorksBeside}
use Rattle.page_jobs.specs.Jobs.{HaveNoTokens, workers_in}
use Rattle.page_jobs.specs.Relations.{MeetNothing}
use Rattle.page_jobs.specs.RewriteCloses.{PutsNoMore, RewritesAlone}
use Rattle.page_jobs.specs.RewriteJobs.{RewriteParts}
use Rattle.page_jobs.proofs.BesideWork.{free_at}
use Rattle.page_jobs.proofs.Backends.{came_back, free_each, new_put_nothing, new_tore_nothing, puts_nothing}
use Rattle.page_jobs.proofs.RewriteBackends.{each_given}
use Rattle.table_rule.proofs.Opens.{length_low, there_at}
use Rattle.relation_commands.specs.Checkpointing.{ChecksByLast, StoresAll}

-- a pass that kept its calls put nothing more
puts_no_more : (q z : PassState) → z.view.calls ≡ q.view.calls → z.view.torn ≡ q.view.torn → PutsNoMore q z
puts_no_more q z same torn = record { more = []; calls = same ∙ sym (append-nil q.view.calls); reads = puts_nothing; torn = torn }

module _ {L G : Type 0} (contents : L → Option Pages) (m : Manager L G) where
  -- each pass after a checkpoint by the last one
  pub after_check : (qs zs : List PassState) → ChecksByLast contents m qs zs → (i : ℕ) (q z : PassState) → get_elem? qs i ≡ some q → get_elem? zs i ≡ some z
      → (z ≡ q) ⊎ ((i ≡ length qs - 1) × Belongs contents m z × KeepsCallers q z)
  after_check qs zs checked i q z at now = dite (dec_le (suc i) (length qs - 1))
      (λ (below : suc i ≤ length qs - 1). inl (some-injective z q (sym now ∙ checked.others i below ∙ at)))
      (λ above. let low = length_low qs i q at in let last : i ≡ length qs - 1 = omega arith in
      let x = checked.last q z (ap (λ (k : ℕ). get_elem? qs k) (sym last) ∙ at) (ap (λ (k : ℕ). get_elem? zs k) (sym last) ∙ now) in
      inr (last, x.0, x.1))

  -- no checkpoint was made
  pub checks_none : (ps qs : List PassState) → StaysBeside contents m ps qs → 0 < length ps → ChecksByLast contents m qs qs
  checks_none ps qs stays some_ = record {
    counted = refl;
    others = λ i below. refl;
    last = λ q z at now.
        let long = stays.counted in
        let of_ps : length qs - 1 ≡ length ps - 1 = omega arith in
        let p = there_at ps (length ps - 1) (omega arith) in
        let w = stays.last p.0 q p.1 (ap (λ (k : ℕ). get_elem? qs k) (sym of_ps) ∙ at) in
        let same : q ≡ z = some-injective q z (sym at ∙ now) in
        (subst (Belongs contents m) same w.belongs, subst (KeepsCallers q) same (callers_none q));
  }

  module _ (fork : Fork) (ps qs : List PassState) (new : AreNewPasses contents m (length ps) ps) (several : 2 ≤ length ps)
      (parts : RewriteParts contents m 0 fork (workers_in ps) (workers_in qs)) (stays : StaysBeside contents m ps qs) where
    -- the last pass has no lock
    pub last_unlocked : (q : PassState) → get_elem? qs (length qs - 1) ≡ some q → HasNoLock q
    last_unlocked q at =
        let long = stays.counted in
        let of_ps : length qs - 1 ≡ length ps - 1 = omega arith in
        let p = there_at ps (length ps - 1) (omega arith) in
        let w = stays.last p.0 q p.1 (ap (λ (k : ℕ). get_elem? qs k) (sym of_ps) ∙ at) in
        no_lock_kept p.0 q w.callers.locks (new_unlocked contents m (length ps) (length ps - 1) p.0 (new.each (length ps - 1) p.0 p.1))

    -- the passes have no tokens
    pub are_free : HaveNoTokens contents m qs
    are_free = free_each contents m qs (λ i q at. let c = came_back contents m ps qs stays i q at in ⊎_elim
        (λ (w : WorksBeside contents m c.before q). let free : HasNoTokens contents m q = record { belongs = w.belongs; spent = w.callers.tokens ∙ (new.each i c.before c.at).tokens } in free)
        (λ (t : (get_elem? (workers_in ps) i ≡ some c.before) × (get_elem? (workers_in qs) i ≡ some q)).
        let below = length_low (workers_in ps) i c.before t.0 in
        let listed = parts.listed in
        let did = there_at parts.claimed i (omega arith) in
        let x = parts.each i c.before q did.0 t.0 t.1 did.1 in
        let free : HasNoTokens contents m q = record { belongs = x.blocks.goes.belongs; spent = x.blocks.spent } in
        free)
        c.either)

    -- and have seen the log's beginning
    pub all_seen_after : (i : ℕ) (q : PassState) → get_elem? qs i ≡ some q → base_of m.table ≤ q.view.end_seen
    all_seen_after i q at = (free_at contents m qs i q are_free at).belongs.seen

    pub all_seen : (i : ℕ) (p : PassState) → get_elem? ps i ≡ some p → base_of m.table ≤ p.view.end_seen
    all_seen i p at = (new.each i p at).belongs.seen

    module _ (zs : List PassState) (checked : ChecksByLast contents m qs zs) where
      as_many : length zs ≡ length ps
      as_many = checked.counted ∙ stays.counted

      before_check : (i : ℕ) (z : PassState) → get_elem? zs i ≡ some z → (q : PassState) × (get_elem? qs i ≡ some q)
      before_check i z at = there_at qs i (let low = length_low zs i z at in let long = checked.counted in omega arith)

      given_at : (i : ℕ) (z : PassState) → get_elem? zs i ≡ some z → CanGoBack contents m (length ps) i z
      given_at i z at =
          let q = before_check i z at in
          let h = each_given contents m fork (length ps) ps qs new several 0 parts stays i q.0 q.1 in ⊎_elim
          (λ (same : z ≡ q.0). subst (CanGoBack contents m (length ps) i) (sym same) h)
          (λ (x : (i ≡ length qs - 1) × Belongs contents m z × KeepsCallers q.0 z). goes_back contents m (length ps) i q.0 z h x.2.keeps x.1 (x.2.tokens ∙ h.free.spent))
          (after_check qs zs checked i q.0 z q.1 at)

      -- all can be given back
      pub all_given : AreAll m zs
      all_given = all_go_back contents m (length ps) zs (omega arith) as_many given_at

      -- and none put a page besides
      pub alone : length (opened_of m.table) ≡ lanes_in m.table → RewritesAlone contents m 0 fork ps qs zs
      alone counted = record {
        several = several;
        parts = parts;
        beside = stays;
        before = new_put_nothing contents m fork (length ps) ps new;
        untorn = new_tore_nothing contents m fork (length ps) ps new;
        counted = checked.counted;
        after = λ i q z at now. ⊎_elim
            (λ (same : z ≡ q). puts_no_more q z (ap (λ (x : PassState). x.view.calls) same) (ap (λ (x : PassState). x.view.torn) same))
            (λ (x : (i ≡ length qs - 1) × Belongs contents m z × KeepsCallers q z). puts_no_more q z x.2.calls.calls x.2.torn)
            (after_check qs zs checked i q z at now);
        lanes = counted;
        some_lanes = m.table.some;
      }

      -- a rewrite and its checkpoint met no fault
      pub all_met : MeetNothing ps qs → StoresAll (lanes_in m.table) qs zs → MeetNothing ps zs
      all_met met stores i p z at now =
          let q = before_check i z now in
          let same = met i p q.0 at q.1 in ⊎_elim
          (λ (is : z ≡ q.0). ap (λ (x : PassState). x.view.met) is ∙ same)
          (λ (x : (i ≡ length qs - 1) × Belongs contents m z × KeepsCallers q.0 z).
          (stores.last q.0 z (ap (λ (k : ℕ). get_elem? qs k) (sym x.0) ∙ q.1) (ap (λ (k : ℕ). get_elem? zs k) (sym x.0) ∙ now)).1 ∙ same)
          (after_check qs zs checked i q.0 z q.1 now)
