-- The passes of a manager of two, after a rewrite and a checkpoint.
use Rattle.std.proofs.Common.{◌≡◌, ◌<◌, ◌∙◌, ℕ, zero, suc, List, [], ◌∷◌, ◌++◌, length, Option, refl, sym, ap, subst, arith}
use mathlib.Core.Option.{some, some-injective, some-ne-none}
use lib.ListN.{get_elem?}
use Rattle.block_tag.specs.declared.tag.Fork.{Fork}
use Rattle.segment_store.specs.Contents.{Pages}
use Rattle.backend_pass.specs.declared.manager.Manager.{Manager}
use Rattle.backend_pass.specs.Managers.{AreAll, AreNewPasses, Belongs}
use Rattle.backend_pass.specs.Passes.{KeepsCallers, PassState}
use Rattle.backend_pass.specs.Between.{CanGoBack, HasNoLock}
use Rattle.backend_pass.proofs.Between.{all_go_back, goes_back, new_unlocked}
use Rattle.page_jobs.specs.Beside.{StaysBeside, WorksBeside}
use Rattle.page_jobs.specs.Jobs.{workers_in}
use Rattle.page_jobs.specs.RewriteJobs.{RewriteParts}
use Rattle.page_jobs.proofs.RewriteBackends.{each_given}

-- a list of two, from its end
pub two : (qs xs : List PassState) (q : PassState) → qs ≡ xs ++ q ∷ [] → length qs ≡ 2 → (x : PassState) × (xs ≡ x ∷ [])
two qs [] q e n = absurd (let l = ap length e in omega arith)
two qs (x ∷ []) q e n = (x, refl)
two qs (x ∷ y ∷ ys) q e n = absurd (let l = ap length e in let more = at_least ys q in omega arith)
  where
    at_least : (ys : List PassState) (q : PassState) → 0 < length (ys ++ q ∷ [])
    at_least [] q = omega arith
    at_least (y ∷ ys) q = omega arith

module _ {L G : Type 0} (contents : L → Option Pages) (m : Manager L G) where
  -- the last pass may make a checkpoint after the job
  pub last_may : (ps qs xs : List PassState) (q : PassState) → AreNewPasses contents m 2 ps → StaysBeside contents m ps qs → qs ≡ xs ++ q ∷ [] → Belongs contents m q × HasNoLock q
  last_may [] qs xs q new stays e = absurd (let c = new.counted in omega arith)
  last_may (p ∷ []) qs xs q new stays e = absurd (let c = new.counted in omega arith)
  last_may (p ∷ r ∷ []) qs xs q new stays e =
      let t = two qs xs q e stays.counted in
      let at : get_elem? qs 1 ≡ some q = ap (λ (l : List PassState). get_elem? l 1) (e ∙ ap (λ (l : List PassState). l ++ q ∷ []) t.1) in
      let w : WorksBeside contents m r q = stays.last r q refl at in
      (w.belongs, λ f. w.callers.locks f ∙ new_unlocked contents m 2 1 r (new.each 1 r refl) f)
  last_may (p ∷ r ∷ s ∷ ps) qs xs q new stays e = absurd (let c = new.counted in omega arith)

  both_back : (x z : PassState) → CanGoBack contents m 2 0 x → CanGoBack contents m 2 1 z → AreAll m (x ∷ z ∷ [])
  both_back x z a b = all_go_back contents m 2 (x ∷ z ∷ []) (omega arith) refl each
    where
      each : (i : ℕ) (y : PassState) → get_elem? (x ∷ z ∷ []) i ≡ some y → CanGoBack contents m 2 i y
      each zero y at = subst (CanGoBack contents m 2 0) (some-injective x y at) a
      each (suc zero) y at = subst (CanGoBack contents m 2 1) (some-injective z y at) b
      each (suc (suc i)) y at = absurd (some-ne-none y (sym at))

  -- all can be given back after it
  pub all_after : (fork : Fork) (rel : ℕ) (ps qs xs : List PassState) (q z : PassState) → AreNewPasses contents m 2 ps → RewriteParts contents m rel fork (workers_in ps) (workers_in qs) → StaysBeside contents m ps qs → qs ≡ xs ++ q ∷ [] → Belongs contents m z → KeepsCallers q z → AreAll m (xs ++ z ∷ [])
  all_after fork rel ps qs xs q z new parts stays e b k =
      let t = two qs xs q e (stays.counted ∙ new.counted) in
      let is : qs ≡ t.0 ∷ q ∷ [] = e ∙ ap (λ (l : List PassState). l ++ q ∷ []) t.1 in
      let given = each_given contents m fork 2 ps qs new (omega arith) rel parts stays in
      let first = given 0 t.0 (ap (λ (l : List PassState). get_elem? l 0) is) in
      let last = given 1 q (ap (λ (l : List PassState). get_elem? l 1) is) in
      subst (λ (l : List PassState). AreAll m (l ++ z ∷ [])) (sym t.1)
      (both_back t.0 z first (goes_back contents m 2 1 q z last k.keeps b (k.tokens ∙ last.free.spent)))
