-- A checkpoint by the last of some passes.
use Rattle.std.proofs.Common.{◌≡◌, ℕ, zero, suc, ◌+◌, ◌-◌, ◌<◌, ◌≤◌, ◌++◌, List, [], ◌∷◌, length, Option, Result, Ok, Err, refl, sym, ap, ◌∙◌, subst, arith}
use Rattle.std.specs.Prelude.{IfErr, OnOk}
use Rattle.std.proofs.lemmas.List.{length-append}
use mathlib.Core.Option.{some, some-injective, some-ne-none}
use lib.ListN.{get_elem?}
use Rattle.segment_store.specs.Contents.{Pages}
use Rattle.backend_pass.specs.declared.manager.Manager.{Manager}
use Rattle.backend_pass.specs.Closing.{EachPass, HasSwept}
use Rattle.backend_pass.specs.Managers.{Belongs}
use Rattle.backend_pass.specs.Passes.{KeepsCallers, PassState}
use Rattle.checkpointer.specs.declared.ending.CheckpointError.{CheckpointError}
use Rattle.page_jobs.specs.Jobs.{HaveNoTokens}
use Rattle.backend_pass.specs.Between.{HasNoTokens}
use Rattle.grid.proofs.Lists.{at_last}
use Rattle.relation_commands.specs.Checkpointing.{ChecksByLast, LastMeets, PassMeets, StoresAll, SweepsPast}
use Rattle.relation_commands.specs.Rewriting.{checkpoint_error}

-- and the others
front_at : (ps : List PassState) (p q : PassState) (i : ℕ) → i < length ps → get_elem? (ps ++ q ∷ []) i ≡ get_elem? (ps ++ p ∷ []) i
front_at [] p q i low = absurd (omega arith)
front_at (x ∷ ps) p q zero low = refl
front_at (x ∷ ps) p q (suc i) low = front_at ps p q i (omega arith)

any_at : (ps : List PassState) (q : PassState) (P : PassState → Type 0) → ((i : ℕ) (x : PassState) → i < length ps → get_elem? (ps ++ q ∷ []) i ≡ some x → P x) → P q → EachPass P (ps ++ q ∷ [])
any_at [] q P front here zero x at = subst P (some-injective q x at) here
any_at [] q P front here (suc i) x at = absurd (some-ne-none x (sym at))
any_at (y ∷ ps) q P front here zero x at = front 0 x (omega arith) at
any_at (y ∷ ps) q P front here (suc i) x at = any_at ps q P (λ j z low. front (suc j) z (omega arith)) here i x at

module _ {L G : Type 0} (contents : L → Option Pages) (m : Manager L G) where
  free_last : (ps : List PassState) (p : PassState) → HaveNoTokens contents m (ps ++ p ∷ []) → HasNoTokens contents m p
  free_last [] p free = free.0
  free_last (x ∷ ps) p free = free_last ps p free.1

  module _ (all all' ps : List PassState) (p q : PassState) (before : all ≡ ps ++ p ∷ []) (after : all' ≡ ps ++ q ∷ []) where
    long : length all ≡ length ps + 1
    long = ap length before ∙ length-append ps (p ∷ [])

    pub was_last : get_elem? all (length all - 1) ≡ some p
    was_last = let n = long in let here : length all - 1 ≡ length ps = omega arith in
        ap (λ (k : ℕ). get_elem? all k) here ∙ ap (λ (l : List PassState). get_elem? l (length ps)) before ∙ at_last ps p

    is_last : get_elem? all' (length all - 1) ≡ some q
    is_last = let n = long in let here : length all - 1 ≡ length ps = omega arith in
        ap (λ (k : ℕ). get_elem? all' k) here ∙ ap (λ (l : List PassState). get_elem? l (length ps)) after ∙ at_last ps q

    pub free_of_last : HaveNoTokens contents m all → HasNoTokens contents m p
    free_of_last free = free_last ps p (subst (HaveNoTokens contents m) before free)

    -- what holds of the last pass before and after
    of_last : (P : PassState → PassState → Type 0) → P p q → (x y : PassState) → get_elem? all (length all - 1) ≡ some x → get_elem? all' (length all - 1) ≡ some y → P x y
    of_last P h x y at now = subst (λ (z : PassState). P z y) (some-injective p x (sym was_last ∙ at)) (subst (P p) (some-injective q y (sym is_last ∙ now)) h)

    pub checks_by_last : Belongs contents m q → KeepsCallers p q → ChecksByLast contents m all all'
    checks_by_last belongs callers = record {
      counted = let n = long in let k = ap length after ∙ length-append ps (q ∷ []) in omega arith;
      others = λ i low. let n = long in
          ap (λ (l : List PassState). get_elem? l i) after ∙ front_at ps p q i (omega arith) ∙ ap (λ (l : List PassState). get_elem? l i) (sym before);
      last = of_last (λ x y. Belongs contents m y × KeepsCallers x y) (belongs, callers);
    }

    stores_all : (lanes front : ℕ) → EachPass (λ x. x.view.front ≤ front) all → KeepsCallers p q → SweepsPast lanes front q.view → q.view.met ≡ p.view.met → StoresAll lanes all all'
    stores_all lanes front fronts callers sweeps met = record {
      upto = sweeps.upto;
      fronts = subst (EachPass (λ x. x.view.front ≤ sweeps.upto)) (sym after) (any_at ps q (λ x. x.view.front ≤ sweeps.upto)
          (λ i x low at. let low_front = fronts i x (ap (λ (l : List PassState). get_elem? l i) before ∙ sym (front_at ps p q i low) ∙ at) in let past = sweeps.past in omega arith)
          (let low_front = fronts (length all - 1) p was_last in let past = sweeps.past in let same = callers.calls.front in omega arith));
      last = of_last (λ x y. HasSwept lanes sweeps.upto y.view × (y.view.met ≡ x.view.met)) (sweeps.swept, met);
    }

    pub swept_all : (r : Result Unit CheckpointError) (lanes front : ℕ) → EachPass (λ x. x.view.front ≤ front) all → KeepsCallers p q → OnOk r (SweepsPast lanes front q.view) → OnOk r (q.view.met ≡ p.view.met) → OnOk r (StoresAll lanes all all')
    swept_all (Ok done) lanes front fronts callers sweeps met = stores_all lanes front fronts callers sweeps met
    swept_all (Err why) lanes front fronts callers sweeps met = tt

    pub last_meets : (r : Result Unit CheckpointError) → IfErr r (λ why. PassMeets contents m.table p.view q.view (checkpoint_error why)) → IfErr r (λ why. LastMeets contents m.table all all' (checkpoint_error why))
    last_meets (Ok done) meets = tt
    last_meets (Err why) meets = of_last (λ x y. PassMeets contents m.table x.view y.view (checkpoint_error why)) meets
