-- Where views wait, as a step changes the list of views.
use Rattle.std.proofs.Common.{◌≡◌, ◌≢◌, ℕ, ◌<◌, List, [], ◌∷◌, ◌++◌, set, Option, Some, None, ne_eqb, sym, refl, ap, ◌∙◌, subst, ⊎_elim, arith}
use Rattle.std.proofs.lemmas.Option.{same_Some}
use mathlib.Core.Logic.{dite}
use mathlib.Core.Option.{some}
use native.Mathlib.Decide.{ℕ_discrete}
use lib.ListN.{get_elem?}
use Rattle.pin_core.specs.declared.view.Link.{Link}
use Rattle.pin_core.specs.declared.view.View.{View}
use Rattle.pin_core.specs.State.{link, new_view, first_view, emptied_view}
use Rattle.pin_core.specs.Tallies.{flag_weight}
use Rattle.pin_core.proofs.Views.{link_new}
use Rattle.page_core.specs.Tallies.{waits_as, wait_weight, weigh, page_shape}
use Rattle.page_core.specs.Invariant.{WaitsOnce, WaitsLaw}
use Rattle.grid.specs.Shape.{tallies}
use Rattle.grid.proofs.Lists.{at_set, at_end}
use Rattle.grid.proofs.Sums.{some_term}

-- The view w has the number of v, and waits nowhere but where v does
pub record WaitsLess (v w : View) : Type 0 where
  pub number : w.number ≡ v.number
  pub fewer : (f number : ℕ) → (link w f).waits ≡ Some number → (link v f).waits ≡ Some number

-- a view whose links stay but for the one at f
pub relinks_less : (v w : View) (f : ℕ) → w.number ≡ v.number → ((g : ℕ) → g ≢ f → link w g ≡ link v g) → ((number : ℕ) → (link w f).waits ≡ Some number → (link v f).waits ≡ Some number) → WaitsLess v w
relinks_less v w f same else here = record {
  number = same;
  fewer = λ g number e. dite (ℕ_discrete g f)
      (λ at. subst (λ (z : ℕ). (link v z).waits ≡ Some number) (sym at) (here number (subst (λ (z : ℕ). (link w z).waits ≡ Some number) at e)))
      (λ o. sym (ap (λ (x : Link). x.waits) (else g o)) ∙ e);
}

-- a wait that was there still
was : (o o' : Option ℕ) → ((number : ℕ) → o ≡ Some number → o' ≡ Some number) → o ≢ None → o' ≢ None
was None o' h a = absurd (a refl)
was (Some number) o' h a = λ e. let x = h number refl in absurd (cc)

pub waits_less : (v w : View) → WaitsLess v w → WaitsOnce v → WaitsOnce w
waits_less v w less h = record {
  own = λ f number e. h.own f number (less.fewer f number e) ∙ sym less.number;
  one = λ f g a b. h.one f g (was (link w f).waits (link v f).waits (less.fewer f) a) (was (link w g).waits (link v g).waits (less.fewer g) b);
}

-- a view that waits at f under its own number, and nowhere else
pub waits_at : (w : View) (f number : ℕ) → number ≡ w.number → (link w f).waits ≡ Some number → ((g : ℕ) → g ≢ f → (link w g).waits ≡ None) → WaitsOnce w
waits_at w f number own here none = record {
  own = λ g given e. dite (ℕ_discrete g f) (λ at. sym (same_Some number given (sym here ∙ subst (λ (z : ℕ). (link w z).waits ≡ Some given) at e)) ∙ own) (λ o. let x = none g o in absurd (cc));
  one = λ g k a b. only g a ∙ sym (only k b);
}
  where
    only : (g : ℕ) → (link w g).waits ≢ None → g ≡ f
    only g a = dite (ℕ_discrete g f) (λ at. at) (λ o. absurd (a (none g o)))

waits_nowhere : (v : View) → ((f : ℕ) → (link v f).waits ≡ None) → WaitsOnce v
waits_nowhere v none = record { own = λ f number e. let x = none f in absurd (cc); one = λ f g a b. absurd (a (none f)) }

new_waits : (number base n p m : ℕ) → WaitsOnce (new_view number base n p m)
new_waits number base n p m = waits_nowhere (new_view number base n p m) (λ f. ap (λ (x : Link). x.waits) (link_new n p m number base f))

pub waits_first : (base n p m : ℕ) → WaitsOnce (first_view base n p m)
waits_first base n p m = waits_nowhere (first_view base n p m) (λ f. ap (λ (x : Link). x.waits) (link_new n p m 0 base f))

module _ (views : List View) (h : WaitsLaw views) where
  -- a view changes
  pub waits_put : (i : ℕ) (w : View) → WaitsOnce w → WaitsLaw (set views i w)
  waits_put i w x j u e = ⊎_elim (λ (t : (j ≡ i) × (w ≡ u)). subst WaitsOnce t.1 x) (λ (t : (j ≢ i) × (get_elem? views j ≡ some u)). h j u t.1) (at_set views i j w u e)

  -- and begins no wait
  pub waits_fewer : (i : ℕ) (v w : View) → get_elem? views i ≡ some v → WaitsLess v w → WaitsLaw (set views i w)
  waits_fewer i v w there less = waits_put i w (waits_less v w less (h i v there))

  -- or changes beside its links
  pub waits_set : (i : ℕ) (v w : View) → get_elem? views i ≡ some v → w.links ≡ v.links → w.number ≡ v.number → WaitsLaw (set views i w)
  waits_set i v w there links number = waits_fewer i v w there (record { number = number; fewer = λ f own e. sym (ap (λ (x : List Link). (link (record w { links = x }) f).waits) links) ∙ e })

  -- one more view
  pub waits_split : (number base n p m : ℕ) → WaitsLaw (views ++ new_view number base n p m ∷ [])
  waits_split number base n p m j u e = let w : View = new_view number base n p m in ⊎_elim (λ (o : get_elem? views j ≡ some u). h j u o) (λ o. subst WaitsOnce o.0 (new_waits number base n p m)) (at_end views w u j e)

  -- a view is emptied
  pub waits_emptied : (j : ℕ) → WaitsLaw (set views j emptied_view)
  waits_emptied j = waits_put j emptied_view (waits_nowhere emptied_view (λ f. ap (λ (x : Link). x.waits) (link_new 0 0 0 0 0 f)))

waits_by : (number : ℕ) (o : Option ℕ) → 0 < wait_weight number o → o ≡ Some number
waits_by number None e = absurd (omega arith)
waits_by number (Some own) e = dite (ℕ_discrete number own) (λ same. ap (λ (z : ℕ). Some z) (sym same)) (λ o. let none = ap flag_weight (ne_eqb number own o) in absurd (omega arith))

-- a view that is counted as waiting under a number
pub waiter : (number f : ℕ) (views : List View) → 0 < tallies page_shape views f (waits_as number) → (j : ℕ) × (u : View) × (get_elem? views j ≡ some u) × ((link u f).waits ≡ Some number)
waiter number f views e = let r = some_term (λ (u : View). weigh (waits_as number) (link u f)) views e in (r.0, r.1, r.2, waits_by number (link r.1 f).waits r.3)
