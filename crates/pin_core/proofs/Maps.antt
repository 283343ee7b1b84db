-- A tag store and a change of a map keep the maps exact.
use Rattle.std.proofs.Common.{◌≡◌, ◌≢◌, ℕ, ◌<◌, nat_eq, Bool, true, false, sym, ap, refl, ◌∙◌, subst, arith, Option, Some, None}
use Rattle.std.proofs.lemmas.Bool.{eqb-true, eqb-false}
use Rattle.std.proofs.lemmas.Option.{same_Some}
use mathlib.Core.Logic.{dite}
use native.Mathlib.Decide.{ℕ_discrete}
use Rattle.pin_core.specs.declared.view.MapChange.{MapChange}
use Rattle.pin_core.specs.declared.view.MapChange.TheVariants.{Stable, Entering, Leaving}
use Rattle.pin_core.specs.State.{no_tag}
use Rattle.pin_core.specs.Maps.{PairLaw, IsPair, OwedLaw, MapLaw}
use Rattle.pin_core.specs.Turns.{map_after}
use Rattle.grid.specs.Shape.{put}
use Rattle.grid.proofs.Lists.{puts}

-- the frame b gets the tag a
entering : (o : Option ℕ) (c c' : MapChange) (g g' t f a b : ℕ) (same_turn : Bool) → PairLaw o c g t f → (f ≡ b → g' ≡ a) → (f ≢ b → g' ≡ g) → (same_turn ≡ true → (c ≡ Stable) × (c' ≡ Entering a b)) → (same_turn ≡ false → (c' ≡ c) × (t ≢ a))
    → (f ≡ b → g ≡ no_tag) → t ≢ no_tag → (t ≡ a → o ≡ None) → PairLaw o c' g' t f
entering o c c' g g' t f a b same_turn h x y p q r s w = grind (arith, h, x, y, p, q, r, s, w)

-- the map takes the pair in
entered : (o o' : Option ℕ) (c c' : MapChange) (g t f a b : ℕ) (same_turn : Bool) → PairLaw o c g t f → (t ≡ a → o' ≡ Some b) → (t ≢ a → o' ≡ o) → (same_turn ≡ true → (c ≡ Entering a b) × (c' ≡ Stable)) → (same_turn ≡ false → (c' ≡ c) × (t ≢ a))
    → (t ≡ a → o ≡ None) → PairLaw o' c' g t f
entered o o' c c' g t f a b same_turn h x y p q r = grind (arith, h, x, y, p, q, r)

-- the tag a leaves the frame b
leaving : (o : Option ℕ) (c c' : MapChange) (g g' t f a b : ℕ) (same_turn : Bool) → PairLaw o c g t f → (f ≡ b → (g ≡ a) × (g' ≡ no_tag)) → (f ≢ b → g' ≡ g) → (same_turn ≡ true → (c ≡ Stable) × (c' ≡ Leaving a b)) → (same_turn ≡ false → (c' ≡ c) × (t ≢ a))
    → (t ≡ a → (o ≡ Some b)) → t ≢ no_tag → PairLaw o c' g' t f
leaving o c c' g g' t f a b same_turn h x y p q r s = grind (arith, h, x, y, p, q, r, s)

-- the map leaves the pair out
left_out : (o o' : Option ℕ) (c c' : MapChange) (g t f a b : ℕ) (same_turn : Bool) → PairLaw o c g t f → (t ≡ a → o' ≡ None) → (t ≢ a → o' ≡ o) → (same_turn ≡ true → (c ≡ Leaving a b) × (c' ≡ Stable)) → (same_turn ≡ false → (c' ≡ c) × (t ≢ a))
    → (t ≡ a → o ≡ Some b) → PairLaw o' c' g t f
left_out o o' c c' g t f a b same_turn h x y p q r = grind (arith, h, x, y, p, q, r)

-- the map gives the frame that has the tag, if the pair isn't being entered
pub gives_holder : (o : Option ℕ) (owed : MapChange) (t f : ℕ) → PairLaw o owed t t f → owed ≢ Entering t f → o ≡ Some f
gives_holder None owed t f h other = absurd (other (h.tagged refl (λ e. cc)))
gives_holder (Some g) owed t f h other = dite (ℕ_discrete g f) (λ e. ap Some e) (λ o. absurd (other (h.tagged refl (λ e. o (same_Some g f e)))))

one_holder : (o : Option ℕ) (c : MapChange) (t f g : ℕ) → PairLaw o c t t f → PairLaw o c t t g → f ≡ g
one_holder o c t f g x y = grind (arith, x, y)

module _ (n : ℕ) (of : ℕ → ℕ) (gives : ℕ → ℕ → Option ℕ) (owed : ℕ → MapChange) (word : ℕ → ℕ) (h : MapLaw n of gives owed word) where
  -- so no two frames have one tag word, but for all ones
  pub maps_apart : (f g : ℕ) → f < n → g < n → word f ≢ no_tag → word f ≡ word g → f ≡ g
  maps_apart f g x y named same = let t : ℕ = word f in one_holder (gives (of t) t) (owed (of t)) t f g (h.pairs t f named x) (subst (λ (z : ℕ). PairLaw (gives (of t) t) (owed (of t)) z t g) (sym same) (h.pairs t g named y))

  -- nothing that the law speaks of changes
  pub maps_same : (gives' : ℕ → ℕ → Option ℕ) (owed' : ℕ → MapChange) (word' : ℕ → ℕ) → ((p : ℕ) → gives' p ≡ gives p) → ((p : ℕ) → owed' p ≡ owed p) → ((f : ℕ) → word' f ≡ word f) → MapLaw n of gives' owed' word'
  maps_same gives' owed' word' a b c = subst (λ (x : (ℕ → ℕ → Option ℕ) × (ℕ → MapChange) × (ℕ → ℕ)). MapLaw n of x.0 x.1 x.2) (λ k. ((λ p. sym (a p) k), (λ p. sym (b p) k), (λ f. sym (c f) k))) h

  -- a tag store of the tag a at the frame b
  pub maps_entering : (a b : ℕ) (owed' : ℕ → MapChange) (word' : ℕ → ℕ) → a ≢ no_tag → b < n → owed (of a) ≡ Stable → gives (of a) a ≡ None → word b ≡ no_tag
      → ((p : ℕ) → p ≡ of a → owed' p ≡ Entering a b) → ((p : ℕ) → p ≢ of a → owed' p ≡ owed p) → ((f : ℕ) → f ≡ b → word' f ≡ a) → ((f : ℕ) → f ≢ b → word' f ≡ word f) → MapLaw n of gives owed' word'
  maps_entering a b owed' word' named inside free lacks bare oh oe wh we = record {
    pairs = λ t f nt bf. entering (gives (of t) t) (owed (of t)) (owed' (of t)) (word f) (word' f) t f a b (nat_eq (of t) (of a)) (h.pairs t f nt bf) (wh f) (we f)
        (λ e. let is : of t ≡ of a = eqb-true (of t) (of a) e in (ap owed is ∙ free, oh (of t) is)) (λ e. let isnt = eqb-false (of t) (of a) e in (oe (of t) isnt, λ same. isnt (ap of same)))
        (λ e. ap word e ∙ bare) nt (λ e. ap (λ (z : ℕ). gives (of z) z) e ∙ lacks);
    mapped = h.mapped;
    changing = λ p. dite (ℕ_discrete p (of a)) (λ e. subst (OwedLaw n of p) (sym (oh p e)) (record { placed = sym e; named = named; inside = inside })) (λ o. subst (OwedLaw n of p) (sym (oe p o)) (h.changing p));
  }

  -- a tag store of all ones at the frame b, which has the tag a
  pub maps_leaving : (a b : ℕ) (owed' : ℕ → MapChange) (word' : ℕ → ℕ) → a ≢ no_tag → b < n → owed (of a) ≡ Stable → word b ≡ a
      → ((p : ℕ) → p ≡ of a → owed' p ≡ Leaving a b) → ((p : ℕ) → p ≢ of a → owed' p ≡ owed p) → ((f : ℕ) → f ≡ b → word' f ≡ no_tag) → ((f : ℕ) → f ≢ b → word' f ≡ word f) → MapLaw n of gives owed' word'
  maps_leaving a b owed' word' named inside free has oh oe wh we = let given : gives (of a) a ≡ Some b = gives_holder (gives (of a) a) Stable a b (subst (λ (x : MapChange × ℕ). PairLaw (gives (of a) a) x.0 x.1 a b) (λ k. (free k, has k)) (h.pairs a b named inside)) (λ e. cc) in record {
    pairs = λ t f nt bf. leaving (gives (of t) t) (owed (of t)) (owed' (of t)) (word f) (word' f) t f a b (nat_eq (of t) (of a)) (h.pairs t f nt bf) (λ e. (ap word e ∙ has, wh f e)) (we f)
        (λ e. let is : of t ≡ of a = eqb-true (of t) (of a) e in (ap owed is ∙ free, oh (of t) is)) (λ e. let isnt = eqb-false (of t) (of a) e in (oe (of t) isnt, λ same. isnt (ap of same)))
        (λ e. ap (λ (z : ℕ). gives (of z) z) e ∙ given) nt;
    mapped = h.mapped;
    changing = λ p. dite (ℕ_discrete p (of a)) (λ e. subst (OwedLaw n of p) (sym (oh p e)) (record { placed = sym e; named = named; inside = inside })) (λ o. subst (OwedLaw n of p) (sym (oe p o)) (h.changing p));
  }

  -- The map of the partition q gives x for the tag a, and the others are as before
  module _ (q a : ℕ) (x : Option ℕ) (gives' : ℕ → ℕ → Option ℕ) (gh : (p : ℕ) → p ≡ q → gives' p ≡ put (gives q) a x) (ge : (p : ℕ) → p ≢ q → gives' p ≡ gives p) where
    at_tag : (p t : ℕ) → p ≡ q → t ≡ a → gives' p t ≡ x
    at_tag p t e same = (λ k. gh p e k t) ∙ (puts (gives q) a x t).same same

    at_other : (p t : ℕ) → t ≢ a → gives' p t ≡ gives p t
    at_other p t other = dite (ℕ_discrete p q) (λ e. (λ k. gh p e k t) ∙ (puts (gives q) a x t).other other ∙ ap (λ (z : ℕ). gives z t) (sym e)) (λ o. λ k. ge p o k t)

    at_else : (p t : ℕ) → p ≢ q → gives' p t ≡ gives p t
    at_else p t o = λ k. ge p o k t

  changing_none : (q : ℕ) (owed' : ℕ → MapChange) → ((p : ℕ) → p ≡ q → owed' p ≡ Stable) → ((p : ℕ) → p ≢ q → owed' p ≡ owed p) → (p : ℕ) → OwedLaw n of p (owed' p)
  changing_none q owed' oh oe p = dite (ℕ_discrete p q) (λ e. subst (OwedLaw n of p) (sym (oh p e)) tt) (λ o. subst (OwedLaw n of p) (sym (oe p o)) (h.changing p))

  entered_map : (q a b : ℕ) (gives' : ℕ → ℕ → Option ℕ) (owed' : ℕ → MapChange) → owed q ≡ Entering a b → IsPair n of q a b → ((p : ℕ) → p ≡ q → gives' p ≡ map_after (Entering a b) (gives q)) → ((p : ℕ) → p ≢ q → gives' p ≡ gives p)
      → ((p : ℕ) → p ≡ q → owed' p ≡ Stable) → ((p : ℕ) → p ≢ q → owed' p ≡ owed p) → MapLaw n of gives' owed' word
  entered_map q a b gives' owed' owes pair gh ge oh oe = let x : Option ℕ = Some b in let lacks : gives (of a) a ≡ None = ((h.pairs a b pair.named pair.inside).entering (ap owed pair.placed ∙ owes)).1 in record {
    pairs = λ t f nt bf. entered (gives (of t) t) (gives' (of t) t) (owed (of t)) (owed' (of t)) (word f) t f a b (nat_eq (of t) q) (h.pairs t f nt bf) (λ e. at_tag q a x gives' gh ge (of t) t (ap of e ∙ pair.placed) e) (λ o. at_other q a x gives' gh ge (of t) t o)
        (λ e. let is : of t ≡ q = eqb-true (of t) q e in (ap owed is ∙ owes, oh (of t) is)) (λ e. let isnt = eqb-false (of t) q e in (oe (of t) isnt, λ same. isnt (ap of same ∙ pair.placed))) (λ e. ap (λ (z : ℕ). gives (of z) z) e ∙ lacks);
    mapped = λ p t f e. dite (ℕ_discrete t a)
        (λ same. dite (ℕ_discrete p q) (λ is. let bf : b ≡ f = same_Some b f (sym (at_tag q a x gives' gh ge p t is same) ∙ e) in subst (λ (z : ℕ × ℕ × ℕ). IsPair n of z.0 z.1 z.2) (λ k. (sym is k, sym same k, bf k)) pair)
        (λ o. h.mapped p t f (sym (at_else q a x gives' gh ge p t o) ∙ e)))
        (λ o. h.mapped p t f (sym (at_other q a x gives' gh ge p t o) ∙ e));
    changing = changing_none q owed' oh oe;
  }

  left_map : (q a b : ℕ) (gives' : ℕ → ℕ → Option ℕ) (owed' : ℕ → MapChange) → owed q ≡ Leaving a b → IsPair n of q a b → ((p : ℕ) → p ≡ q → gives' p ≡ map_after (Leaving a b) (gives q)) → ((p : ℕ) → p ≢ q → gives' p ≡ gives p)
      → ((p : ℕ) → p ≡ q → owed' p ≡ Stable) → ((p : ℕ) → p ≢ q → owed' p ≡ owed p) → MapLaw n of gives' owed' word
  left_map q a b gives' owed' owes pair gh ge oh oe = let x : Option ℕ = None in let has : gives (of a) a ≡ Some b = ((h.pairs a b pair.named pair.inside).leaving (ap owed pair.placed ∙ owes)).1 in record {
    pairs = λ t f nt bf. left_out (gives (of t) t) (gives' (of t) t) (owed (of t)) (owed' (of t)) (word f) t f a b (nat_eq (of t) q) (h.pairs t f nt bf) (λ e. at_tag q a x gives' gh ge (of t) t (ap of e ∙ pair.placed) e) (λ o. at_other q a x gives' gh ge (of t) t o)
        (λ e. let is : of t ≡ q = eqb-true (of t) q e in (ap owed is ∙ owes, oh (of t) is)) (λ e. let isnt = eqb-false (of t) q e in (oe (of t) isnt, λ same. isnt (ap of same ∙ pair.placed))) (λ e. ap (λ (z : ℕ). gives (of z) z) e ∙ has);
    mapped = λ p t f e. dite (ℕ_discrete t a)
        (λ same. dite (ℕ_discrete p q) (λ is. let bad : None ≡ Some f = sym (at_tag q a x gives' gh ge p t is same) ∙ e in absurd (cc)) (λ o. h.mapped p t f (sym (at_else q a x gives' gh ge p t o) ∙ e)))
        (λ o. h.mapped p t f (sym (at_other q a x gives' gh ge p t o) ∙ e));
    changing = changing_none q owed' oh oe;
  }

  -- the pair in change in the partition q is entered or left out
  pub maps_changed : (q : ℕ) (c : MapChange) (gives' : ℕ → ℕ → Option ℕ) (owed' : ℕ → MapChange) → owed q ≡ c → ((p : ℕ) → p ≡ q → gives' p ≡ map_after c (gives q)) → ((p : ℕ) → p ≢ q → gives' p ≡ gives p)
      → ((p : ℕ) → p ≡ q → owed' p ≡ Stable) → ((p : ℕ) → p ≢ q → owed' p ≡ owed p) → MapLaw n of gives' owed' word
  maps_changed q (Entering a b) gives' owed' owes gh ge oh oe = entered_map q a b gives' owed' owes (subst (OwedLaw n of q) owes (h.changing q)) gh ge oh oe
  maps_changed q (Leaving a b) gives' owed' owes gh ge oh oe = left_map q a b gives' owed' owes (subst (OwedLaw n of q) owes (h.changing q)) gh ge oh oe
  maps_changed q Stable gives' owed' owes gh ge oh oe = maps_same gives' owed' word (λ p. dite (ℕ_discrete p q) (λ e. gh p e ∙ ap gives (sym e)) (λ o. ge p o)) (λ p. dite (ℕ_discrete p q) (λ e. oh p e ∙ sym owes ∙ ap owed (sym e)) (λ o. oe p o)) (λ f. refl)
