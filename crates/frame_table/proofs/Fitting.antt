-- What the map that goes out has of the pair in change, and that it has room for it.
use Rattle.std.proofs.Common.{eqb, ◌≡◌, ◌≢◌, ℕ, zero, suc, ◌<◌, Bool, true, false, Option, Some, None, List, [], ◌∷◌, map, length, eq-eqb, ne_eqb, sym, refl, ap, ◌∙◌, subst, arith}
use Rattle.std.specs.Prelude.{Vec, vec_capacity, if◌then◌else◌}
use Rattle.std.specs.Global.{Global}
use Rattle.std.specs.List.{IsDistinct, AllByRecursion, list_any}
use Rattle.std.proofs.lemmas.List.{length-map}
use Rattle.std.proofs.lemmas.Map.Steps.{length-le_from_distinct_below}
use mathlib.Core.Logic.{dite}
use mathlib.Core.Option.{some, some-injective}
use native.Mathlib.Decide.{ℕ_discrete}
use lib.ListN.{get_elem?}
use Rattle.pin_core.specs.declared.view.View.{View}
use Rattle.pin_core.specs.declared.view.MapEntry.{MapEntry}
use Rattle.pin_core.specs.declared.view.MapChange.{MapChange}
use Rattle.pin_core.specs.declared.view.MapChange.TheVariants.{Stable, Entering, Leaving}
use Rattle.pin_core.specs.State.{hold}
use Rattle.pin_core.specs.Turns.{found, owed_by}
use Rattle.pin_core.specs.Maps.{IsPair, OwedLaw, PairLaw}
use Rattle.history_core.specs.State.{State}
use Rattle.history_core.specs.Laws.{Laws}
use Rattle.table_rule.specs.declared.value.Mapped.{Mapped}
use Rattle.table_rule.specs.Shows.{AreApart, GivesEntries, entry_of}
use Rattle.frame_table.specs.Latches.{HasNamed}

module _ {A : Type 0} (number : A → ℕ) where
  -- no thing has the number x
  others_apart : (x : ℕ) (l : List A) → ((i : ℕ) (a : A) → get_elem? l i ≡ some a → number a ≢ x) → AllByRecursion (λ (y : ℕ). eqb x y ≡ false) (map number l)
  others_apart x [] other = tt
  others_apart x (a ∷ l) other = (ne_eqb x (number a) (λ e. other 0 a refl (sym e)), others_apart x l (λ i b at. other (suc i) b at))

  -- no two have the same number
  all_apart : (l : List A) → ((i j : ℕ) (a b : A) → get_elem? l i ≡ some a → get_elem? l j ≡ some b → number a ≡ number b → i ≡ j) → IsDistinct eqb (map number l)
  unfolding IsDistinct
  all_apart [] apart = tt
  all_apart (a ∷ l) apart = (others_apart (number a) l (λ i b at e. absurd (let no : suc i ≡ 0 = apart (suc i) 0 b a at refl e in omega arith)), all_apart l (λ i j b c at there e. let same : suc i ≡ suc j = apart (suc i) (suc j) b c at there e in omega arith))

  -- each number is below n
  all_below : (n : ℕ) (l : List A) → ((i : ℕ) (a : A) → get_elem? l i ≡ some a → number a < n) → (q : ℕ) → list_any (eqb q) (map number l) ≡ true → q < n
  all_below n [] low q is = absurd (cc)
  all_below n (a ∷ l) low q is = dite (ℕ_discrete q (number a)) (λ e. let h = low 0 a refl in omega arith)
      (λ e. all_below n l (λ i b at. low (suc i) b at) q (let no = ne_eqb q (number a) e in grind (arith, no, is)))

  -- things with different numbers below n, none of which is x, are fewer than n, where x is below n too
  fewer : (n x : ℕ) (l : List A) → x < n → ((i : ℕ) (a : A) → get_elem? l i ≡ some a → (number a < n) × (number a ≢ x)) → ((i j : ℕ) (a b : A) → get_elem? l i ≡ some a → get_elem? l j ≡ some b → number a ≡ number b → i ≡ j) → length l < n
  unfolding IsDistinct
  fewer n x l low each apart = let few = length-le_from_distinct_below (x ∷ map number l) n (others_apart x l (λ i a at. (each i a at).1), all_apart l apart) below in let long = length-map l number in omega arith
    where
      below : (q : ℕ) → list_any (eqb q) (x ∷ map number l) ≡ true → q < n
      below q is = dite (ℕ_discrete q x) (λ e. omega arith) (λ e. all_below n l (λ i a at. (each i a at).0) q (let no = ne_eqb q x e in grind (arith, no, is)))

-- a tag that stands in front stands nowhere else
pub apart_head : (a : Mapped) (l : List Mapped) → AreApart (a ∷ l) → (i : ℕ) (b : Mapped) → get_elem? l i ≡ some b → b.tag ≢ a.tag
apart_head a l apart i b at e = absurd (let no : suc i ≡ 0 = apart (suc i) 0 b a at refl e in omega arith)

pub apart_tail : (a : Mapped) (l : List Mapped) → AreApart (a ∷ l) → AreApart l
apart_tail a l apart i j b c at there e = let same : suc i ≡ suc j = apart (suc i) (suc j) b c at there e in omega arith

-- what the first entry gives, and what the others give
pub found_here : (a : Mapped) (l : List Mapped) (tag : ℕ) → tag ≡ a.tag → found (map entry_of (a ∷ l)) tag ≡ Some a.frame
unfolding found
found_here a l tag e = ap (λ (t : Bool). if t then Some a.frame else found (map entry_of l) tag) (eq-eqb tag a.tag e)

pub found_else : (a : Mapped) (l : List Mapped) (tag : ℕ) → tag ≢ a.tag → found (map entry_of (a ∷ l)) tag ≡ found (map entry_of l) tag
unfolding found
found_else a l tag n = ap (λ (t : Bool). if t then Some a.frame else found (map entry_of l) tag) (ne_eqb tag a.tag n)

-- the frame of an entry is what the entries give for its tag
pub entry_found : (l : List Mapped) → AreApart l → (i : ℕ) (a : Mapped) → get_elem? l i ≡ some a → found (map entry_of l) a.tag ≡ Some a.frame
entry_found [] apart i a at = absurd (cc)
entry_found (b ∷ l) apart zero a at = let same = some-injective b a at in found_here b l a.tag (ap (λ (x : Mapped). x.tag) (sym same)) ∙ ap (λ (x : Mapped). Some x.frame) same
entry_found (b ∷ l) apart (suc i) a at = found_else b l a.tag (apart_head b l apart i a at) ∙ entry_found l (apart_tail b l apart) i a at

-- the frames of a map's entries are frames of the state
pub entries_inside : (s : State) → Laws s → (p n : ℕ) (m : Vec Mapped Global) → GivesEntries n m (s.pool.core.partition p).map → (i : ℕ) (a : Mapped) → get_elem? m.items i ≡ some a → a.frame < s.pool.core.frames
entries_inside s laws p n m gives i a at = (laws.invariant.pool.core.maps.mapped p a.tag a.frame (ap (λ (h : ℕ → Option ℕ). h a.tag) (sym gives.found) ∙ entry_found m.items gives.apart i a at)).inside

-- and so is the frame that they give for a tag
pub found_below : (n : ℕ) (l : List Mapped) → ((i : ℕ) (a : Mapped) → get_elem? l i ≡ some a → a.frame < n) → (tag f : ℕ) → found (map entry_of l) tag ≡ Some f → f < n
unfolding found
found_below n [] low tag f is = absurd (cc)
found_below n (a ∷ l) low tag f is = dite (ℕ_discrete tag a.tag)
    (λ e. let both : Some a.frame ≡ Some f = sym (found_here a l tag e) ∙ is in let same : a.frame ≡ f = cc in subst (λ (x : ℕ). x < n) same (low 0 a refl))
    (λ e. found_below n l (λ i b at. low (suc i) b at) tag f (sym (found_else a l tag e) ∙ is))

module _ (s : State) (id p : ℕ) (v : View) (laws : Laws s) (there : get_elem? s.pool.core.views id ≡ some v) (inside : p < s.pool.core.partitions) (held : (hold v p).held ≡ true) (unchanged : (hold v p).changed ≡ false) where
  -- the pair that the view has named is the one in change
  owed : (s.pool.core.partition p).owed ≡ (hold v p).change
  owed = sym ((laws.invariant.pool.core.turns.cells id v p there inside).owed held) ∙ ap (λ (b : Bool). owed_by b (hold v p).change) unchanged

  pair_law : (tag f : ℕ) → IsPair s.pool.core.frames s.pool.core.partition_of p tag f → PairLaw ((s.pool.core.partition p).map tag) (hold v p).change (s.pool.core.frame f).tag tag f
  pair_law tag f pair = subst (λ (c : MapChange). PairLaw ((s.pool.core.partition p).map tag) c (s.pool.core.frame f).tag tag f) owed
      (subst (λ (q : ℕ). PairLaw ((s.pool.core.partition q).map tag) (s.pool.core.partition q).owed (s.pool.core.frame f).tag tag f) pair.placed (laws.invariant.pool.core.maps.pairs tag f pair.named pair.inside))

  named : OwedLaw s.pool.core.frames s.pool.core.partition_of p (hold v p).change
  named = subst (OwedLaw s.pool.core.frames s.pool.core.partition_of p) owed (laws.invariant.pool.core.maps.changing p)

  pub has_named : (entries : List MapEntry) → found entries ≡ (s.pool.core.partition p).map → HasNamed (hold v p).change entries
  has_named entries is = of_change (hold v p).change refl
    where
      of_change : (c : MapChange) → (hold v p).change ≡ c → HasNamed c entries
      of_change Stable e = tt
      of_change (Entering tag f) e = let pair = subst (OwedLaw s.pool.core.frames s.pool.core.partition_of p) e named in ap (λ (m : ℕ → Option ℕ). m tag) is ∙ ((pair_law tag f pair).entering e).1
      of_change (Leaving tag f) e = let pair = subst (OwedLaw s.pool.core.frames s.pool.core.partition_of p) e named in ap (λ (m : ℕ → Option ℕ). m tag) is ∙ ((pair_law tag f pair).leaving e).1

  pub has_room : (m : Vec Mapped Global) → GivesEntries s.pool.core.frames m (s.pool.core.partition p).map → (tag f : ℕ) → (hold v p).change ≡ Entering tag f → length m.items < vec_capacity m
  has_room m gives tag f e = let few = fewer (λ (a : Mapped). a.frame) s.pool.core.frames f m.items pair.inside (λ i a at. ((entry i a at).inside, λ same. lacks i a at (sym (tag_of i a at) ∙ ap (λ (g : ℕ). (s.pool.core.frame g).tag) same ∙ entering.0)))
      (λ i j a b at bt same. gives.apart i j a b at bt (sym (tag_of i a at) ∙ ap (λ (g : ℕ). (s.pool.core.frame g).tag) same ∙ tag_of j b bt)) in let room = gives.room in omega arith
    where
      pair : IsPair s.pool.core.frames s.pool.core.partition_of p tag f
      pair = subst (OwedLaw s.pool.core.frames s.pool.core.partition_of p) e named

      entering : ((s.pool.core.frame f).tag ≡ tag) × ((s.pool.core.partition p).map tag ≡ None)
      entering = (pair_law tag f pair).entering e

      gives_it : (i : ℕ) (a : Mapped) → get_elem? m.items i ≡ some a → (s.pool.core.partition p).map a.tag ≡ Some a.frame
      gives_it i a at = ap (λ (h : ℕ → Option ℕ). h a.tag) (sym gives.found) ∙ entry_found m.items gives.apart i a at

      entry : (i : ℕ) (a : Mapped) → get_elem? m.items i ≡ some a → IsPair s.pool.core.frames s.pool.core.partition_of p a.tag a.frame
      entry i a at = laws.invariant.pool.core.maps.mapped p a.tag a.frame (gives_it i a at)

      -- each entry's frame has the entry's tag
      tag_of : (i : ℕ) (a : Mapped) → get_elem? m.items i ≡ some a → (s.pool.core.frame a.frame).tag ≡ a.tag
      tag_of i a at = dite (ℕ_discrete (s.pool.core.frame a.frame).tag a.tag) (λ is. is) (λ n. absurd (let no : Entering tag f ≡ Leaving a.tag a.frame = sym e ∙ (pair_law a.tag a.frame (entry i a at)).found (gives_it i a at) n in cc))

      -- and the tag that enters is no entry's
      lacks : (i : ℕ) (a : Mapped) → get_elem? m.items i ≡ some a → a.tag ≢ tag
      lacks i a at same = absurd (let no : Some a.frame ≡ None = sym (gives_it i a at) ∙ ap (s.pool.core.partition p).map same ∙ entering.1 in cc)
