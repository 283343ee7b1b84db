-- Lists of entries as finite maps.
use Rattle.std.proofs.Common.{eqb, ◌≡◌, ◌≢◌, ◌⊎◌, ℕ, zero, suc, Bool, true, false, cond, Option, Some, None, List, [], ◌∷◌, ◌++◌, map, length, eq-eqb, ne_eqb, ⊎_elim, sym, refl, ap, ◌∙◌}
use Rattle.std.specs.Prelude.{◌<◌, IfSome, filter, not, nat_eq, if◌then◌else◌}
use Rattle.std.specs.List.{find}
use Rattle.std.specs.Option.{option_map}
use mathlib.Core.Logic.{dite}
use mathlib.Core.Option.{some, some-injective}
use native.Mathlib.Decide.{ℕ_discrete}
use lib.ListN.{get_elem?}
use Rattle.grid.specs.Shape.{put}
use Rattle.grid.proofs.Lists.{at_end, put_at, put_else, put_same}
use Rattle.pin_core.specs.Turns.{found}
use Rattle.table_rule.specs.declared.value.Mapped.{Mapped}
use Rattle.table_rule.specs.Shows.{AreApart, entry_of}
use Rattle.frame_table.specs.Latches.{AreBelow}
use Rattle.frame_table.proofs.Fitting.{apart_head, apart_tail, found_below, found_here, found_else}

-- whether an entry is of the tag, or of another one
abbrev pub is_of : ℕ → Mapped → Bool
is_of tag a = eqb a.tag tag

abbrev pub is_not_of : ℕ → Mapped → Bool
is_not_of tag a = not (eqb a.tag tag)

-- what the entries give
abbrev gives : List Mapped → ℕ → Option ℕ
gives l = found (map entry_of l)

-- the first entry of a tag gives its frame
pub found_first : (l : List Mapped) (tag : ℕ) → option_map (λ (a : Mapped). a.frame) (find (is_of tag) l) ≡ gives l tag
unfolding found
found_first [] tag = refl
found_first (a ∷ l) tag = dite (ℕ_discrete tag a.tag)
    (λ e. ap (λ (t : Bool). option_map (λ (b : Mapped). b.frame) (if t then Some a else find (is_of tag) l)) (eq-eqb a.tag tag (sym e)) ∙ sym (found_here a l tag e))
    (λ n. ap (λ (t : Bool). option_map (λ (b : Mapped). b.frame) (if t then Some a else find (is_of tag) l)) (ne_eqb a.tag tag (λ e. n (sym e))) ∙ found_first l tag ∙ sym (found_else a l tag n))

-- a frame that entries give for a tag is one of theirs
pub gives_below : (n : ℕ) (l : List Mapped) → AreBelow n l → (tag : ℕ) (r : Option ℕ) → r ≡ gives l tag → IfSome r (λ f. f < n)
gives_below n l low tag None e = tt
gives_below n l low tag (Some f) e = found_below n l low tag f (sym e)

-- a tag that entries lack is none of theirs
lacks_head : (a : Mapped) (l : List Mapped) (tag : ℕ) → gives (a ∷ l) tag ≡ None → tag ≢ a.tag
lacks_head a l tag none e = let no : Some a.frame ≡ None = sym (found_here a l tag e) ∙ none in absurd (cc)

lacks_tail : (a : Mapped) (l : List Mapped) (tag : ℕ) → gives (a ∷ l) tag ≡ None → gives l tag ≡ None
lacks_tail a l tag none = sym (found_else a l tag (lacks_head a l tag none)) ∙ none

lacks : (l : List Mapped) (tag : ℕ) → gives l tag ≡ None → (i : ℕ) (a : Mapped) → get_elem? l i ≡ some a → a.tag ≢ tag
lacks [] tag none i a at same = absurd (cc)
lacks (b ∷ l) tag none zero a at same = lacks_head b l tag none (sym same ∙ ap (λ (m : Mapped). m.tag) (sym (some-injective b a at)))
lacks (b ∷ l) tag none (suc i) a at same = lacks l tag (lacks_tail b l tag none) i a at same

-- with an entry for a tag that they lack
pub apart_with : (l : List Mapped) (a : Mapped) → AreApart l → gives l a.tag ≡ None → AreApart (l ++ a ∷ [])
apart_with l a apart none i j b c at there e = of_ends (at_end l a b i at) (at_end l a c j there)
  where
    of_ends : (get_elem? l i ≡ some b) ⊎ ((a ≡ b) × (i ≡ length l)) → (get_elem? l j ≡ some c) ⊎ ((a ≡ c) × (j ≡ length l)) → i ≡ j
    of_ends x y = ⊎_elim
        (λ at_b. ⊎_elim (λ at_c. apart i j b c at_b at_c e) (λ y. absurd (lacks l a.tag none i b at_b (e ∙ ap (λ (m : Mapped). m.tag) (sym y.0)))) y)
        (λ x. ⊎_elim (λ at_c. absurd (lacks l a.tag none j c at_c (sym e ∙ ap (λ (m : Mapped). m.tag) (sym x.0)))) (λ y. x.1 ∙ sym y.1) y)
        x

with_at : (l : List Mapped) (a : Mapped) → gives l a.tag ≡ None → (tag : ℕ) → gives (l ++ a ∷ []) tag ≡ put (gives l) a.tag (Some a.frame) tag
unfolding found
with_at [] a none tag = refl
with_at (b ∷ l) a none tag = dite (ℕ_discrete tag b.tag)
    (λ e. found_here b (l ++ a ∷ []) tag e ∙ sym (put_else (gives (b ∷ l)) a.tag (Some a.frame) tag (λ x. lacks_head b l a.tag none (sym x ∙ e)) ∙ found_here b l tag e))
    (λ n. found_else b (l ++ a ∷ []) tag n ∙ with_at l a (lacks_tail b l a.tag none) tag ∙ ap (λ (x : Option ℕ). cond (nat_eq tag a.tag) (Some a.frame) x) (sym (found_else b l tag n)))

pub found_with : (l : List Mapped) (a : Mapped) → gives l a.tag ≡ None → gives (l ++ a ∷ []) ≡ put (gives l) a.tag (Some a.frame)
found_with l a none = λ i tag. with_at l a none tag i

-- what stands in a filtered list stood there before
kept_at : (p : Mapped → Bool) (l : List Mapped) (i : ℕ) (a : Mapped) → get_elem? (filter p l) i ≡ some a → (j : ℕ) × (get_elem? l j ≡ some a)
kept_at p [] i a at = absurd (cc)
kept_at p (b ∷ l) i a at = of_test (λ k there. kept_at p l k a there) (p b) i at
  where
    of_test : ((k : ℕ) → get_elem? (filter p l) k ≡ some a → (j : ℕ) × (get_elem? l j ≡ some a)) → (t : Bool) (i : ℕ) → get_elem? (if t then b ∷ filter p l else filter p l) i ≡ some a → (j : ℕ) × (get_elem? (b ∷ l) j ≡ some a)
    of_test rest true zero at = (0, at)
    of_test rest true (suc i) at = let k = rest i at in (suc k.0, k.1)
    of_test rest false i at = let k = rest i at in (suc k.0, k.1)

apart_cons : (a : Mapped) (l : List Mapped) → ((i : ℕ) (b : Mapped) → get_elem? l i ≡ some b → b.tag ≢ a.tag) → AreApart l → AreApart (a ∷ l)
apart_cons a l other apart zero zero b c at there e = refl
apart_cons a l other apart zero (suc j) b c at there e = absurd (other j c there (sym e ∙ ap (λ (m : Mapped). m.tag) (sym (some-injective a b at))))
apart_cons a l other apart (suc i) zero b c at there e = absurd (other i b at (e ∙ ap (λ (m : Mapped). m.tag) (sym (some-injective a c there))))
apart_cons a l other apart (suc i) (suc j) b c at there e = ap suc (apart i j b c at there e)

pub apart_filter : (p : Mapped → Bool) (l : List Mapped) → AreApart l → AreApart (filter p l)
apart_filter p [] apart = apart
apart_filter p (a ∷ l) apart = of_test (p a) (apart_filter p l (apart_tail a l apart))
  where
    of_test : (t : Bool) → AreApart (filter p l) → AreApart (if t then a ∷ filter p l else filter p l)
    of_test true rest = apart_cons a (filter p l) (λ i b at. let k = kept_at p l i b at in apart_head a l apart k.0 b k.1) rest
    of_test false rest = rest

without_at : (l : List Mapped) (t tag : ℕ) → gives (filter (is_not_of t) l) tag ≡ put (gives l) t None tag
unfolding found
without_at [] t tag = sym (put_same (gives []) t None tag refl)
without_at (a ∷ l) t tag = dite (ℕ_discrete a.tag t) (dropped (without_at l t tag)) (kept (without_at l t tag))
  where
    dropped : gives (filter (is_not_of t) l) tag ≡ put (gives l) t None tag → a.tag ≡ t → gives (filter (is_not_of t) (a ∷ l)) tag ≡ put (gives (a ∷ l)) t None tag
    dropped rest e = ap (λ (b : Bool). gives (if not b then a ∷ filter (is_not_of t) l else filter (is_not_of t) l) tag) (eq-eqb a.tag t e) ∙ rest
        ∙ dite (ℕ_discrete tag t) (λ x. put_at (gives l) t None tag x ∙ sym (put_at (gives (a ∷ l)) t None tag x))
        (λ n. put_else (gives l) t None tag n ∙ sym (put_else (gives (a ∷ l)) t None tag n ∙ found_else a l tag (λ x. n (x ∙ e))))

    kept : gives (filter (is_not_of t) l) tag ≡ put (gives l) t None tag → a.tag ≢ t → gives (filter (is_not_of t) (a ∷ l)) tag ≡ put (gives (a ∷ l)) t None tag
    kept rest n = ap (λ (b : Bool). gives (if not b then a ∷ filter (is_not_of t) l else filter (is_not_of t) l) tag) (ne_eqb a.tag t n)
        ∙ dite (ℕ_discrete tag a.tag)
        (λ e. found_here a (filter (is_not_of t) l) tag e ∙ sym (put_else (gives (a ∷ l)) t None tag (λ x. n (sym e ∙ x)) ∙ found_here a l tag e))
        (λ m. found_else a (filter (is_not_of t) l) tag m ∙ rest ∙ ap (λ (x : Option ℕ). cond (nat_eq tag t) None x) (sym (found_else a l tag m)))

-- without those of a tag
pub found_without : (l : List Mapped) (t : ℕ) → gives (filter (is_not_of t) l) ≡ put (gives l) t None
found_without l t = λ i tag. without_at l t tag i
