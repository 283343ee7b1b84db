-- What stands at a place of a list.
use Rattle.std.proofs.Common.{◌≡◌, ℕ, zero, suc, ◌-◌, ◌<◌, List, [], ◌∷◌, length, get_or, map, take, Option, Some, None, refl, sym, ap, ◌∙◌, subst, arith}
use Rattle.std.specs.Prelude.{All, IsSomeAnd, sum_by}
use Rattle.std.proofs.lemmas.List.Sums.{sum_by-cons}
use mathlib.Core.Option.{some, some-injective, some-ne-none}
use lib.ListN.{get_elem?}
use Rattle.table_rule.proofs.Opens.{length_low}

module _ {A : Type 0} where
  pub standing_or : (xs : List A) (i : ℕ) (x d : A) → get_elem? xs i ≡ some x → get_or xs i d ≡ x
  standing_or [] i x d e = absurd (some-ne-none x (sym e))
  standing_or (y ∷ xs) zero x d e = some-injective y x e
  standing_or (y ∷ xs) (suc i) x d e = standing_or xs i x d e

  pub taken : (n i : ℕ) (xs : List A) → i < n → get_elem? (take n xs) i ≡ get_elem? xs i
  taken zero i xs below = absurd (omega arith)
  taken (suc n) i [] below = refl
  taken (suc n) zero (x ∷ xs) below = refl
  taken (suc n) (suc i) (x ∷ xs) below = taken n i xs (omega arith)

  pub taken_from : (n i : ℕ) (xs : List A) (x : A) → get_elem? (take n xs) i ≡ some x → get_elem? xs i ≡ some x
  taken_from zero i xs x e = absurd (some-ne-none x (sym e))
  taken_from (suc n) i [] x e = e
  taken_from (suc n) zero (y ∷ xs) x e = e
  taken_from (suc n) (suc i) (y ∷ xs) x e = taken_from n i xs x e

  pub all_at : (P : A → Type 0) (xs : List A) (i : ℕ) (x : A) → All P xs → get_elem? xs i ≡ some x → P x
  all_at P xs i x all e = subst P (standing_or xs i x x e) (all i x (length_low xs i x e))

  pub length_taken : (n : ℕ) (xs : List A) → n < length xs → length (take n xs) ≡ n
  length_taken zero xs below = refl
  length_taken (suc n) [] below = absurd (omega arith)
  length_taken (suc n) (x ∷ xs) below = ap suc (length_taken n xs (omega arith))

  pub length_front : (xs : List A) → length (take (length xs - 1) xs) ≡ length xs - 1
  length_front [] = refl
  length_front (x ∷ xs) = length_taken (length (x ∷ xs) - 1) (x ∷ xs) (omega arith)

  pub none_in_sum : (f : A → ℕ) (xs : List A) → ((i : ℕ) (x : A) → get_elem? xs i ≡ some x → f x ≡ 0) → sum_by f xs ≡ 0
  none_in_sum f [] each = refl
  none_in_sum f (x ∷ xs) each = let here = each 0 x refl in let later = none_in_sum f xs (λ i. each (suc i)) in omega (arith, sum_by-cons f x xs)

  pub none_at : (f : A → ℕ) (xs : List A) (i : ℕ) (x : A) → sum_by f xs ≡ 0 → get_elem? xs i ≡ some x → f x ≡ 0
  none_at f [] i x none e = absurd (some-ne-none x (sym e))
  none_at f (y ∷ xs) zero x none e = ap f (sym (some-injective y x e)) ∙ omega (arith, sum_by-cons f y xs)
  none_at f (y ∷ xs) (suc i) x none e = none_at f xs i x (omega (arith, sum_by-cons f y xs)) e

  pub some_in_sum : (f : A → ℕ) (xs : List A) (i : ℕ) (x : A) → get_elem? xs i ≡ some x → 0 < f x → 0 < sum_by f xs
  some_in_sum f [] i x e more = absurd (some-ne-none x (sym e))
  some_in_sum f (y ∷ xs) zero x e more = let same = ap f (some-injective y x e) in omega (arith, sum_by-cons f y xs)
  some_in_sum f (y ∷ xs) (suc i) x e more = let later = some_in_sum f xs i x e more in omega (arith, sum_by-cons f y xs)

  module _ {B : Type 0} (f : A → B) where
    pub mapped_or : (xs : List A) (i : ℕ) (x : A) (d : B) → get_elem? xs i ≡ some x → get_or (map f xs) i d ≡ f x
    mapped_or [] i x d e = absurd (some-ne-none x (sym e))
    mapped_or (y ∷ xs) zero x d e = ap f (some-injective y x e)
    mapped_or (y ∷ xs) (suc i) x d e = mapped_or xs i x d e

  module _ {B : Type 0} (f : A → Option B) (P : B → Type 0) where
    of_some : (x : A) (y : Option B) → f x ≡ y → IsSomeAnd y P → (b : B) × (f x ≡ Some b) × P b
    of_some x None e h = absurd h
    of_some x (Some b) e h = (b, e, h)

    -- where something that a list is mapped to has a value with a property, it stands there
    pub found : (xs : List A) (i : ℕ) → IsSomeAnd (get_or (map f xs) i None) P → (x : A) × (get_elem? xs i ≡ some x) × ((b : B) × (f x ≡ Some b) × P b)
    found [] i has = absurd has
    found (x ∷ xs) zero has = (x, refl, of_some x (f x) refl has)
    found (x ∷ xs) (suc i) has = found xs i has

    pub found_there : (xs : List A) (i : ℕ) (x : A) (b : B) → get_elem? xs i ≡ some x → f x ≡ Some b → P b → IsSomeAnd (get_or (map f xs) i None) P
    found_there xs i x b at is has = subst (λ (y : Option B). IsSomeAnd y P) (sym (mapped_or f xs i x None at ∙ is)) has
