-- Sums over a list.
use Rattle.std.proofs.Common.{◌≡◌, ℕ, zero, suc, ◌+◌, ◌≤◌, ◌≢◌, Bool, true, false, cond, List, [], ◌∷◌, ◌++◌, length, set, sym, refl, ap, arith, ◌<◌, ⊎_elim}
use Rattle.std.proofs.lemmas.List.Recursion.{is_count_by}
use Rattle.std.specs.Prelude.{count_by}
use Rattle.std.proofs.lemmas.Bool.{cases_lt}
use mathlib.Core.Option.{some, some-injective, some-ne-none}
use lib.ListN.{get_elem?}
use Rattle.grid.specs.Shape.{total}

module _ {A : Type 0} (g : A → ℕ) where
  pub total-set : (l : List A) (j : ℕ) (v w : A) → get_elem? l j ≡ some v → total g (set l j w) + g v ≡ total g l + g w
  unfolding total
  total-set [] j v w e = absurd (some-ne-none v (sym e))
  total-set (x ∷ xs) zero v w e = omega (arith, ap g (some-injective x v e))
  total-set (x ∷ xs) (suc j) v w e = omega (arith, total-set xs j v w e)

  pub term_le : (l : List A) (j : ℕ) (v : A) → get_elem? l j ≡ some v → g v ≤ total g l
  unfolding total
  term_le [] j v e = absurd (some-ne-none v (sym e))
  term_le (x ∷ xs) zero v e = omega (arith, ap g (some-injective x v e))
  term_le (x ∷ xs) (suc j) v e = omega (arith, term_le xs j v e)

  -- a sum that isn't 0 has a term that isn't 0
  pub some_term : (l : List A) → 0 < total g l → (j : ℕ) × (a : A) × (get_elem? l j ≡ some a) × (0 < g a)
  unfolding total
  some_term [] e = absurd (omega arith)
  some_term (x ∷ xs) e = ⊎_elim
      (λ (more : 0 < g x). (zero, x, refl, more))
      (λ (none : g x ≤ 0). let r = some_term xs (omega arith) in (suc r.0, r.1, r.2, r.3))
      (cases_lt 0 (g x))

  pub terms_le : (l : List A) (j k : ℕ) (v u : A) → k ≢ j → get_elem? l j ≡ some v → get_elem? l k ≡ some u → g v + g u ≤ total g l
  unfolding total
  terms_le [] j k v u n e d = absurd (some-ne-none v (sym e))
  terms_le (x ∷ xs) zero zero v u n e d = absurd (n refl)
  terms_le (x ∷ xs) zero (suc k) v u n e d = omega (arith, ap g (some-injective x v e), term_le xs k u d)
  terms_le (x ∷ xs) (suc j) zero v u n e d = omega (arith, ap g (some-injective x u d), term_le xs j v e)
  terms_le (x ∷ xs) (suc j) (suc k) v u n e d = omega (arith, terms_le xs j k v u (λ h. n (ap suc h)) e d)

  pub total-snoc : (l : List A) (a : A) → total g (l ++ a ∷ []) ≡ total g l + g a
  unfolding total
  total-snoc [] a = omega arith
  total-snoc (x ∷ xs) a = omega (arith, total-snoc xs a)

  pub total-both : (l m : List A) → total g (l ++ m) ≡ total g l + total g m
  unfolding total
  total-both [] m = omega arith
  total-both (x ∷ xs) m = omega (arith, total-both xs m)

  pub total-few : (l : List A) → ((a : A) → g a ≤ 1) → total g l ≤ length l
  unfolding total
  total-few [] few = omega arith
  total-few (x ∷ xs) few = omega (arith, few x, total-few xs few)

  pub total-none : (l : List A) → ((j : ℕ) (u : A) → get_elem? l j ≡ some u → g u ≡ 0) → total g l ≡ 0
  unfolding total
  total-none [] h = refl
  total-none (x ∷ xs) h = omega (arith, h zero x refl, total-none xs (λ j u d. h (suc j) u d))

  -- a sum of sums
  pub total-add : (h k : A → ℕ) → ((a : A) → g a ≡ h a + k a) → (l : List A) → total g l ≡ total h l + total k l
  unfolding total
  total-add h k e [] = refl
  total-add h k e (x ∷ xs) = omega (arith, e x, total-add h k e xs)

  pub total-same : (h : A → ℕ) (l : List A) → ((j : ℕ) (u : A) → get_elem? l j ≡ some u → g u ≡ h u) → total g l ≡ total h l
  unfolding total
  total-same h [] e = refl
  total-same h (x ∷ xs) e = omega (arith, e zero x refl, total-same h xs (λ j u d. e (suc j) u d))

  -- if the others count nothing
  pub total-alone : (l : List A) (i : ℕ) (v : A) → get_elem? l i ≡ some v → ((j : ℕ) (u : A) → j ≢ i → get_elem? l j ≡ some u → g u ≡ 0) → total g l ≡ g v
  unfolding total
  total-alone [] i v e h = absurd (some-ne-none v (sym e))
  total-alone (x ∷ xs) zero v e h = omega (arith, ap g (some-injective x v e), total-none xs (λ j u d. h (suc j) u (λ z. omega arith) d))
  total-alone (x ∷ xs) (suc i) v e h = omega (arith, h zero x (λ z. omega arith) refl, total-alone xs i v e (λ j u n d. h (suc j) u (λ z. n (omega arith)) d))

  -- a sum of ones is a count
  pub total-count : (p : A → Bool) → ((a : A) → g a ≡ cond (p a) 1 0) → (l : List A) → total g l ≡ count_by p l
  unfolding total
  total-count p one l = is_count_by (total g) p refl (λ x xs. step (p x) (g x) (total g xs) (one x)) l
    where
      step : (b : Bool) (n m : ℕ) → n ≡ cond b 1 0 → n + m ≡ cond b (1 + m) m
      step true n m e = omega arith
      step false n m e = omega arith
