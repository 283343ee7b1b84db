-- Lists that change at one place, and functions that do.
use Rattle.std.proofs.Common.{◌≡◌, ℕ, zero, suc, ◌≢◌, ◌⊎◌, List, [], ◌∷◌, ◌++◌, length, set, cond, eq-eqb, ne_eqb, sym, refl, ap, ◌∙◌, subst, inl, inr, ⊎_elim, arith}
use mathlib.Core.Logic.{dite}
use mathlib.Core.Option.{some, some-injective, some-ne-none}
use native.Mathlib.Decide.{ℕ_discrete}
use lib.ListN.{get_elem?}
use Rattle.grid.specs.Shape.{put}

module _ {A : Type 0} where
  pub at_set : (l : List A) (i j : ℕ) (a b : A) → get_elem? (set l i a) j ≡ some b → ((j ≡ i) × (a ≡ b)) ⊎ ((j ≢ i) × (get_elem? l j ≡ some b))
  at_set [] i j a b e = absurd (some-ne-none b (sym e))
  at_set (x ∷ xs) zero zero a b e = inl (refl, some-injective a b e)
  at_set (x ∷ xs) zero (suc j) a b e = inr ((λ h. omega arith), e)
  at_set (x ∷ xs) (suc i) zero a b e = inr ((λ h. omega arith), e)
  at_set (x ∷ xs) (suc i) (suc j) a b e = ⊎_elim (λ t. inl (ap suc t.0, t.1)) (λ t. let n = t.0 in inr ((λ h. n (omega arith)), t.1)) (at_set xs i j a b e)

  pub at_last : (l : List A) (a : A) → get_elem? (l ++ a ∷ []) (length l) ≡ some a
  at_last [] a = refl
  at_last (x ∷ xs) a = at_last xs a

  pub set_here : (l : List A) (i : ℕ) (a b : A) → get_elem? l i ≡ some a → get_elem? (set l i b) i ≡ some b
  set_here [] i a b e = absurd (some-ne-none a (sym e))
  set_here (x ∷ xs) zero a b e = refl
  set_here (x ∷ xs) (suc i) a b e = set_here xs i a b e

  pub set_else : (l : List A) (i j : ℕ) (a : A) → j ≢ i → get_elem? (set l i a) j ≡ get_elem? l j
  set_else [] i j a n = refl
  set_else (x ∷ xs) zero zero a n = absurd (n refl)
  set_else (x ∷ xs) zero (suc j) a n = refl
  set_else (x ∷ xs) (suc i) zero a n = refl
  set_else (x ∷ xs) (suc i) (suc j) a n = set_else xs i j a (λ e. n (ap suc e))

  pub at_longer : (l m : List A) (i : ℕ) (a : A) → get_elem? l i ≡ some a → get_elem? (l ++ m) i ≡ some a
  at_longer [] m i a e = absurd (some-ne-none a (sym e))
  at_longer (x ∷ xs) m zero a e = e
  at_longer (x ∷ xs) m (suc i) a e = at_longer xs m i a e

  pub at_end : (l : List A) (a b : A) (j : ℕ) → get_elem? (l ++ a ∷ []) j ≡ some b → (get_elem? l j ≡ some b) ⊎ ((a ≡ b) × (j ≡ length l))
  at_end [] a b zero e = inr (some-injective a b e, refl)
  at_end [] a b (suc j) e = absurd (some-ne-none b (sym e))
  at_end (x ∷ xs) a b zero e = inl e
  at_end (x ∷ xs) a b (suc j) e = ⊎_elim (λ t. inl t) (λ t. inr (t.0, ap suc t.1)) (at_end xs a b j e)

  -- a list of one
  pub at_only : (v w : A) (i : ℕ) → get_elem? (v ∷ []) i ≡ some w → (v ≡ w) × (i ≡ 0)
  at_only v w zero e = (some-injective v w e, refl)
  at_only v w (suc i) e = absurd (some-ne-none w (sym e))

  pub put_here : (g : ℕ → A) (f : ℕ) (x : A) → put g f x f ≡ x
  put_here g f x = ap (λ b. cond b x (g f)) (eq-eqb f f refl)

  pub put_else : (g : ℕ → A) (f : ℕ) (x : A) (k : ℕ) → k ≢ f → put g f x k ≡ g k
  put_else g f x k n = ap (λ b. cond b x (g k)) (ne_eqb k f n)

  pub put_at : (g : ℕ → A) (f : ℕ) (x : A) (k : ℕ) → k ≡ f → put g f x k ≡ x
  put_at g f x k e = subst (λ (z : ℕ). put g f x z ≡ x) (sym e) (put_here g f x)

  -- where x is what stood there
  pub put_same : (g : ℕ → A) (f : ℕ) (x : A) (k : ℕ) → x ≡ g f → put g f x k ≡ g k
  put_same g f x k e = dite (ℕ_discrete k f) (λ h. subst (λ (z : ℕ). put g f x z ≡ g z) (sym h) (put_here g f x ∙ e)) (λ n. put_else g f x k n)

  -- What a function with x at f gives at k, in the two cases
  pub record Put (g : ℕ → A) (f : ℕ) (x : A) (k : ℕ) (y : A) : Type 0 where
    pub same : k ≡ f → y ≡ x
    pub other : k ≢ f → y ≡ g k

  pub puts : (g : ℕ → A) (f : ℕ) (x : A) (k : ℕ) → Put g f x k (put g f x k)
  puts g f x k = record { same = put_at g f x k; other = put_else g f x k }
