-- Sums over lists of calls and outcomes.
use Rattle.std.proofs.Common.{◌≡◌, ◌≢◌, ℕ, zero, suc, ◌+◌, ◌<◌, ◌≤◌, Bool, true, false, cond, nat_eq, eq-eqb, ne_eqb, List, [], ◌∷◌, ◌++◌, length, sym, refl, ap, ◌∙◌, subst, ⊎_elim, arith}
use mathlib.Core.Logic.{dite}
use native.Mathlib.Decide.{ℕ_discrete}
use mathlib.Core.Option.{some, some-ne-none, some-injective}
use lib.ListN.{get_elem?}
use Rattle.pin_core.specs.declared.view.Call.{Call}
use Rattle.pin_core.specs.declared.view.Call.TheVariants.{Read, Write, Size, Sized}
use Rattle.grid.proofs.Sums.{total-both}
use Rattle.history_core.proofs.Calls.{at_both}
use Rattle.history_core.specs.Log.{write_weight, weight_at, writes_in, writes_at}
use Rattle.grid.specs.Shape.{total}
use Rattle.grid.proofs.Lists.{at_longer}
use Rattle.grid.proofs.Sums.{terms_le, total-same}
use Rattle.chunk_claims.specs.Claims.{sum_below}
use Rattle.page_jobs.specs.Rewrites.{Rule, Outcome, unsound, kept, refused, changed, outcome_block, outcome_calls, calls_for}
use Rattle.page_jobs.specs.RewriteEnds.{BackendCalls, calls_of_backends, all_done, WroteNothing, block_weight, times}

-- what stands in the second of two lists
pub at_right : {A : Type 0} (l m : List A) (k : ℕ) (a : A) → get_elem? m k ≡ some a → get_elem? (l ++ m) (length l + k) ≡ some a
at_right [] m k a e = let same : k ≡ 0 + k = omega arith in subst (λ (j : ℕ). get_elem? m j ≡ some a) same e
at_right (x ∷ l) m k a e = let same : suc (length l + k) ≡ suc (length l) + k = omega arith in subst (λ (j : ℕ). get_elem? (x ∷ (l ++ m)) j ≡ some a) same (at_right l m k a e)

-- a fact of each
abbrev pub Each : {A : Type 0} → (A → Type 0) → List A → Type 0
Each {A} P l = (k : ℕ) (c : A) → get_elem? l k ≡ some c → P c

module _ {A : Type 0} (P : A → Type 0) where
  pub each_left : (l m : List A) → Each P (l ++ m) → Each P l
  each_left l m h k c e = h k c (at_longer l m k c e)

  pub each_right : (l m : List A) → Each P (l ++ m) → Each P m
  each_right l m h k c e = h (length l + k) c (at_right l m k c e)

module _ (r : Rule) where
  -- each call of an outcome is one of the calls
  module _ (P : Call → Type 0) where
    each_made : (os : List Outcome) → Each P (calls_for r os) → (k : ℕ) (o : Outcome) → get_elem? os k ≡ some o → Each P (outcome_calls r o)
    each_made [] h k o e = absurd (some-ne-none o (sym e))
    each_made (x ∷ os) h zero o e = subst (λ (y : Outcome). Each P (outcome_calls r y)) (some-injective x o e) (each_left P (outcome_calls r x) (calls_for r os) h)
    each_made (x ∷ os) h (suc k) o e = each_made os (each_right P (outcome_calls r x) (calls_for r os) h) k o e

    pub each_done : (ps : List BackendCalls) → Each P (calls_of_backends r ps) → (k : ℕ) (o : Outcome) → get_elem? (all_done ps) k ≡ some o → Each P (outcome_calls r o)
    each_done [] h k o e = absurd (some-ne-none o (sym e))
    each_done (p ∷ ps) h k o e = let rest = each_right P p.before (calls_for r p.done ++ (p.after ++ calls_of_backends r ps)) h in ⊎_elim
        (λ (t : get_elem? p.done k ≡ some o). each_made p.done (each_left P (calls_for r p.done) (p.after ++ calls_of_backends r ps) rest) k o t)
        (λ (t : (j : ℕ) × (get_elem? (all_done ps) j ≡ some o)). each_done ps (each_right P p.after (calls_of_backends r ps) (each_right P (calls_for r p.done) (p.after ++ calls_of_backends r ps) rest)) t.0 o t.1)
        (at_both p.done (all_done ps) k o e)

  -- a count of calls that counts no read is that of the outcomes
  module _ (g : Call → ℕ) (few : (c : Call) → g c ≤ write_weight c) where
    abbrev weight : Outcome → ℕ
    weight o = total g (outcome_calls r o)

    total_none : (l : List Call) → writes_in l ≡ 0 → total g l ≡ 0
    unfolding total
    total_none [] e = refl
    total_none (c ∷ l) e = let x = few c in let y : writes_in l ≡ 0 = omega arith in let z = total_none l y in omega arith

    total_made : (os : List Outcome) → total g (calls_for r os) ≡ total weight os
    unfolding total
    total_made [] = refl
    total_made (o ∷ os) = omega (arith, total-both g (outcome_calls r o) (calls_for r os), total_made os)

    pub total_calls : (ps : List BackendCalls) → WroteNothing ps → total g (calls_of_backends r ps) ≡ total weight (all_done ps)
    unfolding total
    total_calls [] h = refl
    total_calls (p ∷ ps) h = let x = h zero p refl in let rest = p.after ++ calls_of_backends r ps in
        omega (arith, total-both g p.before (calls_for r p.done ++ rest), total-both g (calls_for r p.done) rest, total-both g p.after (calls_of_backends r ps), total-both weight p.done (all_done ps), total_made p.done, total_none p.before x.0, total_none p.after x.1, total_calls ps (λ k q t. h (suc k) q t))

-- how many writes at the place, and how many in all, an outcome makes
abbrev pub outcome_at : ℕ → Outcome → ℕ
outcome_at p (changed b i q n m) = cond (nat_eq m p) 1 0
outcome_at p _ = 0

abbrev pub outcome_weight : Outcome → ℕ
outcome_weight (changed b i q n m) = 1
outcome_weight _ = 0

-- a test of two numbers
pub test_same : (a b x y : ℕ) → a ≡ b → cond (nat_eq a b) x y ≡ x
test_same a b x y e = ap (λ t. cond t x y) (eq-eqb a b e)

pub test_else : (a b x y : ℕ) → a ≢ b → cond (nat_eq a b) x y ≡ y
test_else a b x y n = ap (λ t. cond t x y) (ne_eqb a b n)

test_le : (t : Bool) → cond t 1 0 ≤ 1
test_le true = omega arith
test_le false = omega arith

pub test_is : (a b : ℕ) → 0 < cond (nat_eq a b) 1 0 → a ≡ b
test_is a b h = dite (ℕ_discrete a b) (λ e. e) (λ n. let x = test_else a b 1 0 n in absurd (omega arith))

few_at : (p : ℕ) (c : Call) → weight_at p c ≤ write_weight c
few_at p (Read i t q n) = omega arith
few_at p (Write i t q n whole) = test_le (nat_eq n p)
few_at p (Size i fork blocks n) = test_le (nat_eq n p)
few_at p (Sized i fork blocks n) = omega arith

same_at : (r : Rule) (p : ℕ) (o : Outcome) → total (weight_at p) (outcome_calls r o) ≡ outcome_at p o
unfolding total
same_at r p (unsound b) = refl
same_at r p (kept b i q n) = refl
same_at r p (refused b i q n) = refl
same_at r p (changed b i q n m) = omega arith

same_weight : (r : Rule) (o : Outcome) → total write_weight (outcome_calls r o) ≡ outcome_weight o
unfolding total
same_weight r (unsound b) = refl
same_weight r (kept b i q n) = refl
same_weight r (refused b i q n) = refl
same_weight r (changed b i q n m) = refl

module _ (r : Rule) (ps : List BackendCalls) (h : WroteNothing ps) where
  pub writes_at_are : (p : ℕ) → writes_at p (calls_of_backends r ps) ≡ total (outcome_at p) (all_done ps)
  writes_at_are p = total_calls r (weight_at p) (few_at p) ps h ∙ total-same (λ (o : Outcome). total (weight_at p) (outcome_calls r o)) (outcome_at p) (all_done ps) (λ j o t. same_at r p o)

  pub writes_are : writes_in (calls_of_backends r ps) ≡ total outcome_weight (all_done ps)
  writes_are = total_calls r write_weight (λ c. omega arith) ps h ∙ total-same (λ (o : Outcome). total write_weight (outcome_calls r o)) outcome_weight (all_done ps) (λ j o t. same_weight r o)

-- two outcomes of one block are one
pub same_place : (os : List Outcome) (j k : ℕ) (o q : Outcome) → get_elem? os j ≡ some o → get_elem? os k ≡ some q → outcome_block o ≡ outcome_block q → times (outcome_block o) os ≤ 1 → j ≡ k
same_place os j k o q eo eq same few = dite (ℕ_discrete k j) (λ e. sym e) (λ n. let x = terms_le (block_weight (outcome_block o)) os j k o q n eo eq in let a = test_same (outcome_block o) (outcome_block o) 1 0 refl in let b = test_same (outcome_block q) (outcome_block o) 1 0 (sym same) in absurd (omega arith))

-- sums over the numbers below n
sum_same : (n : ℕ) (g h : ℕ → ℕ) → ((b : ℕ) → b < n → g b ≡ h b) → sum_below n g ≡ sum_below n h
unfolding sum_below
sum_same zero g h e = refl
sum_same (suc n) g h e = omega (arith, sum_same n g h (λ b t. e b (omega arith)), e n (omega arith))

sum_add : (n : ℕ) (g h : ℕ → ℕ) → sum_below n (λ b. g b + h b) ≡ sum_below n g + sum_below n h
unfolding sum_below
sum_add zero g h = refl
sum_add (suc n) g h = omega (arith, sum_add n g h)

-- g at the block of an outcome, and 0 elsewhere
abbrev weigh_block : (ℕ → ℕ) → ℕ → Outcome → ℕ
weigh_block g b o = cond (nat_eq (outcome_block o) b) (g b) 0

sum_none : (n a : ℕ) (g : ℕ → ℕ) → n ≤ a → sum_below n (λ b. cond (nat_eq a b) (g b) 0) ≡ 0
unfolding sum_below
sum_none zero a g h = refl
sum_none (suc n) a g h = omega (arith, sum_none n a g (omega arith), test_else a n (g n) 0 (λ e. omega arith))

sum_one : (n a : ℕ) (g : ℕ → ℕ) → a < n → sum_below n (λ b. cond (nat_eq a b) (g b) 0) ≡ g a
unfolding sum_below
sum_one zero a g h = absurd (omega arith)
sum_one (suc n) a g h = dite (ℕ_discrete a n)
    (λ e. let x = sum_none n a g (omega arith) in let y = test_same a n (g n) 0 e in omega (arith, ap g e))
    (λ o. let x = sum_one n a g (omega arith) in let y = test_else a n (g n) 0 o in omega arith)

sum_zero : (n : ℕ) → sum_below n (λ b. 0) ≡ 0
unfolding sum_below
sum_zero zero = refl
sum_zero (suc n) = omega (arith, sum_zero n)

-- the sums over outcomes, block by block
swapped : (n : ℕ) (g : ℕ → ℕ) (os : List Outcome) → ((k : ℕ) (o : Outcome) → get_elem? os k ≡ some o → outcome_block o < n) → total (λ (o : Outcome). g (outcome_block o)) os ≡ sum_below n (λ b. total (weigh_block g b) os)
unfolding total
swapped n g [] h = sym (sum_zero n)
swapped n g (o ∷ os) h = let x = sum_one n (outcome_block o) g (h zero o refl) in let y = swapped n g os (λ k q t. h (suc k) q t) in let z = sum_add n (λ b. weigh_block g b o) (λ b. total (weigh_block g b) os) in omega arith

weighed_none : (g : ℕ → ℕ) (b : ℕ) (os : List Outcome) → times b os ≡ 0 → total (weigh_block g b) os ≡ 0
unfolding total
weighed_none g b [] h = refl
weighed_none g b (o ∷ os) h = dite (ℕ_discrete (outcome_block o) b)
    (λ e. let x = test_same (outcome_block o) b 1 0 e in absurd (omega arith))
    (λ n. let x = test_else (outcome_block o) b 1 0 n in let y = test_else (outcome_block o) b (g b) 0 n in let z = weighed_none g b os (omega arith) in omega arith)

weighed_one : (g : ℕ → ℕ) (b : ℕ) (os : List Outcome) → times b os ≡ 1 → total (weigh_block g b) os ≡ g b
unfolding total
weighed_one g b [] h = absurd (omega arith)
weighed_one g b (o ∷ os) h = dite (ℕ_discrete (outcome_block o) b)
    (λ e. let x = test_same (outcome_block o) b 1 0 e in let y = test_same (outcome_block o) b (g b) 0 e in let z = weighed_none g b os (omega arith) in omega arith)
    (λ n. let x = test_else (outcome_block o) b 1 0 n in let y = test_else (outcome_block o) b (g b) 0 n in let z = weighed_one g b os (omega arith) in omega arith)

-- where each block below n is done once
pub total_blocks : (n : ℕ) (g : ℕ → ℕ) (os : List Outcome) → ((k : ℕ) (o : Outcome) → get_elem? os k ≡ some o → outcome_block o < n) → ((b : ℕ) → b < n → times b os ≡ 1) → total (λ (o : Outcome). g (outcome_block o)) os ≡ sum_below n g
total_blocks n g os below all = swapped n g os below ∙ sum_same n (λ b. total (weigh_block g b) os) g (λ b t. weighed_one g b os (all b t))
