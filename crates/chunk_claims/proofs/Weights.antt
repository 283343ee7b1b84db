-- Sums over the numbers below one, and what numbers weigh.
use Rattle.std.proofs.Common.{◌≡◌, ℕ, zero, suc, ◌+◌, ◌<◌, ◌≤◌, List, [], refl, ap, add-one, arith}
use Rattle.std.proofs.lemmas.Bool.Decides.{nat_tests}
use Rattle.grid.specs.Shape.{total}
use Rattle.chunk_claims.specs.Claims.{past_weight, sum_below}

pub sum_below_more : (n : ℕ) (g : ℕ → ℕ) → sum_below (n + 1) g ≡ sum_below n g + g n
unfolding sum_below
sum_below_more n g = ap (λ (k : ℕ). sum_below k g) (add-one n)

-- the first number apart
pub sum_first : (n : ℕ) (g : ℕ → ℕ) → sum_below (suc n) g ≡ g 0 + sum_below n (λ i. g (suc i))
unfolding sum_below
sum_first zero g = omega arith
sum_first (suc n) g = let e = sum_first n g in omega arith

pub sum_ones : (n : ℕ) → sum_below n (λ b. 1) ≡ n
unfolding sum_below
sum_ones zero = refl
sum_ones (suc n) = omega (arith, sum_ones n)

pub total_nothing : (g : ℕ → ℕ) (l : List ℕ) → l ≡ [] → total g l ≡ 0
unfolding total
total_nothing g l e = ap (total g) e

pub weighs_none : (n x : ℕ) → x < n → past_weight n x ≡ 0
weighs_none n x below = grind (arith, nat_tests)

pub weighs_one : (n x : ℕ) → n ≤ x → past_weight n x ≡ 1
weighs_one n x past = grind (arith, nat_tests)
