-- The larger of two positions.
use Rattle.std.proofs.Common.{◌≡◌, ◌==◌, ◌≤◌, ℕ, Bool, Less, Equal, Greater, true, false, cond, nat_lt, refl, sym, subst, arith}
use Rattle.std.specs.Ordering.{is_lt, nat_cmp, ord_max}

is_less : (x y : Bool) → is_lt (cond x Less (cond y Equal Greater)) ≡ x
is_less true y = refl
is_less false true = refl
is_less false false = refl

bounds : (a b : ℕ) (t : Bool) → nat_lt b a ≡ t → (a ≤ cond t a b) × (b ≤ cond t a b)
bounds a b true e = (omega arith, grind arith)
bounds a b false e = (grind arith, omega arith)

pub above_both : (a b : ℕ) → (a ≤ ord_max nat_cmp a b) × (b ≤ ord_max nat_cmp a b)
above_both a b = subst (λ (t : Bool). (a ≤ cond t a b) × (b ≤ cond t a b)) (sym (is_less (nat_lt b a) (b == a))) (bounds a b (nat_lt b a) refl)
