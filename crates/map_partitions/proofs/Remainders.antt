-- A remainder by a mask.
use Rattle.std.proofs.Common.{◌≡◌, ℕ, ◌<◌, ◌*◌, ◌-◌, ◌^◌, ◌%◌, bit_and, sym, ap, ◌∙◌, arith}
use Rattle.std.proofs.Math.Pow.{pow-lt}
use Rattle.std.proofs.lemmas.Nat.{and_mask}

-- the mask of a power of two leaves the remainder
pub by_mask : (number count k : ℕ) → k < 64 → 1 * 2 ^ k % 18446744073709551616 ≡ count → bit_and number (1 * 2 ^ k % 18446744073709551616 - 1) ≡ number % count
by_mask number count k few is =
    let small : 2 ^ k < 2 ^ 64 = pow-lt few in
    let one : 1 * 2 ^ k % 18446744073709551616 ≡ 2 ^ k = omega (arith, small) in
    ap (λ (n : ℕ). bit_and number (n - 1)) one ∙ and_mask number k ∙ ap (λ (n : ℕ). number % n) (sym one ∙ is)
