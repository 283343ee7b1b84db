-- How long a page of the relation is.
use Rattle.std.proofs.Common.{◌≡◌, ℕ, zero, suc, ◌+◌, ◌*◌, ◌≤◌, length, refl, arith}
use Rattle.std.proofs.Math.Nat.{add-mul, mul-add, mul-le-mul}
use Rattle.std.proofs.lemmas.List.{length-append, length-replicate}
use Rattle.sample_relation.specs.Samples.{header_bytes, pointers, items, used_page, unsound_page, page_of_kind}

pub length_pointers : (block n : ℕ) → length (pointers block n) ≡ 4 * n
unfolding pointers
length_pointers block zero = refl
length_pointers block (suc n) = simp length-append (omega (arith, length_pointers block n))

square : (n : ℕ) → 8 * suc n + 4 * n * (n + 1) ≡ 4 * suc n * (suc n + 1)
square n = omega (arith, mul-add, add-mul)

pub length_items : (block n : ℕ) → length (items block n) ≡ 4 * n * (n + 1)
unfolding items
length_items block zero = refl
length_items block (suc n) = rw length-append (rw length-replicate (rw (length_items block n) (square n)))

pub length_header : (lsn flags lower upper : ℕ) → length (header_bytes lsn flags lower upper) ≡ 24
unfolding header_bytes
length_header lsn flags lower upper = refl

pub length_unsound : (block : ℕ) → length (unsound_page block) ≡ 8192
unfolding unsound_page
length_unsound block = simp (length-append, length_header, length-replicate)

-- the room of at most 7 items
few_fit : (n : ℕ) → n ≤ 7 → 4 * n * (n + 1) + (24 + 4 * n) ≤ 8192
few_fit n few =
    let a : 4 * n ≤ 28 = omega arith in
    let b : n + 1 ≤ 8 = omega arith in
    omega (arith, mul-le-mul a b)

pub length_used : (block n : ℕ) → n ≤ 7 → length (used_page block n) ≡ 8192
unfolding used_page
length_used block n few =
    let k : 4 * n * (n + 1) + (24 + 4 * n) ≤ 8192 = few_fit n few in
    simp (length-append, length_header, length_pointers, length-replicate, length_items) (omega arith)

pub length_page : (kind block : ℕ) → kind ≤ 7 → length (page_of_kind kind block) ≡ 8192
unfolding page_of_kind
length_page zero block few = length-replicate {A = ℕ} 8192 0
length_page (suc zero) block few = length_unsound block
length_page (suc (suc n)) block few = length_used block (suc (suc n)) few
