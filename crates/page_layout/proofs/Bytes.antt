-- Bytes of a page after a part of it was written.
use Rattle.std.proofs.Common.{◌≡◌, ◌<◌, ◌≤◌, ◌+◌, ◌-◌, ℕ, zero, suc, Bool, true, false, cond, leb, ltb, ◌&&◌, List, ◌++◌, length, get_or, take, drop, replicate, refl, sym, ap, ap₂, ◌∙◌, arith, inl, inr}
use Rattle.std.specs.Int.{byte_at}
use Rattle.std.proofs.lemmas.Bool.{cases_Bool}
use Rattle.std.proofs.lemmas.Bool.Decides.{nat_tests}
use Rattle.std.proofs.lemmas.List.{get_or-append_right, get_or-drop, get_or-take, get_or_append_left, length-replicate, length-take-le, get_or-replicate}
use Rattle.byteorder.specs.Endian.{little_bytes}
use borrow.Rule.Slice.PartMut.{put_mid}

-- a byte after n bytes were written from a on
pub put_at : (a n k : ℕ) (xs ys : List ℕ) → a + n ≤ length xs → length ys ≡ n → get_or (put_mid a n xs ys) k 0 ≡ cond (leb a k && ltb k (a + n)) (get_or ys (k - a) 0) (get_or xs k 0)
put_at a n k xs ys within size =
    let front : length (take a xs) ≡ a = length-take-le a xs (omega arith) in
    let rest = ys ++ drop n (drop a xs) in
    elim (cases_Bool (leb a k)) [
      | inl from ↦
          let le : a ≤ k = grind (arith, nat_tests) in
          elim (cases_Bool (ltb k (a + n))) [
            | inl inside ↦
                let lt : k < a + n = grind (arith, nat_tests) in
                let both : (leb a k && ltb k (a + n)) ≡ true = grind (arith, nat_tests) in
                get_or-append_right (take a xs) rest a k 0 front le
                ∙ get_or_append_left ys (drop n (drop a xs)) 0 (k - a) (omega arith)
                ∙ sym (ap (λ (b : Bool). cond b (get_or ys (k - a) 0) (get_or xs k 0)) both)
            | inr past ↦
                let ge : a + n ≤ k = grind (arith, nat_tests) in
                let not_both : (leb a k && ltb k (a + n)) ≡ false = grind (arith, nat_tests) in
                let at : a + (n + (k - a - n)) ≡ k = omega arith in
                get_or-append_right (take a xs) rest a k 0 front le
                ∙ get_or-append_right ys (drop n (drop a xs)) n (k - a) 0 size (omega arith)
                ∙ get_or-drop n (drop a xs) (k - a - n) 0
                ∙ get_or-drop a xs (n + (k - a - n)) 0
                ∙ ap (λ (i : ℕ). get_or xs i 0) at
                ∙ sym (ap (λ (b : Bool). cond b (get_or ys (k - a) 0) (get_or xs k 0)) not_both)
          ]
      | inr before ↦
          let lt : k < a = grind (arith, nat_tests) in
          let not_both : (leb a k && ltb k (a + n)) ≡ false = grind (arith, nat_tests) in
          get_or_append_left (take a xs) rest 0 k (omega arith)
          ∙ get_or-take a xs k 0 lt
          ∙ sym (ap (λ (b : Bool). cond b (get_or ys (k - a) 0) (get_or xs k 0)) not_both)
    ]

-- a byte of a number
pub byte_of_four : (j x : ℕ) (rest : List ℕ) → j < 4 → get_or (little_bytes 4 x ++ rest) j 0 ≡ byte_at j x
byte_of_four zero x rest below = refl
byte_of_four (suc zero) x rest below = refl
byte_of_four (suc (suc zero)) x rest below = refl
byte_of_four (suc (suc (suc zero))) x rest below = refl
byte_of_four (suc (suc (suc (suc j)))) x rest below = absurd (omega arith)

-- a byte after a number of four bytes was written
pub put_four : (a n k x : ℕ) (xs ys rest : List ℕ) → n ≡ 4 → a + 4 ≤ length xs → length ys ≡ n → ys ≡ little_bytes 4 x ++ rest → get_or (put_mid a n xs ys) k 0 ≡ cond (leb a k && ltb k (a + 4)) (byte_at (k - a) x) (get_or xs k 0)
put_four a n k x xs ys rest four within size is =
    let put = put_at a n k xs ys (omega arith) size in
    let same : cond (leb a k && ltb k (a + n)) (get_or ys (k - a) 0) (get_or xs k 0) ≡ cond (leb a k && ltb k (a + 4)) (get_or ys (k - a) 0) (get_or xs k 0) =
    ap (λ (m : ℕ). cond (leb a k && ltb k (a + m)) (get_or ys (k - a) 0) (get_or xs k 0)) four in
    elim (cases_Bool (leb a k && ltb k (a + 4))) [
      | inl both ↦
          let lt : k - a < 4 = grind (arith, nat_tests) in
          put ∙ same ∙ ap (λ (b : Bool). cond b (get_or ys (k - a) 0) (get_or xs k 0)) both ∙ ap (λ (l : List ℕ). get_or l (k - a) 0) is ∙ byte_of_four (k - a) x rest lt ∙ sym (ap (λ (b : Bool). cond b (byte_at (k - a) x) (get_or xs k 0)) both)
      | inr out ↦
          put ∙ same ∙ ap (λ (b : Bool). cond b (get_or ys (k - a) 0) (get_or xs k 0)) out ∙ sym (ap (λ (b : Bool). cond b (byte_at (k - a) x) (get_or xs k 0)) out)
    ]

-- a byte after a part was cleared
pub put_zeros : (a n e k m : ℕ) (xs ys : List ℕ) → a + n ≡ e → e ≤ length xs → ys ≡ replicate m 0 → m ≡ n → get_or (put_mid a n xs ys) k 0 ≡ cond (leb a k && ltb k e) 0 (get_or xs k 0)
put_zeros a n e k m xs ys ends within is size =
    let long : length ys ≡ n = ap length is ∙ length-replicate m 0 ∙ size in
    let put = put_at a n k xs ys (omega arith) long in
    let same : cond (leb a k && ltb k (a + n)) (get_or ys (k - a) 0) (get_or xs k 0) ≡ cond (leb a k && ltb k e) (get_or ys (k - a) 0) (get_or xs k 0) =
    ap (λ (z : ℕ). cond (leb a k && ltb k z) (get_or ys (k - a) 0) (get_or xs k 0)) ends in
    elim (cases_Bool (leb a k && ltb k e)) [
      | inl both ↦
          let lt : k - a < m = grind (arith, nat_tests) in
          put ∙ same ∙ ap (λ (b : Bool). cond b (get_or ys (k - a) 0) (get_or xs k 0)) both ∙ ap (λ (l : List ℕ). get_or l (k - a) 0) is ∙ get_or-replicate m (k - a) 0 0 lt ∙ sym (ap (λ (b : Bool). cond b 0 (get_or xs k 0)) both)
      | inr out ↦
          put ∙ same ∙ ap (λ (b : Bool). cond b (get_or ys (k - a) 0) (get_or xs k 0)) out ∙ sym (ap (λ (b : Bool). cond b 0 (get_or xs k 0)) out)
    ]

-- the same of a page that is known by another name
pub four_written : (a b e n k x : ℕ) (xs zs ys rest : List ℕ) → n ≡ 4 → a ≡ b → e ≡ b + 4 → e ≤ length xs → xs ≡ zs → length ys ≡ n → ys ≡ little_bytes 4 x ++ rest → get_or (put_mid a n xs ys) k 0 ≡ cond (leb b k && ltb k e) (byte_at (k - b) x) (get_or zs k 0)
four_written a b e n k x xs zs ys rest four same ends within is size bytes =
    put_four a n k x xs ys rest four (omega arith) size bytes
    ∙ ap₂ (λ (p : ℕ) (l : List ℕ). cond (leb p k && ltb k (p + 4)) (byte_at (k - p) x) (get_or l k 0)) same is
    ∙ ap (λ (z : ℕ). cond (leb b k && ltb k z) (byte_at (k - b) x) (get_or zs k 0)) (sym ends)

pub zeros_written : (a b e n k m : ℕ) (xs zs ys : List ℕ) → a ≡ b → b + n ≡ e → e ≤ length xs → xs ≡ zs → ys ≡ replicate m 0 → m ≡ n → get_or (put_mid a n xs ys) k 0 ≡ cond (leb b k && ltb k e) 0 (get_or zs k 0)
zeros_written a b e n k m xs zs ys same ends within is bytes size =
    put_zeros a n e k m xs ys (omega arith) within bytes size
    ∙ ap₂ (λ (p : ℕ) (l : List ℕ). cond (leb p k && ltb k e) 0 (get_or l k 0)) same is
