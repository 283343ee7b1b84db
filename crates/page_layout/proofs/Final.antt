-- The bytes of the rewritten page, from what each step writes.
use Rattle.std.proofs.Common.{◌≡◌, ◌<◌, ◌≤◌, ◌+◌, ◌-◌, ◌*◌, ◌/◌, ◌%◌, ℕ, zero, suc, Bool, true, false, not, cond, leb, ltb, ◌&&◌, List, ◌++◌, length, get_or, take, drop, refl, sym, ap, ap₂, ◌∙◌, arith, inl, inr}
use Rattle.std.specs.Int.{byte_at}
use Rattle.std.specs.List.{list_any, range_with_len}
use Rattle.std.proofs.lemmas.Bool.{cases_Bool}
use Rattle.std.proofs.lemmas.Bool.Decides.{nat_tests}
use Rattle.std.proofs.lemmas.List.{get_or-append_right, get_or-drop, get_or-take, get_or_append_left, get_or_past, length-append, length-drop, length-take-le}
use Rattle.std.proofs.lemmas.List.FromFn.{fill_by_all}
use Rattle.byteorder.specs.Endian.{little_bytes}
use Rattle.page_layout.specs.Compact.{IsCompactable}
use Rattle.page_layout.specs.Fields.{header_of, item_count}
use Rattle.page_layout.specs.declared.page.Header.{Header}
use mir.Val.{bool_byte}
use Rattle.page_layout.specs.Rewritten.{item_byte, left_of_first, new_byte, new_flags, new_lower, new_pointer, new_upper, lower_of, pointers_left, rewritten_page, special_of, stays}
use Rattle.page_layout.proofs.Pointers.{unless, when}

-- the page with other flags and ends
abbrev pub with_ends : ℕ → ℕ → ℕ → List ℕ → List ℕ
with_ends flags lower upper m = take 10 m ++ (little_bytes 2 flags ++ (little_bytes 2 lower ++ (little_bytes 2 upper ++ drop 16 m)))

byte_of_two : (j x : ℕ) (rest : List ℕ) → j < 2 → get_or (little_bytes 2 x ++ rest) j 0 ≡ byte_at j x
byte_of_two zero x rest below = refl
byte_of_two (suc zero) x rest below = refl
byte_of_two (suc (suc j)) x rest below = absurd (omega arith)

past_two : (j x : ℕ) (rest : List ℕ) → 2 ≤ j → get_or (little_bytes 2 x ++ rest) j 0 ≡ get_or rest (j - 2) 0
past_two j x rest from = get_or-append_right (little_bytes 2 x) rest 2 j 0 refl from

pub ends_length : (f l u : ℕ) (m : List ℕ) → length m ≡ 8192 → length (with_ends f l u m) ≡ 8192
ends_length f l u m size =
    let front = length-take-le 10 m (omega arith) in
    let back = length-drop 16 m in
    let all = length-append (take 10 m) (little_bytes 2 f ++ (little_bytes 2 l ++ (little_bytes 2 u ++ drop 16 m))) in
    omega arith

pub ends_at : (f l u k : ℕ) (m : List ℕ) → length m ≡ 8192 → get_or (with_ends f l u m) k 0 ≡ cond (ltb k 10) (get_or m k 0) (cond (ltb k 12) (byte_at (k - 10) f) (cond (ltb k 14) (byte_at (k - 12) l) (cond (ltb k 16) (byte_at (k - 14) u) (get_or m k 0))))
ends_at f l u k m size =
    let front = length-take-le 10 m (omega arith) in
    let r3 = drop 16 m in
    let r2 = little_bytes 2 u ++ r3 in
    let r1 = little_bytes 2 l ++ r2 in
    let r0 = little_bytes 2 f ++ r1 in
    let x = get_or m k 0 in
    elim (cases_Bool (ltb k 10)) [
      | inl a ↦
          let lt : k < 10 = grind (arith, nat_tests) in
          get_or_append_left (take 10 m) r0 0 k (omega arith) ∙ get_or-take 10 m k 0 lt ∙ sym (when (ltb k 10) x _ a)
      | inr a ↦
          let ge : 10 ≤ k = grind (arith, nat_tests) in
          let s0 = get_or-append_right (take 10 m) r0 10 k 0 front ge in
          elim (cases_Bool (ltb k 12)) [
            | inl b ↦
                let lt : k < 12 = grind (arith, nat_tests) in
                s0 ∙ byte_of_two (k - 10) f r1 (omega arith) ∙ sym (unless (ltb k 10) x _ a ∙ when (ltb k 12) (byte_at (k - 10) f) _ b)
            | inr b ↦
                let ge1 : 12 ≤ k = grind (arith, nat_tests) in
                let n1 : k - 10 - 2 ≡ k - 12 = omega arith in
                let s1 = s0 ∙ past_two (k - 10) f r1 (omega arith) ∙ ap (λ (i : ℕ). get_or r1 i 0) n1 in
                elim (cases_Bool (ltb k 14)) [
                  | inl c ↦
                      let lt : k < 14 = grind (arith, nat_tests) in
                      s1 ∙ byte_of_two (k - 12) l r2 (omega arith) ∙ sym (unless (ltb k 10) x _ a ∙ unless (ltb k 12) (byte_at (k - 10) f) _ b ∙ when (ltb k 14) (byte_at (k - 12) l) _ c)
                  | inr c ↦
                      let ge2 : 14 ≤ k = grind (arith, nat_tests) in
                      let n2 : k - 12 - 2 ≡ k - 14 = omega arith in
                      let s2 = s1 ∙ past_two (k - 12) l r2 (omega arith) ∙ ap (λ (i : ℕ). get_or r2 i 0) n2 in
                      elim (cases_Bool (ltb k 16)) [
                        | inl d ↦
                            let lt : k < 16 = grind (arith, nat_tests) in
                            s2 ∙ byte_of_two (k - 14) u r3 (omega arith) ∙ sym (unless (ltb k 10) x _ a ∙ unless (ltb k 12) (byte_at (k - 10) f) _ b ∙ unless (ltb k 14) (byte_at (k - 12) l) _ c ∙ when (ltb k 16) (byte_at (k - 14) u) _ d)
                        | inr d ↦
                            let ge3 : 16 ≤ k = grind (arith, nat_tests) in
                            let n3 : k - 14 - 2 ≡ k - 16 = omega arith in
                            let n4 : 16 + (k - 16) ≡ k = omega arith in
                            s2 ∙ past_two (k - 14) u r3 (omega arith) ∙ ap (λ (i : ℕ). get_or r3 i 0) n3 ∙ get_or-drop 16 m (k - 16) 0 ∙ ap (λ (i : ℕ). get_or m i 0) n4
                            ∙ sym (unless (ltb k 10) x _ a ∙ unless (ltb k 12) (byte_at (k - 10) f) _ b ∙ unless (ltb k 14) (byte_at (k - 12) l) _ c ∙ unless (ltb k 16) (byte_at (k - 14) u) _ d)
                      ]
                ]
          ]
    ]

byte_cases : (k lower upper special g l u p m o i x : ℕ) → 24 ≤ lower → lower ≤ upper → upper ≤ special → special ≡ 8192 → k < 8192 → m ≡ cond (ltb k upper) (cond (leb 24 k && ltb k lower) p (cond (leb lower k && ltb k 8192) 0 o)) i → x ≡ cond (ltb k 10) m (cond (ltb k 12) g (cond (ltb k 14) l (cond (ltb k 16) u m))) → x ≡ cond (ltb k 10) o (cond (ltb k 12) g (cond (ltb k 14) l (cond (ltb k 16) u (cond (ltb k 24) o (cond (ltb k lower) p (cond (ltb k upper) 0 (cond (ltb k special) i o)))))))
byte_cases k lower upper special g l u p m o i x from order within end below m_is x_is = grind (arith, nat_tests)

-- the order of the new page's ends
left_within : (page : List ℕ) (n : ℕ) → left_of_first page n ≤ n
unfolding left_of_first
left_within page zero = omega arith
left_within page (suc n) =
    let before = left_within page n in
    elim (cases_Bool (stays page n)) [
      | inl is ↦ let e = when (stays page n) (suc n) (left_of_first page n) is in omega arith
      | inr not_it ↦ let e = unless (stays page n) (suc n) (left_of_first page n) not_it in omega arith
    ]

pub new_ends : (page : List ℕ) → IsCompactable page → (24 ≤ new_lower page) × (new_lower page ≤ new_upper page) × (new_upper page ≤ 8192) × (pointers_left page ≤ item_count page)
unfolding new_lower new_upper pointers_left item_count
new_ends page fits =
    let left = left_within page ((lower_of page - 24) / 4) in
    let room = fits.room in
    let lower = fits.lower in
    let special = fits.special in
    (omega arith, omega arith, omega arith, left)

pub lower_is : (page : List ℕ) (left : ℕ) → left ≡ pointers_left page → 24 + 4 * left ≡ new_lower page
unfolding new_lower
lower_is page left is = ap (λ (n : ℕ). 24 + 4 * n) is

-- the page that the steps make is the rewritten one
pub steps_make : (page m : List ℕ) (flags left upper : ℕ) (fits : IsCompactable page) → flags ≡ new_flags page → left ≡ pointers_left page → upper ≡ new_upper page → length m ≡ 8192 → ((k : ℕ) → get_or m k 0 ≡ cond (ltb k (new_upper page)) (cond (leb 24 k && ltb k (24 + 4 * left)) (byte_at ((k - 24) % 4) (new_pointer page ((k - 24) / 4))) (cond (leb (24 + 4 * left) k && ltb k 8192) 0 (get_or page k 0))) (item_byte page k (item_count page))) → with_ends flags (24 + 4 * left) upper m ≡ rewritten_page page
unfolding rewritten_page new_byte
steps_make page m flags left upper fits flags_are left_is upper_is size m_is =
    let ends = new_ends page fits in
    let lower = lower_is page left left_is in
    let special = fits.special in
    let long = fits.size in
    fill_by_all (new_byte page) (with_ends flags (24 + 4 * left) upper m) (length page) 0 (ends_length flags (24 + 4 * left) upper m size ∙ sym long) (λ k below.
    byte_cases k (new_lower page) (new_upper page) (special_of page) (byte_at (k - 10) (new_flags page)) (byte_at (k - 12) (new_lower page)) (byte_at (k - 14) (new_upper page)) (byte_at ((k - 24) % 4) (new_pointer page ((k - 24) / 4))) (get_or m k 0) (get_or page k 0) (item_byte page k (item_count page)) _ ends.0 ends.1 (omega arith) special (omega arith)
    (m_is k ∙ ap (λ (z : ℕ). cond (ltb k (new_upper page)) (cond (leb 24 k && ltb k z) (byte_at ((k - 24) % 4) (new_pointer page ((k - 24) / 4))) (cond (leb z k && ltb k 8192) 0 (get_or page k 0))) (item_byte page k (item_count page))) lower)
    (ends_at flags (24 + 4 * left) upper k m size
    ∙ ap₂ (λ (f z : ℕ). cond (ltb k 10) (get_or m k 0) (cond (ltb k 12) (byte_at (k - 10) f) (cond (ltb k 14) (byte_at (k - 12) z) (cond (ltb k 16) (byte_at (k - 14) upper) (get_or m k 0))))) flags_are lower
    ∙ ap (λ (z : ℕ). cond (ltb k 10) (get_or m k 0) (cond (ltb k 12) (byte_at (k - 10) (new_flags page)) (cond (ltb k 14) (byte_at (k - 12) (new_lower page)) (cond (ltb k 16) (byte_at (k - 14) z) (get_or m k 0))))) upper_is))

-- the flags
bit_of : (b : Bool) → bool_byte b ≡ cond b 1 0
bit_of true = refl
bit_of false = refl

pub flags_is : (page : List ℕ) (h : Header) (n left : ℕ) (b : Bool) → h ≡ header_of page → n ≡ bool_byte b → b ≡ list_any (λ place. not (stays page place)) (range_with_len 0 left) → left ≡ pointers_left page → h.flags / 2 * 2 + n ≡ new_flags page
unfolding new_flags header_of
flags_is page h n left b header is unused left_is =
    ap₂ (λ (f m : ℕ). f / 2 * 2 + m) (ap (λ (x : Header). x.flags) header) (is ∙ bit_of b ∙ ap (λ (x : Bool). cond x 1 0) (unused ∙ ap (λ (m : ℕ). list_any (λ place. not (stays page place)) (range_with_len 0 m)) left_is))

-- after the line pointers all bytes are 0 until the items are moved
pub cleared_above : (page written cleared copied : List ℕ) (left : ℕ) (fits : IsCompactable page) → left ≡ pointers_left page → copied ≡ page → ((k : ℕ) → get_or cleared k 0 ≡ cond (leb (24 + 4 * left) k && ltb k 8192) 0 (get_or copied k 0)) → ((k : ℕ) → get_or written k 0 ≡ cond (leb 24 k && ltb k (24 + 4 * left)) (byte_at ((k - 24) % 4) (new_pointer page ((k - 24) / 4))) (get_or cleared k 0)) → (k : ℕ) → new_upper page ≤ k → get_or written k 0 ≡ 0
cleared_above page written cleared copied left fits left_is same clear write k above =
    let ends = new_ends page fits in
    let lower = lower_is page left left_is in
    let size : length copied ≡ 8192 = ap length same ∙ fits.size in
    let past : (leb 24 k && ltb k (24 + 4 * left)) ≡ false = grind (arith, nat_tests) in
    write k ∙ unless (leb 24 k && ltb k (24 + 4 * left)) (byte_at ((k - 24) % 4) (new_pointer page ((k - 24) / 4))) (get_or cleared k 0) past ∙ clear k
    ∙ elim (cases_Bool (leb (24 + 4 * left) k && ltb k 8192)) [
      | inl in_it ↦ when (leb (24 + 4 * left) k && ltb k 8192) 0 (get_or copied k 0) in_it
      | inr out ↦
          let end : length copied ≤ k = grind (arith, nat_tests) in
          unless (leb (24 + 4 * left) k && ltb k 8192) 0 (get_or copied k 0) out ∙ get_or_past copied k 0 end
    ]
