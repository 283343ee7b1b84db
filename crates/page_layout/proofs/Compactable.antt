-- What a page that isn't skipped has.
use Rattle.std.proofs.Common.{◌≡◌, ◌<◌, ◌≤◌, ◌+◌, ◌-◌, ◌*◌, ℕ, zero, suc, List, [], ◌∷◌, Bool, true, false, not, ◌&&◌, ◌||◌, cond, eqb, leb, ltb, length, sum_by, add-one, refl, sym, ap, ap₂, ◌∙◌, arith, inl, inr}
use Rattle.std.specs.List.{list_any, range_with_len}
use Rattle.std.proofs.lemmas.Bool.{cases_Bool, false≢true}
use Rattle.std.proofs.lemmas.Bool.Decides.{nat_tests}
use Rattle.std.proofs.lemmas.List.Folds.{list_any-append}
use Rattle.std.proofs.Math.Bool.{or-false}
use Rattle.page_layout.proofs.Keys.{range_more}
use Rattle.page_layout.specs.Compact.{IsCompactable}
use Rattle.page_layout.specs.Fields.{header_of, item_count, number_at}
use Rattle.page_layout.specs.Rewritten.{is_normal, is_outside, is_skipped, left_of_first, length_at, lower_of, offset_at, places_of, room_at, room_of_items, special_of, state_at, upper_of}
use Rattle.page_layout.specs.Soundness.{is_new_page, is_sound_header, is_sound_page}
use Rattle.page_layout.specs.declared.page.Header.{Header}

-- a line pointer stands within the page
pub place_fits : (page : List ℕ) (place : ℕ) → IsCompactable page → place < item_count page → 28 + 4 * place ≤ 8192
unfolding item_count
place_fits page place h below = let order = h.order in let upper = h.upper in omega arith

pub count_fits : (page : List ℕ) → IsCompactable page → item_count page ≤ 2042
unfolding item_count
count_fits page h = let order = h.order in let upper = h.upper in omega arith

-- one line pointer more
pub left_more : (page : List ℕ) (n : ℕ) → left_of_first page (n + 1) ≡ cond (eqb (state_at page n) 1 || eqb (state_at page n) 2) (n + 1) (left_of_first page n)
unfolding left_of_first
left_more page n = rw add-one refl

pub any_more : (p : ℕ → Bool) (n : ℕ) → list_any p (range_with_len 0 (n + 1)) ≡ (list_any p (range_with_len 0 n) || p n)
any_more p n =
    ap (λ (m : ℕ). list_any p (range_with_len 0 m)) (add-one n) ∙ ap (list_any p) (range_more n) ∙ list_any-append p (range_with_len 0 n) (n ∷ []) ∙ ap (λ (b : Bool). list_any p (range_with_len 0 n) || b) (or-false (p n))

-- an element at one place
pub any_range : (p : ℕ → Bool) (n k : ℕ) → k < n → p k ≡ true → list_any p (range_with_len 0 n) ≡ true
any_range p zero k below here = absurd (omega arith)
any_range p (suc n) k below here =
    let more = any_more p n in
    elim (cases_Bool (eqb n k)) [
      | inl same ↦
          let is : n ≡ k = grind (arith, nat_tests) in
          let at : p n ≡ true = ap p is ∙ here in
          grind arith
      | inr other ↦
          let lt : k < n = grind (arith, nat_tests) in
          let before = any_range p n k lt here in
          grind arith
    ]

-- the answer of the walk over all items
pub fit_is : (page : List ℕ) (n room space bound : ℕ) → n ≡ item_count page → list_any (is_outside page) (range_with_len 0 n) ≡ false → room ≡ sum_by (room_at page) (range_with_len 0 n) → bound ≡ space → leb room bound ≡ (not (list_any (is_outside page) (places_of page)) && not (ltb space (room_of_items page)))
unfolding room_of_items
fit_is page n room space bound all none is same =
    let inside : list_any (is_outside page) (places_of page) ≡ false = ap (λ (m : ℕ). list_any (is_outside page) (range_with_len 0 m)) (sym all) ∙ none in
    let total : sum_by (room_at page) (places_of page) ≡ room = ap (λ (m : ℕ). sum_by (room_at page) (range_with_len 0 m)) (sym all) ∙ sym is in
    let test : leb room space ≡ not (ltb space room) = grind (arith, nat_tests) in
    ap (leb room) same ∙ test ∙ sym (ap₂ (λ (x : Bool) (y : ℕ). not x && not (ltb space y)) inside total)

or_parts : (a b : Bool) → (a || b) ≡ false → (a ≡ false) × (b ≡ false)
or_parts false b h = (refl, h)
or_parts true b h = cc

used_header : (h : Header) → is_sound_header h ≡ true → (h.lower ≤ h.upper) × (h.upper ≤ h.special) × (h.special ≤ 8192)
used_header h sound = (grind (arith, nat_tests), grind (arith, nat_tests), grind (arith, nat_tests))

inside_from : (page : List ℕ) (place : ℕ) → special_of page ≡ 8192 → is_normal page place ≡ true → is_outside page place ≡ false → (upper_of page ≤ offset_at page place) × (offset_at page place + length_at page place ≤ 8192)
inside_from page place special normal inside = (grind (arith, nat_tests), grind (arith, nat_tests))

-- the order of a sound page's numbers
pub used_order : (page : List ℕ) → is_sound_page page ≡ true → is_new_page page ≡ false → (lower_of page ≤ upper_of page) × (upper_of page ≤ special_of page) × (special_of page ≤ 8192)
unfolding is_sound_page header_of
used_order page sound used = used_header (header_of page) (grind (arith, nat_tests))

-- what a page has that isn't skipped
pub compactable_from : (page : List ℕ) → length page ≡ 8192 → is_sound_page page ≡ true → is_new_page page ≡ false → is_skipped page ≡ false → IsCompactable page
unfolding is_skipped
compactable_from page size sound used kept =
    let order = used_order page sound used in
    let fifth = ltb (special_of page - lower_of page) (room_of_items page) in
    let fourth = list_any (is_outside page) (places_of page) in
    let third = ltb (lower_of page) 24 in
    let second = not (eqb (special_of page) 8192) in
    let one = or_parts (not (eqb (number_at 8 2 page) 0)) (second || (third || (fourth || fifth))) kept in
    let two = or_parts second (third || (fourth || fifth)) one.1 in
    let three = or_parts third (fourth || fifth) two.1 in
    let four = or_parts fourth fifth three.1 in
    let special : special_of page ≡ 8192 = let t = two.0 in grind (arith, nat_tests) in
    let lower : 24 ≤ lower_of page = let t = three.0 in grind (arith, nat_tests) in
    let room : room_of_items page ≤ special_of page - lower_of page = let t = four.1 in grind (arith, nat_tests) in
    record {
      size = size;
      special = special;
      lower = lower;
      order = order.0;
      upper = omega arith;
      inside = λ place below normal.
          elim (cases_Bool (is_outside page place)) [
            | inl out ↦ absurd (let some = any_range (is_outside page) (item_count page) place below out in false≢true (sym four.0 ∙ some))
            | inr inside ↦ inside_from page place special normal inside
          ];
      room = omega arith;
    }
