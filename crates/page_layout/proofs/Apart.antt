-- The rooms of two items are apart, so each item's bytes arrive and the bytes after it are 0.
use Rattle.std.proofs.Common.{◌≡◌, ◌≢◌, ◌<◌, ◌≤◌, ◌+◌, ◌-◌, ◌*◌, ◌/◌, ℕ, zero, suc, Bool, true, false, cond, eqb, leb, ltb, ◌&&◌, List, [], ◌∷◌, ◌⊎◌, get_or, refl, sym, ap, ap₂, ◌∙◌, arith, inl, inr, sum_by}
use Rattle.std.proofs.lemmas.Bool.{cases_Bool}
use Rattle.std.proofs.lemmas.Bool.Decides.{nat_tests}
use Rattle.std.proofs.lemmas.List.FromFn.{get_or-range_with_len, length-range_with_len}
use Rattle.std.proofs.lemmas.List.Sums.{get_or-le-sum_by, sum_by-cons, sum_by-le-sum_by}
use Rattle.page_layout.specs.Compact.{IsCompactable}
use Rattle.page_layout.specs.Fields.{item_count}
use Rattle.page_layout.specs.Rewritten.{HasItemsOf, byte_in_room, is_at_or_above, is_in_room, is_normal, item_byte, length_at, new_byte, new_lower, new_offset, new_upper, offset_at, places_of, rewritten_page, room_at, room_of_items, special_of}
use Rattle.page_layout.proofs.After.{byte_of}
use Rattle.page_layout.proofs.Final.{new_ends}
use Rattle.page_layout.proofs.Pointers.{IsPutItem, above_itself, offset_bounds, part_of_room, room_normal, unless, when}

sum_add : (a b : ℕ → ℕ) (xs : List ℕ) → sum_by (λ x. a x + b x) xs ≡ sum_by a xs + sum_by b xs
sum_add a b [] = refl
sum_add a b (x ∷ xs) =
    let rest = sum_add a b xs in
    let both = sum_by-cons (λ (y : ℕ). a y + b y) x xs in
    let one = sum_by-cons a x xs in
    let two = sum_by-cons b x xs in
    omega arith

above_again : (page : List ℕ) (p q o : ℕ) → is_at_or_above page p q ≡ true → is_at_or_above page q o ≡ true → is_at_or_above page p o ≡ true
unfolding is_at_or_above
above_again page p q o first second = grind (arith, nat_tests)

above_once : (page : List ℕ) (p q : ℕ) → p ≢ q → is_at_or_above page p q ≡ true → is_at_or_above page q p ≡ false
unfolding is_at_or_above
above_once page p q differ above = grind (arith, nat_tests)

above_or : (page : List ℕ) (p q : ℕ) → (is_at_or_above page p q ≡ true) ⊎ (is_at_or_above page q p ≡ true)
unfolding is_at_or_above
above_or page p q = elim (cases_Bool (is_at_or_above page p q)) [
  | inl yes_it ↦ inl yes_it
  | inr not_it ↦ inr (grind (arith, nat_tests))
]

-- what an item adds below another that stands above it
adds : (page : List ℕ) (p q : ℕ) → p ≢ q → is_at_or_above page p q ≡ true → (o : ℕ) → cond (is_at_or_above page q o) (room_at page o) 0 + cond (eqb o p) (room_at page p) 0 ≤ cond (is_at_or_above page p o) (room_at page o) 0
adds page p q differ above o = elim (cases_Bool (eqb o p)) [
  | inl same ↦
      let is : o ≡ p = grind (arith, nat_tests) in
      let below : is_at_or_above page q o ≡ false = ap (is_at_or_above page q) is ∙ above_once page p q differ above in
      let itself : is_at_or_above page p o ≡ true = ap (is_at_or_above page p) is ∙ above_itself page p in
      let room : room_at page o ≡ room_at page p = ap (room_at page) is in
      rw (same, below, itself) (omega arith)
  | inr other ↦ elim (cases_Bool (is_at_or_above page q o)) [
    | inl up ↦
        let too : is_at_or_above page p o ≡ true = above_again page p q o above up in
        rw (other, up, too) (omega arith)
    | inr down ↦ rw (other, down) (omega arith)
  ]
]

pub apart : (page : List ℕ) (fits : IsCompactable page) (p q : ℕ) → p ≢ q → p < item_count page → is_at_or_above page p q ≡ true → new_offset page p + room_at page p ≤ new_offset page q
unfolding new_offset room_of_items
apart page fits p q differ below above =
    let gp = λ (o : ℕ). cond (is_at_or_above page p o) (room_at page o) 0 in
    let gq = λ (o : ℕ). cond (is_at_or_above page q o) (room_at page o) 0 in
    let d = λ (o : ℕ). cond (eqb o p) (room_at page p) 0 in
    let sums : sum_by (λ o. gq o + d o) (places_of page) ≤ sum_by gp (places_of page) = sum_by-le-sum_by (λ (o : ℕ). gq o + d o) gp (places_of page) (adds page p q differ above) in
    let split = sum_add gq d (places_of page) in
    let size = length-range_with_len 0 (item_count page) in
    let one : d (get_or (places_of page) p 0) ≤ sum_by d (places_of page) = get_or-le-sum_by d (places_of page) p 0 (omega arith) in
    let at : get_or (places_of page) p 0 ≡ p = get_or-range_with_len 0 (item_count page) p 0 below ∙ (omega arith) in
    let here : eqb p p ≡ true = grind (arith, nat_tests) in
    let own : d (get_or (places_of page) p 0) ≡ room_at page p = ap d at ∙ ap (λ (b : Bool). cond b (room_at page p) 0) here in
    let all : sum_by gp (places_of page) ≤ sum_by (room_at page) (places_of page) = sum_by-le-sum_by gp (room_at page) (places_of page) (part_of_room page p) in
    let room = fits.room in
    let special = fits.special in
    omega arith

-- no byte is in the rooms of two items
alone : (page : List ℕ) (fits : IsCompactable page) (p q at : ℕ) → p ≢ q → p < item_count page → q < item_count page → new_offset page p ≤ at → at < new_offset page p + room_at page p → is_in_room page at q ≡ false
unfolding is_in_room
alone page fits p q at differ below_p below_q from to =
    let turned : q ≢ p = λ e. differ (sym e) in
    elim (above_or page p q) [
      | inl up ↦ let far = apart page fits p q differ below_p up in grind (arith, nat_tests)
      | inr down ↦ let far = apart page fits q p turned below_q down in grind (arith, nat_tests)
    ]

-- in an item's room stands no byte of an item that was put before
no_other : (page : List ℕ) (fits : IsCompactable page) (p at n : ℕ) → p < item_count page → n ≤ p → new_offset page p ≤ at → at < new_offset page p + room_at page p → item_byte page at n ≡ 0
unfolding item_byte
no_other page fits p at zero below within from to = refl
no_other page fits p at (suc n) below within from to =
    let differ : p ≢ n = λ (e : p ≡ n). absurd (omega arith) in
    let not_it = alone page fits p n at differ below (omega arith) from to in
    ap (λ (b : Bool). cond b (byte_in_room page at n) (item_byte page at n)) not_it ∙ no_other page fits p at n below (omega arith) from to

-- so the bytes after an item are 0 once it is put
pub padding_is_zero : (page : List ℕ) (fits : IsCompactable page) (n at from len room : ℕ) (is : IsPutItem page n at from len) → room ≡ (len + 7) / 8 * 8 → n < item_count page → (old now new : List ℕ) → ((k : ℕ) → get_or now k 0 ≡ cond (ltb k (new_upper page)) (get_or old k 0) (item_byte page k n)) → ((k : ℕ) → get_or new k 0 ≡ cond (leb at k && ltb k (at + len)) (get_or page (from + (k - at)) 0) (get_or now k 0)) → (k : ℕ) → get_or new k 0 ≡ cond (leb (at + len) k && ltb k (at + room)) 0 (get_or new k 0)
padding_is_zero page fits n at from len room is rounded below old now new before copied k =
    let test = leb (at + len) k && ltb k (at + room) in
    elim (cases_Bool test) [
      | inl inside ↦
          let past : (leb at k && ltb k (at + len)) ≡ false = grind (arith, nat_tests) in
          let lowest = is.lowest in
          let above : ltb k (new_upper page) ≡ false = grind (arith, nat_tests) in
          let start : new_offset page n ≤ k = let at_is = is.at_is in grind (arith, nat_tests) in
          let end : k < new_offset page n + room_at page n = let at_is = is.at_is in let room_is = is.room_is in grind (arith, nat_tests) in
          copied k ∙ unless (leb at k && ltb k (at + len)) (get_or page (from + (k - at)) 0) (get_or now k 0) past
          ∙ before k ∙ unless (ltb k (new_upper page)) (get_or old k 0) (item_byte page k n) above
          ∙ no_other page fits n k n below (omega arith) start end
          ∙ sym (when test 0 (get_or new k 0) inside)
      | inr out ↦ sym (unless test 0 (get_or new k 0) out)
    ]

own_byte : (page : List ℕ) (fits : IsCompactable page) (p at n : ℕ) → p < item_count page → n ≤ item_count page → p < n → is_in_room page at p ≡ true → new_offset page p ≤ at → at < new_offset page p + room_at page p → item_byte page at n ≡ byte_in_room page at p
unfolding item_byte
own_byte page fits p at zero below_p within before is_in from to = absurd (omega arith)
own_byte page fits p at (suc n) below_p within before is_in from to = elim (cases_Bool (eqb n p)) [
  | inl same ↦
      let is : n ≡ p = grind (arith, nat_tests) in
      let here : is_in_room page at n ≡ true = ap (is_in_room page at) is ∙ is_in in
      ap (λ (b : Bool). cond b (byte_in_room page at n) (item_byte page at n)) here ∙ ap (byte_in_room page at) is
  | inr other ↦
      let differ : p ≢ n = grind (arith, nat_tests) in
      let not_it = alone page fits p n at differ below_p (omega arith) from to in
      let less : p < n = omega arith in
      ap (λ (b : Bool). cond b (byte_in_room page at n) (item_byte page at n)) not_it ∙ own_byte page fits p at n below_p (omega arith) less is_in from to
]

in_it : (page : List ℕ) (p k : ℕ) → is_normal page p ≡ true → k < length_at page p → length_at page p ≤ room_at page p → (is_in_room page (new_offset page p + k) p ≡ true) × (byte_in_room page (new_offset page p + k) p ≡ get_or page (offset_at page p + k) 0)
unfolding is_in_room byte_in_room
in_it page p k normal below room =
    let j : new_offset page p + k - new_offset page p ≡ k = omega arith in
    let short : ltb k (length_at page p) ≡ true = grind (arith, nat_tests) in
    let from : leb (new_offset page p) (new_offset page p + k) ≡ true = grind (arith, nat_tests) in
    let to : ltb (new_offset page p + k) (new_offset page p + room_at page p) ≡ true = grind (arith, nat_tests) in (
      ap₂ (λ (a b : Bool). a && b) normal (ap₂ (λ (a b : Bool). a && b) from to),
      ap (λ (i : ℕ). cond (ltb i (length_at page p)) (get_or page (offset_at page p + i) 0) 0) j ∙ ap (λ (b : Bool). cond b (get_or page (offset_at page p + k) 0) 0) short,
    )

item_place : (page : List ℕ) (at : ℕ) → 24 ≤ at → new_lower page ≤ at → new_upper page ≤ at → at < special_of page → new_byte page at ≡ item_byte page at (item_count page)
unfolding new_byte
item_place page at a b c d = grind (arith, nat_tests)

-- each item's bytes stand at its new offset
pub items_arrive : (page new : List ℕ) (fits : IsCompactable page) → new ≡ rewritten_page page → HasItemsOf page new
items_arrive page new fits is place k below normal short =
    let bounds = offset_bounds page place fits below in
    let room = room_normal page place normal in
    let ends = new_ends page fits in
    let special = fits.special in
    let size = fits.size in
    let long : length_at page place ≤ room_at page place = omega arith in
    let at = new_offset page place + k in
    let inside = in_it page place k normal short long in
    ap (λ (l : List ℕ). get_or l at 0) is ∙ byte_of page at (omega arith)
    ∙ item_place page at (omega arith) (omega arith) (omega arith) (omega arith)
    ∙ own_byte page fits place at (item_count page) below (omega arith) below inside.0 (omega arith) (omega arith)
    ∙ inside.1
