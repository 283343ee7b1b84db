-- The numbers by which items are sorted, and where the items are put by them.
use Rattle.std.proofs.Common.{◌≡◌, ◌≢◌, ◌<◌, ◌≤◌, ◌+◌, ◌-◌, ◌*◌, ◌/◌, ◌%◌, ℕ, zero, suc, Bool, true, false, cond, eqb, leb, ltb, ◌&&◌, List, [], ◌∷◌, ◌++◌, length, get_or, set, take, drop, refl, subst, sym, ap, ap₂, ◌∙◌, arith, inl, inr, add-one, zero-add, sum_by}
use Rattle.std.specs.List.{range_with_len, All}
use Rattle.std.proofs.Math.Nat.{mod-eq_of_lt, mul-add-mod_self_right}
use Rattle.std.proofs.lemmas.Bool.{cases_Bool}
use Rattle.std.proofs.lemmas.Bool.Decides.{nat_tests}
use Rattle.std.proofs.lemmas.List.{get_or-set_other, get_or-set_same, get_or-take, get_or-drop, length-drop, length-take-le, map-id, take_all}
use Rattle.std.proofs.lemmas.List.Elements.{All-append, All-cons, All-get_or}
use Rattle.std.proofs.lemmas.List.FromFn.{map-range_with_len_more}
use Rattle.std.specs.List.Sorted.{IsNonDecreasing, IsPermutation}
use Rattle.std.proofs.lemmas.List.Sorted.{All-permutation, sum_by-IsPermutation}
use Rattle.std.proofs.lemmas.List.Sums.{get_or-le-sum_by, sum_by-cons, sum_by-take-drop, sum_by-take-le, sum_by_more, sum_by_more_le, sum_by_push}
use Rattle.page_layout.specs.Compact.{AreSortedKeys, IsCompactable, IsKey, key_at, keys_of, room_of_key}
use Rattle.page_layout.specs.Fields.{item_count}
use Rattle.page_layout.specs.Rewritten.{is_at_or_above, is_normal, length_at, new_offset, new_upper, offset_at, places_of, room_at, room_of_items, special_of, state_at}

pub range_more : (n : ℕ) → range_with_len 0 (suc n) ≡ range_with_len 0 n ++ n ∷ []
range_more n =
    ap (λ (m : ℕ). range_with_len 0 m) (sym (add-one n))
    ∙ sym (map-id (range_with_len 0 (n + 1)))
    ∙ map-range_with_len_more (λ (k : ℕ). k) 0 n n (zero-add n)
    ∙ ap (λ (l : List ℕ). l ++ n ∷ []) (map-id (range_with_len 0 n))

pub sum_range_more : (f : ℕ → ℕ) (n : ℕ) → sum_by f (range_with_len 0 (suc n)) ≡ sum_by f (range_with_len 0 n) + f n
sum_range_more f n = ap (sum_by f) (range_more n) ∙ sum_by_push f (range_with_len 0 n) n

pub offset_fits : (page : List ℕ) (place : ℕ) → offset_at page place < 32768
unfolding offset_at
offset_fits page place = omega arith

pub place_of_key : (page : List ℕ) (n : ℕ) → n < 65536 → key_at page n % 65536 ≡ n
unfolding key_at
place_of_key page n small = mul-add-mod_self_right (32767 - offset_at page n) 65536 n ∙ mod-eq_of_lt small

-- one line pointer more
pub keys_more : (page : List ℕ) (n : ℕ) → keys_of page (n + 1) ≡ cond (eqb (state_at page n) 1) (keys_of page n ++ key_at page n ∷ []) (keys_of page n)
unfolding keys_of
keys_more page n = ap (keys_of page) (add-one n)

-- a sum over the items' numbers is one over the places
pub sum_of_keys : (f : ℕ → ℕ) (page : List ℕ) (n : ℕ) → ((place : ℕ) → eqb (state_at page place) 1 ≡ false → f place ≡ 0) → n ≤ 65536 → sum_by (λ x. f (x % 65536)) (keys_of page n) ≡ sum_by f (range_with_len 0 n)
unfolding keys_of
sum_of_keys f page zero none small = refl
sum_of_keys f page (suc n) none small =
    let before = sum_of_keys f page n none (omega arith) in
    let more = sum_range_more f n in
    elim (cases_Bool (eqb (state_at page n) 1)) [
      | inl is1 ↦ rw is1 (sum_by_push (λ (x : ℕ). f (x % 65536)) (keys_of page n) (key_at page n)
          ∙ ap (λ (s : ℕ). s + f (key_at page n % 65536)) before
          ∙ ap (λ (k : ℕ). sum_by f (range_with_len 0 n) + f k) (place_of_key page n (omega arith))
          ∙ sym more)
      | inr not1 ↦ rw not1 (before ∙ (let nothing = none n not1 in omega arith))
    ]

key_is : (page : List ℕ) (n : ℕ) → n < 65536 → n < item_count page → eqb (state_at page n) 1 ≡ true → IsKey page (key_at page n)
key_is page n small below normal =
    let place = place_of_key page n small in
    record {
      is = ap (key_at page) (sym place);
      within = rw place below;
      normal = rw place normal;
    }

pub all_keys : (page : List ℕ) (n : ℕ) → n ≤ item_count page → n ≤ 65536 → All (IsKey page) (keys_of page n)
unfolding keys_of
all_keys page zero within small = λ k d h. absurd (omega arith)
all_keys page (suc n) within small =
    let before = all_keys page n (omega arith) (omega arith) in
    elim (cases_Bool (eqb (state_at page n) 1)) [
      | inl is1 ↦ rw is1 (All-append (IsKey page) (keys_of page n) (key_at page n ∷ []) before (All-cons (IsKey page) (key_at page n) [] (key_is page n (omega arith) (omega arith) is1) (λ k d h. absurd (omega arith))))
      | inr not1 ↦ rw not1 before
    ]

pub sum_same : (f g : ℕ → ℕ) (xs : List ℕ) → ((k : ℕ) → k < length xs → f (get_or xs k 0) ≡ g (get_or xs k 0)) → sum_by f xs ≡ sum_by g xs
sum_same f g [] same = refl
sum_same f g (x ∷ xs) same =
    let first : f x ≡ g x = same 0 (omega arith) in
    let rest : sum_by f xs ≡ sum_by g xs = sum_same f g xs (λ k h. same (suc k) (omega arith)) in
    sum_by-cons f x xs ∙ ap₂ (λ (a b : ℕ). a + b) first rest ∙ sym (sum_by-cons g x xs)

pub sum_none : (f : ℕ → ℕ) (xs : List ℕ) → ((k : ℕ) → k < length xs → f (get_or xs k 0) ≡ 0) → sum_by f xs ≡ 0
sum_none f [] none = refl
sum_none f (x ∷ xs) none =
    let first : f x ≡ 0 = none 0 (omega arith) in
    let rest : sum_by f xs ≡ 0 = sum_none f xs (λ k h. none (suc k) (omega arith)) in
    sum_by-cons f x xs ∙ ap₂ (λ (a b : ℕ). a + b) first rest

-- where a sum isn't 0, an element counts
pub found : (f : ℕ → ℕ) (xs : List ℕ) → 0 < sum_by f xs → (j : ℕ) × (j < length xs) × (0 < f (get_or xs j 0))
found f [] some = absurd (omega arith)
found f (x ∷ xs) some = elim (cases_Bool (eqb (f x) 0)) [
  | inl none ↦
      let zero_here : f x ≡ 0 = grind (arith, nat_tests) in
      let more = sum_by-cons f x xs in
      let rest = found f xs (omega arith) in
      (suc rest.0, omega (arith, rest.1), rest.2)
  | inr here ↦ (0, omega arith, grind (arith, nat_tests))
]

-- 1 at the place of an item, and 0 at any other
pub mark : List ℕ → ℕ → ℕ → ℕ
mark page q place = cond (eqb place q && eqb (state_at page place) 1) 1 0

mark_normal : (page : List ℕ) (q place : ℕ) → eqb (state_at page place) 1 ≡ false → mark page q place ≡ 0
unfolding mark
mark_normal page q place not1 = grind (arith, nat_tests)

mark_is : (page : List ℕ) (q place : ℕ) → place ≡ q → eqb (state_at page place) 1 ≡ true → mark page q place ≡ 1
unfolding mark
mark_is page q place same is1 = grind (arith, nat_tests)

mark_from : (page : List ℕ) (q place : ℕ) → 0 < mark page q place → place ≡ q
unfolding mark
mark_from page q place some = grind (arith, nat_tests)

mark_at : (page : List ℕ) (q place : ℕ) → (mark page q place ≤ 1) × (place ≢ q → mark page q place ≡ 0)
unfolding mark
mark_at page q place = (grind (arith, nat_tests), λ ne. grind (arith, nat_tests))

marks_none : (page : List ℕ) (q n : ℕ) → n ≤ q → sum_by (mark page q) (range_with_len 0 n) ≡ 0
marks_none page q zero below = refl
marks_none page q (suc n) below =
    let before = marks_none page q n (omega arith) in
    let more = sum_range_more (mark page q) n in
    let not_here : mark page q n ≡ 0 = (mark_at page q n).1 (omega arith) in
    omega arith

pub marks_at_most : (page : List ℕ) (q n : ℕ) → sum_by (mark page q) (range_with_len 0 n) ≤ 1
marks_at_most page q zero = omega arith
marks_at_most page q (suc n) =
    let before = marks_at_most page q n in
    let more = sum_range_more (mark page q) n in
    let one = mark_at page q n in
    elim (cases_Bool (eqb n q)) [
      | inl here ↦ let same : n ≤ q = grind (arith, nat_tests) in let none = marks_none page q n same in omega (arith, one.0)
      | inr other ↦ let ne : n ≢ q = grind (arith, nat_tests) in let nothing = one.1 ne in omega arith
    ]

pub marks_some : (page : List ℕ) (q n : ℕ) → q < n → eqb (state_at page q) 1 ≡ true → 1 ≤ sum_by (mark page q) (range_with_len 0 n)
marks_some page q zero below is1 = absurd (omega arith)
marks_some page q (suc n) below is1 =
    let more = sum_range_more (mark page q) n in
    elim (cases_Bool (eqb n q)) [
      | inl here ↦
          let same : n ≡ q = grind (arith, nat_tests) in
          let normal : eqb (state_at page n) 1 ≡ true = rw same is1 in
          let one = mark_is page q n same normal in omega arith
      | inr other ↦
          let lt : q < n = grind (arith, nat_tests) in
          let before = marks_some page q n lt is1 in omega arith
    ]

-- which item stands above which shows in their numbers
pub above_by_key : (page : List ℕ) (p q : ℕ) → p < 65536 → q < 65536 → is_at_or_above page p q ≡ leb (key_at page q) (key_at page p)
unfolding is_at_or_above key_at
above_by_key page p q small_p small_q =
    let at_p = offset_fits page p in
    let at_q = offset_fits page q in
    grind (arith, nat_tests)

-- two of them are of different items
pub places_differ : (page keys : List ℕ) (h : AreSortedKeys page keys) (i j : ℕ) → i < j → j < length keys → get_or keys i 0 % 65536 ≢ get_or keys j 0 % 65536
places_differ page keys h i j before below same =
    let q = get_or keys j 0 % 65536 in
    let f = λ (x : ℕ). mark page q (x % 65536) in
    let total = h.sums (mark page q) (mark_normal page q) in
    let most = marks_at_most page q (item_count page) in
    let here : f (get_or keys j 0) ≡ 1 = mark_is page q q refl (h.each j below).normal in
    let there : f (get_or keys i 0) ≡ 1 = mark_is page q (get_or keys i 0 % 65536) same (h.each i (omega arith)).normal in
    let front : f (get_or (take j keys) i 0) ≤ sum_by f (take j keys) = get_or-le-sum_by f (take j keys) i 0 (let l = length-take-le j keys (omega arith) in omega arith) in
    let front_is : f (get_or (take j keys) i 0) ≡ 1 = ap f (get_or-take j keys i 0 before) ∙ there in
    let both : sum_by f (take j keys) + f (get_or keys j 0) ≤ sum_by f keys = sum_by_more_le f keys j 0 below in
    omega arith

-- each item has its number there
pub key_found : (page keys : List ℕ) (h : AreSortedKeys page keys) (q : ℕ) → q < item_count page → eqb (state_at page q) 1 ≡ true → (j : ℕ) × (j < length keys) × (get_or keys j 0 % 65536 ≡ q)
key_found page keys h q below normal =
    let f = λ (x : ℕ). mark page q (x % 65536) in
    let total = h.sums (mark page q) (mark_normal page q) in
    let least = marks_some page q (item_count page) below normal in
    let some = found f keys (omega arith) in
    (some.0, some.1, mark_from page q (get_or keys some.0 0 % 65536) some.2)

-- the room of the items at or above an item is that of the items up to its number
room_above : (page keys : List ℕ) (h : AreSortedKeys page keys) (j : ℕ) → j < length keys → item_count page ≤ 65536 → sum_by (λ other. cond (is_at_or_above page (get_or keys j 0 % 65536) other) (room_at page other) 0) (places_of page) ≡ sum_by (room_of_key page) (take (j + 1) keys)
unfolding room_of_key room_at
room_above page keys h j below few =
    let p = get_or keys j 0 % 65536 in
    let g = λ (other : ℕ). cond (is_at_or_above page p other) (room_at page other) 0 in
    let none : (place : ℕ) → eqb (state_at page place) 1 ≡ false → g place ≡ 0 = λ place not1. rw not1 (grind (arith, nat_tests)) in
    let all = h.sums g none in
    let f = λ (x : ℕ). g (x % 65536) in
    let size = length-take-le (j + 1) keys (omega arith) in
    let key_j = h.each j below in
    let above : (k : ℕ) → k < length keys → is_at_or_above page p (get_or keys k 0 % 65536) ≡ leb (get_or keys k 0) (get_or keys j 0) =
    λ k lt.
    let key_k = h.each k lt in
    above_by_key page p (get_or keys k 0 % 65536) (let w = key_j.within in omega arith) (let w = key_k.within in omega arith)
    ∙ ap₂ leb (sym key_k.is) (sym key_j.is) in
    let front : sum_by f (take (j + 1) keys) ≡ sum_by (room_of_key page) (take (j + 1) keys) =
    sum_same f (room_of_key page) (take (j + 1) keys) (λ k lt.
    let at : get_or (take (j + 1) keys) k 0 ≡ get_or keys k 0 = get_or-take (j + 1) keys k 0 (omega arith) in
    let up = h.ascending k j (omega arith) below in
    let is = above k (omega arith) in
    let yes_above : is_at_or_above page p (get_or keys k 0 % 65536) ≡ true = is ∙ (grind (arith, nat_tests)) in
    ap f at ∙ ap (λ (b : Bool). cond b (room_at page (get_or keys k 0 % 65536)) 0) yes_above ∙ sym (ap (room_of_key page) at)) in
    let back : sum_by f (drop (j + 1) keys) ≡ 0 =
    sum_none f (drop (j + 1) keys) (λ k lt.
    let rest = length-drop (j + 1) keys in
    let at : get_or (drop (j + 1) keys) k 0 ≡ get_or keys (j + 1 + k) 0 = get_or-drop (j + 1) keys k 0 in
    let up = h.ascending j (j + 1 + k) (omega arith) (omega arith) in
    let ne = places_differ page keys h j (j + 1 + k) (omega arith) (omega arith) in
    let other : get_or keys j 0 ≢ get_or keys (j + 1 + k) 0 = λ e. ne (ap (λ (x : ℕ). x % 65536) e) in
    let is = above (j + 1 + k) (omega arith) in
    let not_above : is_at_or_above page p (get_or keys (j + 1 + k) 0 % 65536) ≡ false = is ∙ (grind (arith, nat_tests)) in
    ap f at ∙ ap (λ (b : Bool). cond b (room_at page (get_or keys (j + 1 + k) 0 % 65536)) 0) not_above) in
    let split = sum_by-take-drop f keys (j + 1) in
    omega arith

pub new_offset_is : (page keys : List ℕ) (h : AreSortedKeys page keys) (j : ℕ) → j < length keys → item_count page ≤ 65536 → new_offset page (get_or keys j 0 % 65536) ≡ special_of page - sum_by (room_of_key page) (take (j + 1) keys)
unfolding new_offset
new_offset_is page keys h j below few = ap (λ (s : ℕ). special_of page - s) (room_above page keys h j below few)

-- the room of all items is that of all numbers
pub room_is : (page keys : List ℕ) (h : AreSortedKeys page keys) → sum_by (room_of_key page) keys ≡ room_of_items page
unfolding room_of_items room_of_key room_at
room_is page keys h = h.sums (room_at page) (λ place not1. rw not1 refl)

-- a step of the loop that lists the numbers
pub keys_push : (page : List ℕ) (n s k o p : ℕ) (xs ys : List ℕ) → xs ≡ keys_of page n → ys ≡ xs ++ ((32767 - k) * 65536 + p) ∷ [] → s ≡ 1 → s ≡ state_at page n → k ≡ o → o ≡ offset_at page n → p ≡ n → ys ≡ keys_of page (n + 1)
unfolding key_at
keys_push page n s k o p xs ys before after one state offset is_offset place =
    let more = keys_more page n in
    let normal : eqb (state_at page n) 1 ≡ true = ap (λ (x : ℕ). eqb x 1) (sym state ∙ one) in
    let key : (32767 - k) * 65536 + p ≡ (32767 - offset_at page n) * 65536 + n = ap₂ (λ (a b : ℕ). (32767 - a) * 65536 + b) (offset ∙ is_offset) place in
    after ∙ ap₂ (λ (l : List ℕ) (x : ℕ). l ++ x ∷ []) before key ∙ sym (more ∙ ap (λ (b : Bool). cond b (keys_of page n ++ ((32767 - offset_at page n) * 65536 + n) ∷ []) (keys_of page n)) normal)

pub keys_stay : (page : List ℕ) (n s : ℕ) (xs ys : List ℕ) → xs ≡ keys_of page n → ys ≡ xs → (s ≡ 1 → ⊥) → s ≡ state_at page n → ys ≡ keys_of page (n + 1)
keys_stay page n s xs ys before after other state =
    let more = keys_more page n in
    let not1 : eqb (state_at page n) 1 ≡ false = grind (arith, nat_tests) in
    after ∙ before ∙ sym (more ∙ ap (λ (b : Bool). cond b (keys_of page n ++ key_at page n ∷ []) (keys_of page n)) not1)

-- what a sort of the numbers gives
pub sorted_keys : (page xs ys : List ℕ) → xs ≡ keys_of page (item_count page) → IsPermutation xs ys → IsNonDecreasing ys → item_count page ≤ 65536 → AreSortedKeys page ys
sorted_keys page xs ys is moved up few = record {
  sums = λ f none. sum_by-IsPermutation (λ (x : ℕ). f (x % 65536)) xs ys moved ∙ ap (sum_by (λ (x : ℕ). f (x % 65536))) is ∙ sum_of_keys f page (item_count page) none few;
  ascending = λ i j le below. up i j 0 le below;
  each = λ j below. All-get_or (IsKey page) ys j 0 below (All-permutation (IsKey page) xs ys moved (subst (λ (l : List ℕ). All (IsKey page) l) (sym is) (all_keys page (item_count page) (omega arith) few)));
}

-- the room of the item of a number
pub key_room : (page keys : List ℕ) (h : AreSortedKeys page keys) (i : ℕ) → i < length keys → room_of_key page (get_or keys i 0) ≡ (length_at page (get_or keys i 0 % 65536) + 7) / 8 * 8
unfolding room_of_key room_at
key_room page keys h i below =
    let normal = (h.each i below).normal in
    ap (λ (b : Bool). cond b ((length_at page (get_or keys i 0 % 65536) + 7) / 8 * 8) 0) normal

-- the items up to a number have room in the page
pub room_fits : (page keys : List ℕ) (h : AreSortedKeys page keys) (fits : IsCompactable page) (i : ℕ) → i < length keys → (sum_by (room_of_key page) (take (i + 1) keys) ≡ sum_by (room_of_key page) (take i keys) + room_of_key page (get_or keys i 0)) × (sum_by (room_of_key page) (take (i + 1) keys) ≤ 8168)
room_fits page keys h fits i below =
    let all = room_is page keys h in
    let part = sum_by-take-le (room_of_key page) keys (i + 1) in
    let room = fits.room in
    let lower = fits.lower in
    (sum_by_more (room_of_key page) keys i 0 below, omega arith)

-- where the items are put, once all are
pub all_placed : (page keys offsets : List ℕ) (h : AreSortedKeys page keys) (fits : IsCompactable page) → item_count page ≤ 65536 → ((j : ℕ) → j < length keys → get_or offsets (get_or keys j 0 % 65536) 0 + sum_by (room_of_key page) (take (j + 1) keys) ≡ 8192) → (place : ℕ) → place < item_count page → is_normal page place ≡ true → get_or offsets place 0 ≡ new_offset page place
all_placed page keys offsets h fits few placed place below normal =
    let at = key_found page keys h place below normal in
    let is = new_offset_is page keys h at.0 at.1 few in
    let there = placed at.0 at.1 in
    let special = fits.special in
    let same : get_or offsets (get_or keys at.0 0 % 65536) 0 ≡ new_offset page (get_or keys at.0 0 % 65536) = omega arith in
    ap (λ (p : ℕ). get_or offsets p 0) (sym at.2) ∙ same ∙ ap (new_offset page) at.2

-- the lowest of these places
pub upper_is : (page keys : List ℕ) (upper n : ℕ) (h : AreSortedKeys page keys) (fits : IsCompactable page) → length keys ≤ n → upper + sum_by (room_of_key page) (take n keys) ≡ 8192 → upper ≡ new_upper page
unfolding new_upper
upper_is page keys upper n h fits all is =
    let whole = ap (sum_by (room_of_key page)) (take_all n keys all) in
    let room = room_is page keys h in
    let special = fits.special in
    omega arith

-- a step of the loop that puts them
pub placed_more : (page keys offsets : List ℕ) (h : AreSortedKeys page keys) (i at upper : ℕ) → i < length keys → at ≡ get_or keys i 0 % 65536 → at < length offsets → upper + sum_by (room_of_key page) (take (i + 1) keys) ≡ 8192 → ((j : ℕ) → j < i → get_or offsets (get_or keys j 0 % 65536) 0 + sum_by (room_of_key page) (take (j + 1) keys) ≡ 8192) → (j : ℕ) → j < i + 1 → get_or (set offsets at upper) (get_or keys j 0 % 65536) 0 + sum_by (room_of_key page) (take (j + 1) keys) ≡ 8192
placed_more page keys offsets h i at upper below at_is within is before j upto = elim (cases_Bool (ltb j i)) [
  | inl less ↦
      let lt : j < i = grind (arith, nat_tests) in
      let differ = places_differ page keys h j i lt below in
      let other : get_or keys j 0 % 65536 ≢ at = λ e. differ (e ∙ at_is) in
      let same = get_or-set_other offsets at (get_or keys j 0 % 65536) upper 0 other in
      let old = before j lt in
      omega arith
  | inr same ↦
      let eq : j ≡ i = grind (arith, nat_tests) in
      let here = get_or-set_same offsets at upper 0 within in
      let there = ap (λ (k : ℕ). get_or (set offsets at upper) (get_or keys k 0 % 65536) 0) eq ∙ ap (λ (k : ℕ). get_or (set offsets at upper) k 0) (sym at_is) in
      let sums = ap (λ (k : ℕ). sum_by (room_of_key page) (take (k + 1) keys)) eq in
      omega arith
]
