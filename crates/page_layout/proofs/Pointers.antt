-- Rewritten line pointers, and their bytes one more at a time.
use Rattle.std.proofs.Common.{◌≡◌, ◌≢◌, ◌<◌, ◌≤◌, ◌+◌, ◌-◌, ◌*◌, ◌/◌, ◌%◌, ℕ, Bool, true, false, cond, eqb, leb, ltb, ◌&&◌, List, get_or, sym, ap, ap₂, ◌∙◌, arith, inl, inr, add-one}
use Rattle.std.specs.Int.{byte_at}
use Rattle.std.specs.List.{sum_by}
use Rattle.std.proofs.lemmas.Bool.{cases_Bool}
use Rattle.std.proofs.lemmas.Bool.Decides.{nat_tests}
use Rattle.std.proofs.lemmas.List.FromFn.{get_or-range_with_len, length-range_with_len}
use Rattle.std.proofs.lemmas.List.Sums.{get_or-le-sum_by, sum_by-le-sum_by}
use Rattle.page_layout.specs.Compact.{IsCompactable}
use Rattle.page_layout.specs.Fields.{item_count, pointer_at}
use Rattle.page_layout.specs.Rewritten.{byte_in_room, is_at_or_above, is_in_room, is_normal, item_byte, length_at, new_offset, new_pointer, new_upper, offset_at, places_of, room_at, room_of_items, state_at}

pub pointer_normal : (page : List ℕ) (place : ℕ) → state_at page place ≡ 1 → new_pointer page place ≡ new_offset page place + 32768 + length_at page place * 131072
unfolding new_pointer
pointer_normal page place e = ap (λ (s : ℕ). cond (eqb s 1) (new_offset page place + 32768 + length_at page place * 131072) (cond (eqb s 2) (pointer_at page place) 0)) e

pub pointer_redirect : (page : List ℕ) (place : ℕ) → state_at page place ≡ 2 → new_pointer page place ≡ pointer_at page place
unfolding new_pointer
pointer_redirect page place e = ap (λ (s : ℕ). cond (eqb s 1) (new_offset page place + 32768 + length_at page place * 131072) (cond (eqb s 2) (pointer_at page place) 0)) e

pub pointer_unused : (page : List ℕ) (place : ℕ) → state_at page place ≢ 1 → state_at page place ≢ 2 → new_pointer page place ≡ 0
unfolding new_pointer
pointer_unused page place not1 not2 = grind (arith, nat_tests)

pub when : {A : Type 0} (b : Bool) (x y : A) → b ≡ true → cond b x y ≡ x
when b x y e = ap (λ c. cond c x y) e

pub unless : {A : Type 0} (b : Bool) (x y : A) → b ≡ false → cond b x y ≡ y
unless b x y e = ap (λ c. cond c x y) e

-- the bytes of one line pointer more
pub pointers_step : (f : ℕ → ℕ) (old now new : List ℕ) (place bits : ℕ) → bits ≡ f place → ((k : ℕ) → get_or now k 0 ≡ cond (leb 24 k && ltb k (24 + 4 * place)) (byte_at ((k - 24) % 4) (f ((k - 24) / 4))) (get_or old k 0)) → ((k : ℕ) → get_or new k 0 ≡ cond (leb (24 + 4 * place) k && ltb k (28 + 4 * place)) (byte_at (k - (24 + 4 * place)) bits) (get_or now k 0)) → (k : ℕ) → get_or new k 0 ≡ cond (leb 24 k && ltb k (24 + 4 * (place + 1))) (byte_at ((k - 24) % 4) (f ((k - 24) / 4))) (get_or old k 0)
pointers_step f old now new place bits is before after k =
    let here = leb (24 + 4 * place) k && ltb k (28 + 4 * place) in
    let below = leb 24 k && ltb k (24 + 4 * place) in
    let all = leb 24 k && ltb k (24 + 4 * (place + 1)) in
    let byte = byte_at ((k - 24) % 4) (f ((k - 24) / 4)) in
    elim (cases_Bool here) [
      | inl in_it ↦
          let from : 24 + 4 * place ≤ k = grind (arith, nat_tests) in
          let to : k < 28 + 4 * place = grind (arith, nat_tests) in
          let in_all : all ≡ true = grind (arith, nat_tests) in
          let quotient : (k - 24) / 4 ≡ place = omega arith in
          let remainder : (k - 24) % 4 ≡ k - (24 + 4 * place) = omega arith in
          after k ∙ when here (byte_at (k - (24 + 4 * place)) bits) (get_or now k 0) in_it
          ∙ ap₂ byte_at (sym remainder) (is ∙ ap f (sym quotient))
          ∙ sym (when all byte (get_or old k 0) in_all)
      | inr out ↦ elim (cases_Bool below) [
        | inl in_it ↦
            let in_all : all ≡ true = grind (arith, nat_tests) in
            after k ∙ unless here (byte_at (k - (24 + 4 * place)) bits) (get_or now k 0) out
            ∙ before k ∙ when below byte (get_or old k 0) in_it ∙ sym (when all byte (get_or old k 0) in_all)
        | inr out_too ↦
            let out_all : all ≡ false = grind (arith, nat_tests) in
            after k ∙ unless here (byte_at (k - (24 + 4 * place)) bits) (get_or now k 0) out
            ∙ before k ∙ unless below byte (get_or old k 0) out_too ∙ sym (unless all byte (get_or old k 0) out_all)
      ]
    ]

-- none yet
pub pointers_none : (f : ℕ → ℕ) (old : List ℕ) (k : ℕ) → get_or old k 0 ≡ cond (leb 24 k && ltb k 24) (byte_at ((k - 24) % 4) (f ((k - 24) / 4))) (get_or old k 0)
pointers_none f old k =
    let none : (leb 24 k && ltb k 24) ≡ false = grind (arith, nat_tests) in
    sym (unless (leb 24 k && ltb k 24) (byte_at ((k - 24) % 4) (f ((k - 24) / 4))) (get_or old k 0) none)

pub above_itself : (page : List ℕ) (p : ℕ) → is_at_or_above page p p ≡ true
unfolding is_at_or_above
above_itself page p = grind (arith, nat_tests)

pub part_of_room : (page : List ℕ) (p other : ℕ) → cond (is_at_or_above page p other) (room_at page other) 0 ≤ room_at page other
part_of_room page p other = elim (cases_Bool (is_at_or_above page p other)) [
  | inl above ↦ let e = when (is_at_or_above page p other) (room_at page other) 0 above in omega arith
  | inr below ↦ let e = unless (is_at_or_above page p other) (room_at page other) 0 below in omega arith
]

pub room_normal : (page : List ℕ) (place : ℕ) → is_normal page place ≡ true → room_at page place ≡ (length_at page place + 7) / 8 * 8
unfolding room_at
room_normal page place normal = when (eqb (state_at page place) 1) ((length_at page place + 7) / 8 * 8) 0 normal

-- an item is put within the items' space
pub offset_bounds : (page : List ℕ) (place : ℕ) → IsCompactable page → place < item_count page → (new_upper page ≤ new_offset page place) × (new_offset page place + room_at page place ≤ 8192)
unfolding new_upper new_offset room_of_items
offset_bounds page place fits below =
    let g = λ (other : ℕ). cond (is_at_or_above page place other) (room_at page other) 0 in
    let all : sum_by g (places_of page) ≤ sum_by (room_at page) (places_of page) = sum_by-le-sum_by g (room_at page) (places_of page) (part_of_room page place) in
    let size = length-range_with_len 0 (item_count page) in
    let one : g (get_or (places_of page) place 0) ≤ sum_by g (places_of page) = get_or-le-sum_by g (places_of page) place 0 (omega arith) in
    let at = get_or-range_with_len 0 (item_count page) place 0 below in
    let itself : g (get_or (places_of page) place 0) ≡ g place = ap g (at ∙ (omega arith)) in
    let own : g place ≡ room_at page place = when (is_at_or_above page place place) (room_at page place) 0 (above_itself page place) in
    let room = fits.room in
    let special = fits.special in
    (omega arith, omega arith)

-- the items of one line pointer more
pub items_more : (page : List ℕ) (k n : ℕ) → item_byte page k (n + 1) ≡ cond (is_in_room page k n) (byte_in_room page k n) (item_byte page k n)
unfolding item_byte
items_more page k n = ap (item_byte page k) (add-one n)

pub items_none : (page : List ℕ) (k n : ℕ) → is_normal page n ≡ false → item_byte page k (n + 1) ≡ item_byte page k n
unfolding is_in_room
items_none page k n other =
    items_more page k n ∙ ap (λ (b : Bool). cond (b && (leb (new_offset page n) k && ltb k (new_offset page n + room_at page n))) (byte_in_room page k n) (item_byte page k n)) other

pub items_one : (page : List ℕ) (k n : ℕ) → is_normal page n ≡ true → item_byte page k (n + 1) ≡ cond (leb (new_offset page n) k && ltb k (new_offset page n + room_at page n)) (cond (ltb (k - new_offset page n) (length_at page n)) (get_or page (offset_at page n + (k - new_offset page n)) 0) 0) (item_byte page k n)
unfolding is_in_room byte_in_room
items_one page k n normal =
    items_more page k n ∙ ap (λ (b : Bool). cond (b && (leb (new_offset page n) k && ltb k (new_offset page n + room_at page n))) (cond (ltb (k - new_offset page n) (length_at page n)) (get_or page (offset_at page n + (k - new_offset page n)) 0) 0) (item_byte page k n)) normal

-- a byte once an item was copied and the bytes after it set to 0
moved : (k at len room up new mid now o b p : ℕ) → new ≡ cond (leb (at + len) k && ltb k (at + room)) 0 mid → mid ≡ cond (leb at k && ltb k (at + len)) p now → now ≡ cond (ltb k up) o b → up ≤ at → len ≤ room → new ≡ cond (ltb k up) o (cond (leb at k && ltb k (at + room)) (cond (ltb (k - at) len) p 0) b)
moved k at len room up new mid now o b p cleared copied before above fits = grind (arith, nat_tests)

-- an item of this length that is put at a place
pub record IsPutItem (page : List ℕ) (n at from len : ℕ) : Type 0 where
  pub normal : is_normal page n ≡ true
  pub at_is : at ≡ new_offset page n
  pub from_is : from ≡ offset_at page n
  pub len_is : len ≡ length_at page n
  pub room_is : (len + 7) / 8 * 8 ≡ room_at page n
  pub room : at + (len + 7) / 8 * 8 ≤ 8192
  pub lowest : new_upper page ≤ at
  pub source : from + len ≤ 8192

pub put : (page offsets : List ℕ) (n m state from len : ℕ) (fits : IsCompactable page) → ((place : ℕ) → place < item_count page → is_normal page place ≡ true → get_or offsets place 0 ≡ new_offset page place) → n < item_count page → m ≡ n → state ≡ 1 → state ≡ state_at page n → from ≡ offset_at page n → len ≡ length_at page n → IsPutItem page n (get_or offsets m 0) from len
put page offsets n m state from len fits offsets_are below same one state_is from_is len_is =
    let normal : is_normal page n ≡ true = ap (λ (s : ℕ). eqb s 1) (sym state_is ∙ one) in
    let at_is : get_or offsets m 0 ≡ new_offset page n = ap (λ (k : ℕ). get_or offsets k 0) same ∙ offsets_are n below normal in
    let bounds = offset_bounds page n fits below in
    let room_is : (len + 7) / 8 * 8 ≡ room_at page n = ap (λ (l : ℕ). (l + 7) / 8 * 8) len_is ∙ sym (room_normal page n normal) in
    let inside = fits.inside n below normal in
    record {
      normal = normal;
      at_is = at_is;
      from_is = from_is;
      len_is = len_is;
      room_is = room_is;
      room = omega arith;
      lowest = omega arith;
      source = omega arith;
    }

pub items_step : (page : List ℕ) (n at from len room : ℕ) (is : IsPutItem page n at from len) → room ≡ (len + 7) / 8 * 8 → (old now mid new : List ℕ) → ((k : ℕ) → get_or now k 0 ≡ cond (ltb k (new_upper page)) (get_or old k 0) (item_byte page k n)) → ((k : ℕ) → get_or mid k 0 ≡ cond (leb at k && ltb k (at + len)) (get_or page (from + (k - at)) 0) (get_or now k 0)) → ((k : ℕ) → get_or new k 0 ≡ cond (leb (at + len) k && ltb k (at + room)) 0 (get_or mid k 0)) → (k : ℕ) → get_or new k 0 ≡ cond (ltb k (new_upper page)) (get_or old k 0) (item_byte page k (n + 1))
items_step page n at from len room is rounded old now mid new before copied cleared k =
    let lowest = is.lowest in
    let step = moved k at len room (new_upper page) _ _ _ _ _ _ (cleared k) (copied k) (before k) lowest (omega arith) in
    let here : cond (leb at k && ltb k (at + room)) (cond (ltb (k - at) len) (get_or page (from + (k - at)) 0) 0) (item_byte page k n) ≡ item_byte page k (n + 1) =
    ap₂ (λ (a r : ℕ). cond (leb a k && ltb k (a + r)) (cond (ltb (k - a) len) (get_or page (from + (k - a)) 0) 0) (item_byte page k n)) is.at_is (rounded ∙ is.room_is)
    ∙ ap₂ (λ (f l : ℕ). cond (leb (new_offset page n) k && ltb k (new_offset page n + room_at page n)) (cond (ltb (k - new_offset page n) l) (get_or page (f + (k - new_offset page n)) 0) 0) (item_byte page k n)) is.from_is is.len_is
    ∙ sym (items_one page k n is.normal) in
    step ∙ ap (λ (x : ℕ). cond (ltb k (new_upper page)) (get_or old k 0) x) here

pub items_start : (page : List ℕ) (old : List ℕ) → ((k : ℕ) → new_upper page ≤ k → get_or old k 0 ≡ 0) → (k : ℕ) → get_or old k 0 ≡ cond (ltb k (new_upper page)) (get_or old k 0) (item_byte page k 0)
unfolding item_byte
items_start page old zeros k = elim (cases_Bool (ltb k (new_upper page))) [
  | inl below ↦ sym (when (ltb k (new_upper page)) (get_or old k 0) 0 below)
  | inr above ↦
      let le : new_upper page ≤ k = grind (arith, nat_tests) in
      zeros k le ∙ sym (unless (ltb k (new_upper page)) (get_or old k 0) 0 above)
]
