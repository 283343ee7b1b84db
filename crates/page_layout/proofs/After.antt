-- The rewritten page is sound and not new, with any log position.
use Rattle.std.proofs.Common.{◌≡◌, ◌↔◌, ◌<◌, ◌≤◌, ◌+◌, ◌*◌, ◌/◌, ◌%◌, ℕ, Bool, true, false, not, cond, ◌||◌, List, length, get_or, add-zero, refl, sym, ap, ap₂, ◌∙◌, arith, inl, inr}
use Rattle.std.specs.List.{list_any, range_with_len}
use Rattle.std.specs.Bool.{Decides}
use Rattle.std.specs.Str.{bytes_eq}
use Rattle.std.proofs.lemmas.Slice.Eq.{bytes_eq-Decides}
use Rattle.std.proofs.lemmas.Bool.{cases_Bool, false≢true}
use Rattle.std.proofs.lemmas.Bool.Decides.{nat_tests}
use Rattle.std.proofs.lemmas.List.{get_or-drop}
use Rattle.std.proofs.lemmas.List.FromFn.{get_or-map-range_with_len, length-map-range_with_len}
use Rattle.page_layout.specs.Compact.{IsCompactable}
use Rattle.page_layout.specs.declared.page.Header.{Header}
use Rattle.page_layout.specs.Fields.{header_of, number_at}
use Rattle.page_layout.specs.Rewritten.{new_byte, new_flags, new_lower, new_upper, dead_count, is_skipped, pointers_left, rewrite_of, rewritten_page, special_of, stays}
use Rattle.page_layout.specs.declared.rewrite.Rewrite.{Rewrite}
use Rattle.page_layout.specs.declared.rewrite.Rewrite.TheVariants.{Same, Changed, Skipped}
use Rattle.page_layout.specs.Soundness.{IsUsedPage, is_new_page, is_sound_header, is_sound_page}
use Rattle.page_layout.proofs.Final.{new_ends}
use Rattle.page_layout.proofs.Sound.{zero_at}

-- a number of two bytes from its bytes
pub two_bytes : (k x : ℕ) (page : List ℕ) → get_or page k 0 ≡ x % 256 → get_or page (k + 1) 0 ≡ x / 256 % 256 → x < 65536 → number_at k 2 page ≡ x
two_bytes k x page low high fits =
    let first = get_or-drop k page 0 0 ∙ ap (λ (i : ℕ). get_or page i 0) (add-zero k) ∙ low in
    let second = get_or-drop k page 1 0 ∙ high in
    let all : x % 256 + 256 * (x / 256 % 256 + 256 * 0) ≡ x = omega arith in
    ap₂ (λ (a b : ℕ). a + 256 * (b + 256 * 0)) first second ∙ all

pub same_two : (k : ℕ) (p q : List ℕ) → get_or p k 0 ≡ get_or q k 0 → get_or p (k + 1) 0 ≡ get_or q (k + 1) 0 → number_at k 2 p ≡ number_at k 2 q
same_two k p q low high =
    let at = λ (l : List ℕ). get_or-drop k l 0 0 ∙ ap (λ (i : ℕ). get_or l i 0) (add-zero k) in
    ap₂ (λ (a b : ℕ). a + 256 * (b + 256 * 0)) (at p ∙ low ∙ sym (at q)) (get_or-drop k p 1 0 ∙ high ∙ sym (get_or-drop k q 1 0))

-- a byte of the rewritten page
pub byte_of : (page : List ℕ) (k : ℕ) → k < length page → get_or (rewritten_page page) k 0 ≡ new_byte page k
unfolding rewritten_page
byte_of page k below = get_or-map-range_with_len (new_byte page) 0 (length page) k k 0 below (omega arith)

bit_small : (b : Bool) (n : ℕ) → n < 8 → n / 2 * 2 + cond b 1 0 < 8
bit_small true n small = omega arith
bit_small false n small = omega arith

flags_fit : (page : List ℕ) → number_at 10 2 page < 8 → new_flags page < 8
unfolding new_flags
flags_fit page small = bit_small (list_any (λ place. not (stays page place)) (range_with_len 0 (pointers_left page))) (number_at 10 2 page) small

header_flags : (h : Header) → is_sound_header h ≡ true → (h.flags < 8) × (h.special % 8 ≡ 0)
header_flags h sound = (grind (arith, nat_tests), grind (arith, nat_tests))

used_flags : (page : List ℕ) → is_sound_page page ≡ true → is_new_page page ≡ false → number_at 10 2 page < 8
unfolding is_sound_page header_of
used_flags page sound used = (header_flags (header_of page) (grind (arith, nat_tests))).0

header_sound : (h : Header) → 24 ≤ h.lower → h.flags < 8 → h.lower ≤ h.upper → h.upper ≤ h.special → h.special ≡ 8192 → is_sound_header h ≡ true
header_sound h from flags order within special = grind (arith, nat_tests)

-- a page with the rewritten page's bytes after the log position
pub sound_after : (page q : List ℕ) (fits : IsCompactable page) → is_sound_page page ≡ true → is_new_page page ≡ false → ((k : ℕ) → 8 ≤ k → get_or q k 0 ≡ get_or (rewritten_page page) k 0) → (is_sound_page q ≡ true) × (is_new_page q ≡ false)
unfolding is_sound_page is_new_page header_of new_byte
sound_after page q fits sound used same =
    let ends = new_ends page fits in
    let size = fits.size in
    let at : (k : ℕ) → 8 ≤ k → k < 8192 → get_or q k 0 ≡ new_byte page k = λ k from below. same k from ∙ byte_of page k (omega arith) in
    let small = flags_fit page (used_flags page sound used) in
    let flags : number_at 10 2 q ≡ new_flags page = two_bytes 10 (new_flags page) q (at 10 (omega arith) (omega arith)) (at 11 (omega arith) (omega arith)) (omega arith) in
    let lower : number_at 12 2 q ≡ new_lower page = two_bytes 12 (new_lower page) q (at 12 (omega arith) (omega arith)) (at 13 (omega arith) (omega arith)) (omega arith) in
    let upper : number_at 14 2 q ≡ new_upper page = two_bytes 14 (new_upper page) q (at 14 (omega arith) (omega arith)) (at 15 (omega arith) (omega arith)) (omega arith) in
    let special : number_at 16 2 q ≡ special_of page = same_two 16 q page (at 16 (omega arith) (omega arith)) (at 17 (omega arith) (omega arith)) in
    let special_is = fits.special in
    let header : is_sound_header (header_of q) ≡ true = header_sound (header_of q) (omega arith) (omega arith) (omega arith) (omega arith) (special ∙ special_is) in
    let not_new : is_new_page q ≡ false = elim (cases_Bool (is_new_page q)) [
      | inl new ↦ absurd (
          let low = zero_at q 14 new in
          let high = zero_at q 15 new in
          let none : number_at 14 2 q ≡ 0 = two_bytes 14 0 q low high (omega arith) in
          omega arith)
      | inr other ↦ other
    ] in
    (ap₂ (λ (a b : Bool). a || b) not_new header, not_new)

pub sound_itself : (page new : List ℕ) (fits : IsCompactable page) → is_sound_page page ≡ true → is_new_page page ≡ false → new ≡ rewritten_page page → (is_sound_page new ≡ true) × (is_new_page new ≡ false)
sound_itself page new fits sound used is = sound_after page new fits sound used (λ k from. ap (λ (l : List ℕ). get_or l k 0) is)

rewritten_size : (page : List ℕ) → length (rewritten_page page) ≡ length page
unfolding rewritten_page
rewritten_size page = length-map-range_with_len (new_byte page) 0 (length page)

pub rewritten_is_used : (page : List ℕ) → IsCompactable page → is_sound_page page ≡ true → is_new_page page ≡ false → IsUsedPage (rewritten_page page)
rewritten_is_used page fits sound used =
    let now = sound_itself page (rewritten_page page) fits sound used refl in
    record { size = rewritten_size page ∙ fits.size; sound = now.0; used = now.1 }

-- what becomes of a page, by the tests
pub outcome_skipped : (page : List ℕ) → is_skipped page ≡ true → Skipped ≡ rewrite_of page
unfolding rewrite_of
outcome_skipped page e = sym (ap (λ (b : Bool). cond b Skipped (cond (bytes_eq (rewritten_page page) page) Same (Changed (dead_count page)))) e)

pub outcome_same : (page xs ys new : List ℕ) (r : Bool) → is_skipped page ≡ false → new ≡ rewritten_page page → xs ≡ new → ys ≡ page → r ≡ bytes_eq xs ys → r ≡ true → Same ≡ rewrite_of page
unfolding rewrite_of
outcome_same page xs ys new r kept is left right test equal =
    let same : bytes_eq (rewritten_page page) page ≡ true = sym (ap₂ bytes_eq (left ∙ is) right) ∙ sym test ∙ equal in
    sym (ap₂ (λ (a b : Bool). cond a Skipped (cond b Same (Changed (dead_count page)))) kept same)

pub outcome_changed : (page xs ys new : List ℕ) (r : Bool) (dead : ℕ) → is_skipped page ≡ false → new ≡ rewritten_page page → xs ≡ new → ys ≡ page → r ≡ bytes_eq xs ys → r ≡ false → dead ≡ dead_count page → Changed dead ≡ rewrite_of page
unfolding rewrite_of
outcome_changed page xs ys new r dead kept is left right test differs dead_is =
    let other : bytes_eq (rewritten_page page) page ≡ false = sym (ap₂ bytes_eq (left ∙ is) right) ∙ sym test ∙ differs in
    ap Changed dead_is ∙ sym (ap₂ (λ (a b : Bool). cond a Skipped (cond b Same (Changed (dead_count page)))) kept other)

-- it is skipped where the tests say so, and the same where all bytes are
pub skipped_iff : (page : List ℕ) (r : Rewrite) → r ≡ rewrite_of page → (r ≡ Skipped) ↔ (is_skipped page ≡ true)
unfolding rewrite_of
skipped_iff page r is = elim (cases_Bool (is_skipped page)) [
  | inl skipped ↦ (λ e. skipped, λ e. is ∙ sym (outcome_skipped page skipped))
  | inr kept ↦ (λ e. absurd (is_kept page kept (bytes_eq (rewritten_page page) page) refl (sym e ∙ is)), λ e. absurd (false≢true (sym kept ∙ e)))
]
  where
    is_kept : (page : List ℕ) → is_skipped page ≡ false → (b : Bool) → bytes_eq (rewritten_page page) page ≡ b → Skipped ≡ rewrite_of page → ⊥
    is_kept page kept true equal e = let no : Skipped ≡ Same = e ∙ sym (outcome_same page (rewritten_page page) page (rewritten_page page) true kept refl refl refl (sym equal) refl) in cc
    is_kept page kept false differs e = let no : Skipped ≡ Changed (dead_count page) = e ∙ sym (outcome_changed page (rewritten_page page) page (rewritten_page page) false (dead_count page) kept refl refl refl (sym differs) refl refl) in cc

pub same_iff : (page : List ℕ) (r : Rewrite) → r ≡ rewrite_of page → (r ≡ Same) ↔ ((is_skipped page ≡ false) × (rewritten_page page ≡ page))
same_iff page r is = elim (cases_Bool (is_skipped page)) [
  | inl skipped ↦ (λ e. absurd (let no : Same ≡ Skipped = sym e ∙ is ∙ sym (outcome_skipped page skipped) in cc), λ e. absurd (false≢true (sym e.0 ∙ skipped)))
  | inr kept ↦ of_test kept (bytes_eq (rewritten_page page) page) refl
]
  where
    decides : Decides (bytes_eq (rewritten_page page) page) (rewritten_page page ≡ page)
    decides = bytes_eq-Decides (rewritten_page page) page

    of_test : is_skipped page ≡ false → (b : Bool) → bytes_eq (rewritten_page page) page ≡ b → (r ≡ Same) ↔ ((is_skipped page ≡ false) × (rewritten_page page ≡ page))
    of_test kept true equal = (λ e. (kept, decides.0 equal), λ e. is ∙ sym (outcome_same page (rewritten_page page) page (rewritten_page page) true kept refl refl refl (sym equal) refl))
    of_test kept false differs = (
      λ e. absurd (let no : Same ≡ Changed (dead_count page) = sym e ∙ is ∙ sym (outcome_changed page (rewritten_page page) page (rewritten_page page) false (dead_count page) kept refl refl refl (sym differs) refl refl) in cc),
      λ e. absurd (false≢true (sym differs ∙ decides.1 e.1)),
    )
