-- A page's log position is read back as it was set, and a page that is sound and not new stays so.
use Rattle.std.proofs.Common.{◌≡◌, ◌≢◌, ℕ, ◌+◌, ◌*◌, ◌/◌, ◌%◌, ◌^◌, ◌<◌, ◌≤◌, Bool, true, false, ◌||◌, eqb, List, [], ◌∷◌, ◌++◌, drop, length, get_or, refl, sym, ap, ap₂, ◌∙◌, subst, arith}
use Rattle.std.specs.List.{list_all}
use Rattle.std.proofs.lemmas.List.{get_or-drop}
use Rattle.std.proofs.lemmas.Bool.Decides.{nat_tests}
use Rattle.std.proofs.Math.Bool.{or-true}
use Rattle.byteorder.specs.Endian.{little_bytes}
use Rattle.byteorder.specs.Numbers.{little_number-reads_back}
use Rattle.page_layout.specs.declared.page.Header.{Header}
use Rattle.page_layout.specs.Fields.{header_of, lsn_of, with_lsn}
use Rattle.page_layout.specs.Soundness.{IsUsedPage, is_new_page, is_sound_header, is_sound_page}
use Rattle.page_layout.proofs.Sound.{zero_at}

pub lsn_of-with_lsn : (lsn : ℕ) (page : List ℕ) → lsn < 2 ^ 64 → lsn_of (with_lsn lsn page) ≡ lsn
unfolding lsn_of with_lsn
lsn_of-with_lsn lsn page fits =
    let high : lsn / 2 ^ 32 < 256 ^ 4 = omega arith in
    let low : lsn % 2 ^ 32 < 256 ^ 4 = omega arith in
    let whole : lsn / 2 ^ 32 * 2 ^ 32 + lsn % 2 ^ 32 ≡ lsn = omega arith in
    ap₂ (λ (h l : ℕ). h * 2 ^ 32 + l)
    (little_number-reads_back 4 (lsn / 2 ^ 32) (little_bytes 4 (lsn % 2 ^ 32) ++ drop 8 page) high)
    (little_number-reads_back 4 (lsn % 2 ^ 32) (drop 8 page) low)
    ∙ whole

-- a page begins with eight bytes
record Front (p : List ℕ) : Type 0 where
  pub a : ℕ
  pub b : ℕ
  pub c : ℕ
  pub d : ℕ
  pub e : ℕ
  pub f : ℕ
  pub g : ℕ
  pub h : ℕ
  pub rest : List ℕ
  pub is : p ≡ a ∷ b ∷ c ∷ d ∷ e ∷ f ∷ g ∷ h ∷ rest

front : (p : List ℕ) → 8 ≤ length p → Front p
front [] long = absurd (omega arith)
front (a ∷ []) long = absurd (omega arith)
front (a ∷ b ∷ []) long = absurd (omega arith)
front (a ∷ b ∷ c ∷ []) long = absurd (omega arith)
front (a ∷ b ∷ c ∷ d ∷ []) long = absurd (omega arith)
front (a ∷ b ∷ c ∷ d ∷ e ∷ []) long = absurd (omega arith)
front (a ∷ b ∷ c ∷ d ∷ e ∷ f ∷ []) long = absurd (omega arith)
front (a ∷ b ∷ c ∷ d ∷ e ∷ f ∷ g ∷ []) long = absurd (omega arith)
front (a ∷ b ∷ c ∷ d ∷ e ∷ f ∷ g ∷ h ∷ rest) long = record { a = a; b = b; c = c; d = d; e = e; f = f; g = g; h = h; rest = rest; is = refl }

-- four bytes of a number are those that it was read from
four_back : (a b c d : ℕ) → a < 256 → b < 256 → c < 256 → d < 256 → little_bytes 4 (a + 256 * (b + 256 * (c + 256 * (d + 256 * 0)))) ≡ a ∷ b ∷ c ∷ d ∷ []
four_back a b c d la lb lc ld = let n : ℕ = a + 256 * (b + 256 * (c + 256 * (d + 256 * 0))) in
    let ea : n % 256 ≡ a = omega arith in let eb : n / 256 ^ 1 % 256 ≡ b = omega arith in let ec : n / 256 ^ 2 % 256 ≡ c = omega arith in let ed : n / 256 ^ 3 % 256 ≡ d = omega arith in
    λ i. ea i ∷ eb i ∷ ec i ∷ ed i ∷ []

-- the position that the page has puts it back
pub restores : (lsn : ℕ) (p : List ℕ) → 8 ≤ length p → ((k : ℕ) → get_or p k 0 < 256) → with_lsn (lsn_of p) (with_lsn lsn p) ≡ p
unfolding lsn_of with_lsn
restores lsn p long small = let x = front p long in
    subst (λ (q : List ℕ). ((k : ℕ) → get_or q k 0 < 256) → with_lsn (lsn_of q) (with_lsn lsn q) ≡ q) (sym x.is) (λ low. eight x.a x.b x.c x.d x.e x.f x.g x.h x.rest (low 0) (low 1) (low 2) (low 3) (low 4) (low 5) (low 6) (low 7)) small
  where
    eight : (a b c d e f g h : ℕ) (rest : List ℕ) → a < 256 → b < 256 → c < 256 → d < 256 → e < 256 → f < 256 → g < 256 → h < 256 → with_lsn (lsn_of (a ∷ b ∷ c ∷ d ∷ e ∷ f ∷ g ∷ h ∷ rest)) (with_lsn lsn (a ∷ b ∷ c ∷ d ∷ e ∷ f ∷ g ∷ h ∷ rest)) ≡ a ∷ b ∷ c ∷ d ∷ e ∷ f ∷ g ∷ h ∷ rest
    eight a b c d e f g h rest la lb lc ld le lf lg lh =
        let high : ℕ = a + 256 * (b + 256 * (c + 256 * (d + 256 * 0))) in let low : ℕ = e + 256 * (f + 256 * (g + 256 * (h + 256 * 0))) in
        let small : low < 2 ^ 32 = omega arith in
        let up : (high * 2 ^ 32 + low) / 2 ^ 32 ≡ high = omega arith in let down : (high * 2 ^ 32 + low) % 2 ^ 32 ≡ low = omega arith in
        ap (λ (n : ℕ). (little_bytes 4 n ++ little_bytes 4 ((high * 2 ^ 32 + low) % 2 ^ 32)) ++ rest) up ∙ ap (λ (n : ℕ). (little_bytes 4 high ++ little_bytes 4 n) ++ rest) down
        ∙ ap (λ (l : List ℕ). (l ++ little_bytes 4 low) ++ rest) (four_back a b c d la lb lc ld) ∙ ap (λ (l : List ℕ). ((a ∷ b ∷ c ∷ d ∷ []) ++ l) ++ rest) (four_back e f g h le lf lg lh)

-- the header but for the position, and so whether the page is sound
pub same_header : (lsn : ℕ) (p : List ℕ) → 8 ≤ length p → is_sound_header (header_of (with_lsn lsn p)) ≡ is_sound_header (header_of p)
unfolding header_of lsn_of with_lsn
same_header lsn p long = let x = front p long in subst (λ (q : List ℕ). is_sound_header (header_of (with_lsn lsn q)) ≡ is_sound_header (header_of q)) (sym x.is) refl

pub length_with : (lsn : ℕ) (p : List ℕ) → 8 ≤ length p → length (with_lsn lsn p) ≡ length p
unfolding with_lsn
length_with lsn p long = let x = front p long in subst (λ (q : List ℕ). length (with_lsn lsn q) ≡ length q) (sym x.is) refl

pub sound_used : (new : Bool) (h : Bool) → (new || h) ≡ true → new ≡ false → h ≡ true
sound_used true h sound used = absurd (let no : true ≡ false = used in cc)
sound_used false h sound used = sound

upper_some : (h : Header) → is_sound_header h ≡ true → h.upper ≢ 0
upper_some h sound = grind (arith, nat_tests)

-- a page with a sound header isn't new
pub header_used : (p : List ℕ) → is_sound_header (header_of p) ≡ true → is_new_page p ≡ false
unfolding header_of is_new_page
header_used p sound = of_new (is_new_page p) refl
  where
    of_new : (b : Bool) → list_all (λ b. eqb b 0) p ≡ b → list_all (λ b. eqb b 0) p ≡ false
    of_new false e = e
    of_new true e = let low = get_or-drop 14 p 0 0 ∙ zero_at p 14 e in let high = get_or-drop 14 p 1 0 ∙ zero_at p 15 e in absurd (upper_some (header_of p) sound (omega (arith, low, high)))

pub sound_with : (lsn : ℕ) (p : List ℕ) → 8 ≤ length p → is_sound_page p ≡ true → is_new_page p ≡ false → is_sound_page (with_lsn lsn p) ≡ true
unfolding is_sound_page
sound_with lsn p long sound used = ap (λ (b : Bool). is_new_page (with_lsn lsn p) || b) (same_header lsn p long ∙ sound_used (is_new_page p) (is_sound_header (header_of p)) sound used) ∙ or-true (is_new_page (with_lsn lsn p))

pub used_with : (lsn : ℕ) (p : List ℕ) → 8 ≤ length p → is_sound_page p ≡ true → is_new_page p ≡ false → is_new_page (with_lsn lsn p) ≡ false
unfolding is_sound_page
used_with lsn p long sound used = header_used (with_lsn lsn p) (same_header lsn p long ∙ sound_used (is_new_page p) (is_sound_header (header_of p)) sound used)

pub stays_used : (lsn : ℕ) (p : List ℕ) → IsUsedPage p → IsUsedPage (with_lsn lsn p)
stays_used lsn p is =
    let size = is.size in
    let long : 8 ≤ length p = omega arith in
    record { size = length_with lsn p long ∙ size; sound = sound_with lsn p long is.sound is.used; used = used_with lsn p long is.sound is.used }

-- the last position that was set counts
pub with_lsn-with_lsn : (first second : ℕ) (p : List ℕ) → with_lsn second (with_lsn first p) ≡ with_lsn second p
unfolding with_lsn
with_lsn-with_lsn first second p = refl
