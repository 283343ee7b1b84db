-- Bytes in hexadecimal, two digits more at a time.
use Rattle.std.specs.Fmt.{digit_glyph, digits, digits_onto}
use Rattle.std.proofs.Common.{zero, suc, Bool, cond, eqb, eq-eqb, ne_eqb, true, false, ◌≡◌, ◌<◌, ◌≤◌, ◌+◌, ◌-◌, ◌*◌, ◌/◌, ◌%◌, ℕ, List, [], ◌∷◌, ◌++◌, length, get_or, set, take, refl, sym, ap, ◌∙◌, arith}
use Rattle.std.proofs.lemmas.List.{length-set, take_all, take_more_set}
use Rattle.page_layout.specs.Dump.{hex_digit, hex_of}
use Rattle.page_layout.proofs.Dumps.{hex_step}

-- two writes in a row, seen from the front
two_writes : (xs : List ℕ) (o x y : ℕ) → o + 1 < length xs → take (o + 2) (set (set xs o x) (o + 1) y) ≡ (take o xs ++ x ∷ []) ++ y ∷ []
two_writes xs o x y fits =
    let len : length (set xs o x) ≡ length xs = length-set xs o x in
    let two : o + 2 ≡ o + 1 + 1 = omega arith in
    let second = take_more_set (set xs o x) (o + 1) y (omega (arith, len)) in
    let first = take_more_set xs o x (omega arith) in
    ap (λ (n : ℕ). take n (set (set xs o x) (o + 1) y)) two ∙ second ∙ ap (λ (l : List ℕ). l ++ y ∷ []) first

-- one byte more is written
pub written_more : (bs out : List ℕ) (i x y : ℕ) → i < length bs → 2 * i + 1 < length out → x ≡ hex_digit (get_or bs i 0 / 16) → y ≡ hex_digit (get_or bs i 0 % 16) → take (2 * i) out ≡ hex_of (take i bs) → take (2 * (i + 1)) (set (set out (2 * i) x) (2 * i + 1) y) ≡ hex_of (take (i + 1) bs)
written_more bs out i x y below fits is_x is_y so_far =
    let two : 2 * (i + 1) ≡ 2 * i + 2 = omega arith in
    ap (λ (n : ℕ). take n (set (set out (2 * i) x) (2 * i + 1) y)) two
    ∙ two_writes out (2 * i) x y fits
    ∙ hex_step [] bs (take (2 * i) out) (take (2 * i) out ++ x ∷ []) ((take (2 * i) out ++ x ∷ []) ++ y ∷ []) i x y below so_far refl refl is_x is_y

-- all are written
pub written_all : (bs out : List ℕ) (i : ℕ) → length bs ≤ i → length out ≡ 2 * length bs → take (2 * i) out ≡ hex_of (take i bs) → out ≡ hex_of bs
written_all bs out i past len so_far =
    sym (take_all (2 * i) out (omega arith)) ∙ so_far ∙ ap hex_of (take_all i bs past)

-- digits before a text
pub digits_before : (k base : ℕ) (upper : Bool) (n : ℕ) (acc old : List ℕ) → digits_onto k base upper n (acc ++ old) ≡ digits_onto k base upper n acc ++ old
digits_before zero base upper n acc old = refl
digits_before (suc k) base upper n acc old = by (digits_before k base upper (n / base) (digit_glyph upper (n % base) ∷ acc) old) (eqb (n / base) 0)
  where
    by : digits_onto k base upper (n / base) ((digit_glyph upper (n % base) ∷ acc) ++ old) ≡ digits_onto k base upper (n / base) (digit_glyph upper (n % base) ∷ acc) ++ old → (b : Bool) → cond b (digit_glyph upper (n % base) ∷ (acc ++ old)) (digits_onto k base upper (n / base) (digit_glyph upper (n % base) ∷ (acc ++ old))) ≡ cond b (digit_glyph upper (n % base) ∷ acc) (digits_onto k base upper (n / base) (digit_glyph upper (n % base) ∷ acc)) ++ old
    by more true = refl
    by more false = more

-- the digits of a number, at most so many, before a text
unfoldable pub hex_onto : ℕ → ℕ → List ℕ → List ℕ
hex_onto k n old = digits_onto k 16 true n old

pub hex_start : (n : ℕ) (old : List ℕ) → hex_onto 64 n old ≡ digits 16 true n ++ old
unfolding hex_onto digits
hex_start n old = digits_before 64 16 true n [] old

pub hex_out : (n : ℕ) (old : List ℕ) → hex_onto 0 n old ≡ old
unfolding hex_onto
hex_out n old = refl

spelled : (k n : ℕ) (old : List ℕ) (t : Bool) → eqb (n / 16) 0 ≡ t → hex_onto (suc k) n old ≡ cond t (digit_glyph true (n % 16) ∷ old) (hex_onto k (n / 16) (digit_glyph true (n % 16) ∷ old))
unfolding hex_onto
spelled k n old t e = ap (λ (b : Bool). cond b (digit_glyph true (n % 16) ∷ old) (digits_onto k 16 true (n / 16) (digit_glyph true (n % 16) ∷ old))) e

-- the last digit to be written is put before it
pub hex_last : (k n digit : ℕ) (old : List ℕ) → 0 < k → n / 16 ≡ 0 → digit ≡ digit_glyph true (n % 16) → hex_onto k n old ≡ digit ∷ old
hex_last zero n digit old positive none is = absurd (omega arith)
hex_last (suc k) n digit old positive none is = spelled k n old true (eq-eqb _ 0 none) ∙ ap (λ (d : ℕ). d ∷ old) (sym is)

-- a digit is put before it, and others are left
pub hex_more : (k n digit : ℕ) (old : List ℕ) → 0 < k → (n / 16 ≡ 0 → ⊥) → digit ≡ digit_glyph true (n % 16) → hex_onto k n old ≡ hex_onto (k - 1) (n / 16) (digit ∷ old)
hex_more zero n digit old positive some is = absurd (omega arith)
hex_more (suc k) n digit old positive some is = spelled k n old false (ne_eqb _ 0 some) ∙ ap (λ (d : ℕ). hex_onto k (n / 16) (d ∷ old)) (sym is) ∙ ap (λ (j : ℕ). hex_onto j (n / 16) (digit ∷ old)) {x = k} {y = suc k - 1} (omega arith)
