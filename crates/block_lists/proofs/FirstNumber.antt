-- A number at the beginning of a text is one, and so is what follows it: digits don't have the byte that ends them.
use Rattle.std.proofs.Common.{Option, Some, None, IfNone, ◌≡◌, ◌<◌, ◌≤◌, ◌+◌, ◌^◌, ℕ, suc, List, [], ◌∷◌, ◌++◌, length, get_or, take, drop, decimal, refl, sym, ◌∙◌, ap, arith, length-append, length-take, take-append-drop, get_or-take}
use Rattle.std.proofs.lemmas.List.{drop_more, get_or_at}
use Rattle.std.proofs.lemmas.Fmt.{decimal_injective, decimal_is_IsNumeral}
use Rattle.std.proofs.lemmas.Str.Parse.{digit_at}
use Rattle.block_lists.specs.Pieces.{BeginsWithNoNumber, IsFirstPlace, IsNoNumber, IsNumberAndRest, Lacks}

-- two texts that are one, cut at the first byte of a kind
pub split_one : (byte : ℕ) (xs ys x y : List ℕ) → Lacks byte xs → Lacks byte ys → xs ++ (byte ∷ x) ≡ ys ++ (byte ∷ y) → (xs ≡ ys) × (x ≡ y)
split_one byte [] [] x y g h e = let same : byte ∷ x ≡ byte ∷ y = e in (refl, cc)
split_one byte [] (b ∷ ys) x y g h e =
    let whole : byte ∷ x ≡ b ∷ (ys ++ (byte ∷ y)) = e in
    let same : b ≡ byte = cc in
    absurd (h 0 (omega arith) same)
split_one byte (a ∷ xs) [] x y g h e =
    let whole : a ∷ (xs ++ (byte ∷ x)) ≡ byte ∷ y = e in
    let same : a ≡ byte = cc in
    absurd (g 0 (omega arith) same)
split_one byte (a ∷ xs) (b ∷ ys) x y g h e =
    let whole : a ∷ (xs ++ (byte ∷ x)) ≡ b ∷ (ys ++ (byte ∷ y)) = e in
    let head : a ≡ b = cc in
    let tail : xs ++ (byte ∷ x) ≡ ys ++ (byte ∷ y) = cc in
    let rest : (xs ≡ ys) × (x ≡ y) = split_one byte xs ys x y (λ k l. g (suc k) (omega arith)) (λ k l. h (suc k) (omega arith)) tail in
    (cc (head, rest.0), rest.1)

pub lacks-decimal : (byte n : ℕ) → byte < 48 → n < 2 ^ 32 → Lacks byte (decimal n)
lacks-decimal byte n low small = λ k within same.
    let fits : n < 2 ^ 64 = omega arith in
    let digit = digit_at (decimal n) k (decimal_is_IsNumeral n fits).0.1 within in
    omega (arith, digit.0, same)

pub one_number : {end : ℕ} {text x : List ℕ} {n : ℕ} → end < 48 → IsNumberAndRest end text n x → (m : ℕ) (y : List ℕ) → m < 2 ^ 32 → text ≡ decimal m ++ (end ∷ y) → (n ≡ m) × (x ≡ y)
one_number {end = end} {text = text} {x = x} {n = n} low found m y small same =
    let parts : (decimal n ≡ decimal m) × (x ≡ y) = split_one end (decimal n) (decimal m) x y (lacks-decimal end n low found.small) (lacks-decimal end m low small) (sym found.spelled ∙ same) in
    let fits : n < 2 ^ 64 = omega (arith, found.small) in
    (decimal_injective n m fits (omega arith) parts.0, parts.1)

-- a text is what stands before a place, the byte there, and what follows
pub cut_at : {byte : ℕ} {text : List ℕ} {place : ℕ} → IsFirstPlace byte text place → text ≡ take place text ++ (byte ∷ drop (place + 1) text)
cut_at {byte = byte} {text = text} {place = place} first =
    sym (take-append-drop place text) ∙ ap (λ (rest : List ℕ). take place text ++ rest) (drop_more text place 0 first.within ∙ ap (λ (b : ℕ). b ∷ drop (place + 1) text) first.here)

pub lacks-take : {byte : ℕ} {text : List ℕ} {place : ℕ} → IsFirstPlace byte text place → Lacks byte (take place text)
lacks-take {byte = byte} {text = text} {place = place} first = λ k within same.
    let short : length (take place text) ≤ place = simp length-take (omega arith) in
    let below : k < place = omega arith in
    first.before k below (sym (get_or-take place text k 0 below) ∙ same)

-- no number is there, if the bytes before the first place of the byte that ends it are none
pub none_there : {end : ℕ} {text : List ℕ} {place : ℕ} → end < 48 → IsFirstPlace end text place → (digits : List ℕ) → digits ≡ take place text → IsNoNumber digits → BeginsWithNoNumber end text
none_there {end = end} {text = text} {place = place} low first digits before none = λ number rest small same.
    let parts : (take place text ≡ decimal number) × (drop (place + 1) text ≡ rest) = split_one end (take place text) (decimal number) (drop (place + 1) text) rest (lacks-take first) (lacks-decimal end number low small) (sym (cut_at first) ∙ same) in
    none number small (before ∙ parts.0)

pub none_without : (end : ℕ) (text : List ℕ) → Lacks end text → BeginsWithNoNumber end text
none_without end text lacks = λ number rest small same.
    let whole : length text ≡ length (decimal number) + length (end ∷ rest) = ap length same ∙ length-append (decimal number) (end ∷ rest) in
    let within : length (decimal number) < length text = omega arith in
    lacks (length (decimal number)) within (ap (λ (t : List ℕ). get_or t (length (decimal number)) 0) same ∙ get_or_at (decimal number) end rest 0 (length (decimal number)) refl)

-- what a call says if it answers nothing
pub if_none : {T : Type 0} (o : Option T) {P : Type 0} → P → IfNone o P
if_none None p = p
if_none (Some x) p = tt
