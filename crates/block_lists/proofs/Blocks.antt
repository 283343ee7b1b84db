-- The line of a block, number by number: a text begins with one block's line at most.
use Rattle.std.proofs.Common.{◌≡◌, ◌<◌, ◌≤◌, ◌^◌, ℕ, List, [], ◌∷◌, ◌++◌, length, slice_index, decimal, refl, sym, ◌∙◌, ap, arith, append_assoc, length-append, lit<}
use Rattle.std.proofs.lemmas.Fmt.{length-decimal-le}
use Rattle.std.proofs.lemmas.List.Elements.{All-cons, All-get_or, All-nil}
use Rattle.block_lists.specs.Lists.{AreBlockNumbers, block_line}
use Rattle.block_lists.specs.Pieces.{BeginsWithNoBlock, BeginsWithNoNumber, IsBlockAndRest, IsNumberAndRest}
use Rattle.block_lists.proofs.FirstNumber.{one_number}

-- a line from one of its numbers on, and a rest
abbrev pub from_block : List ℕ → List ℕ → List ℕ
from_block b rest = decimal (slice_index b 4) ++ (10 ∷ rest)

abbrev pub from_fork : List ℕ → List ℕ → List ℕ
from_fork b rest = decimal (slice_index b 3) ++ (32 ∷ from_block b rest)

abbrev pub from_relation : List ℕ → List ℕ → List ℕ
from_relation b rest = decimal (slice_index b 2) ++ (32 ∷ from_fork b rest)

abbrev pub from_database : List ℕ → List ℕ → List ℕ
from_database b rest = decimal (slice_index b 1) ++ (32 ∷ from_relation b rest)

abbrev pub from_tablespace : List ℕ → List ℕ → List ℕ
from_tablespace b rest = decimal (slice_index b 0) ++ (32 ∷ from_database b rest)

pub line-append : (b rest : List ℕ) → block_line b ++ rest ≡ from_tablespace b rest
unfolding block_line
line-append b rest = simp append_assoc

pub word : (b : List ℕ) → AreBlockNumbers b → (k : ℕ) → k < 5 → slice_index b k < 2 ^ 32
word b good k below = All-get_or (λ (n : ℕ). n < 2 ^ 32) b k 0 (omega (arith, good.five)) good.words

pub five_numbers : (b : List ℕ) → length b ≡ 5 → b ≡ slice_index b 0 ∷ (slice_index b 1 ∷ (slice_index b 2 ∷ (slice_index b 3 ∷ (slice_index b 4 ∷ []))))
five_numbers [] h = absurd (omega arith)
five_numbers (a ∷ []) h = absurd (omega arith)
five_numbers (a ∷ b ∷ []) h = absurd (omega arith)
five_numbers (a ∷ b ∷ c ∷ []) h = absurd (omega arith)
five_numbers (a ∷ b ∷ c ∷ d ∷ []) h = absurd (omega arith)
five_numbers (a ∷ b ∷ c ∷ d ∷ e ∷ []) h = refl
five_numbers (a ∷ b ∷ c ∷ d ∷ e ∷ f ∷ rest) h = absurd (omega arith)

-- the numbers of a literal
pub are_numbers : (a b c d e : ℕ) → a < 2 ^ 32 → b < 2 ^ 32 → c < 2 ^ 32 → d ≤ 3 → e ≤ 4294967294 → AreBlockNumbers (a ∷ b ∷ c ∷ d ∷ e ∷ [])
are_numbers a b c d e p q r s t =
    let Small : ℕ → Type 0 = λ n. n < 2 ^ 32 in
    record {
      five = refl;
      words = All-cons Small a (b ∷ c ∷ d ∷ e ∷ []) p (All-cons Small b (c ∷ d ∷ e ∷ []) q (All-cons Small c (d ∷ e ∷ []) r (All-cons Small d (e ∷ []) (omega arith) (All-cons Small e [] (omega arith) (All-nil Small)))));
      fork = s;
      valid = t;
    }

-- after each number that was found, what a block's line has there
pub reach1 : {t t1 : List ℕ} {n0 : ℕ} → IsNumberAndRest 32 t n0 t1 → (b rest : List ℕ) → AreBlockNumbers b → t ≡ block_line b ++ rest → (n0 ≡ slice_index b 0) × (t1 ≡ from_database b rest)
reach1 f0 b rest good same = one_number (lit< tt) f0 (slice_index b 0) (from_database b rest) (word b good 0 (lit< tt)) (same ∙ line-append b rest)

pub reach2 : {t t1 t2 : List ℕ} {n0 n1 : ℕ} → IsNumberAndRest 32 t n0 t1 → IsNumberAndRest 32 t1 n1 t2 → (b rest : List ℕ) → AreBlockNumbers b → t ≡ block_line b ++ rest → (n1 ≡ slice_index b 1) × (t2 ≡ from_relation b rest)
reach2 f0 f1 b rest good same = one_number (lit< tt) f1 (slice_index b 1) (from_relation b rest) (word b good 1 (lit< tt)) (reach1 f0 b rest good same).1

pub reach3 : {t t1 t2 t3 : List ℕ} {n0 n1 n2 : ℕ} → IsNumberAndRest 32 t n0 t1 → IsNumberAndRest 32 t1 n1 t2 → IsNumberAndRest 32 t2 n2 t3 → (b rest : List ℕ) → AreBlockNumbers b → t ≡ block_line b ++ rest → (n2 ≡ slice_index b 2) × (t3 ≡ from_fork b rest)
reach3 f0 f1 f2 b rest good same = one_number (lit< tt) f2 (slice_index b 2) (from_fork b rest) (word b good 2 (lit< tt)) (reach2 f0 f1 b rest good same).1

pub reach4 : {t t1 t2 t3 t4 : List ℕ} {n0 n1 n2 n3 : ℕ} → IsNumberAndRest 32 t n0 t1 → IsNumberAndRest 32 t1 n1 t2 → IsNumberAndRest 32 t2 n2 t3 → IsNumberAndRest 32 t3 n3 t4 → (b rest : List ℕ) → AreBlockNumbers b → t ≡ block_line b ++ rest → (n3 ≡ slice_index b 3) × (t4 ≡ from_block b rest)
reach4 f0 f1 f2 f3 b rest good same = one_number (lit< tt) f3 (slice_index b 3) (from_block b rest) (word b good 3 (lit< tt)) (reach3 f0 f1 f2 b rest good same).1

pub reach5 : {t t1 t2 t3 t4 t5 : List ℕ} {n0 n1 n2 n3 n4 : ℕ} → IsNumberAndRest 32 t n0 t1 → IsNumberAndRest 32 t1 n1 t2 → IsNumberAndRest 32 t2 n2 t3 → IsNumberAndRest 32 t3 n3 t4 → IsNumberAndRest 10 t4 n4 t5 → (b rest : List ℕ) → AreBlockNumbers b → t ≡ block_line b ++ rest → (n4 ≡ slice_index b 4) × (t5 ≡ rest)
reach5 f0 f1 f2 f3 f4 b rest good same = one_number (lit< tt) f4 (slice_index b 4) rest (word b good 4 (lit< tt)) (reach4 f0 f1 f2 f3 b rest good same).1

-- a number that isn't there
pub none0 : {t : List ℕ} → BeginsWithNoNumber 32 t → BeginsWithNoBlock t
none0 none = λ b rest good same. none (slice_index b 0) (from_database b rest) (word b good 0 (lit< tt)) (same ∙ line-append b rest)

pub none1 : {t t1 : List ℕ} {n0 : ℕ} → IsNumberAndRest 32 t n0 t1 → BeginsWithNoNumber 32 t1 → BeginsWithNoBlock t
none1 f0 none = λ b rest good same. none (slice_index b 1) (from_relation b rest) (word b good 1 (lit< tt)) (reach1 f0 b rest good same).1

pub none2 : {t t1 t2 : List ℕ} {n0 n1 : ℕ} → IsNumberAndRest 32 t n0 t1 → IsNumberAndRest 32 t1 n1 t2 → BeginsWithNoNumber 32 t2 → BeginsWithNoBlock t
none2 f0 f1 none = λ b rest good same. none (slice_index b 2) (from_fork b rest) (word b good 2 (lit< tt)) (reach2 f0 f1 b rest good same).1

pub none3 : {t t1 t2 t3 : List ℕ} {n0 n1 n2 : ℕ} → IsNumberAndRest 32 t n0 t1 → IsNumberAndRest 32 t1 n1 t2 → IsNumberAndRest 32 t2 n2 t3 → BeginsWithNoNumber 32 t3 → BeginsWithNoBlock t
none3 f0 f1 f2 none = λ b rest good same. none (slice_index b 3) (from_block b rest) (word b good 3 (lit< tt)) (reach3 f0 f1 f2 b rest good same).1

pub none4 : {t t1 t2 t3 t4 : List ℕ} {n0 n1 n2 n3 : ℕ} → IsNumberAndRest 32 t n0 t1 → IsNumberAndRest 32 t1 n1 t2 → IsNumberAndRest 32 t2 n2 t3 → IsNumberAndRest 32 t3 n3 t4 → BeginsWithNoNumber 10 t4 → BeginsWithNoBlock t
none4 f0 f1 f2 f3 none = λ b rest good same. none (slice_index b 4) rest (word b good 4 (lit< tt)) (reach4 f0 f1 f2 f3 b rest good same).1

-- five numbers that are no block's
pub none5 : {t t1 t2 t3 t4 t5 : List ℕ} {n0 n1 n2 n3 n4 : ℕ} → IsNumberAndRest 32 t n0 t1 → IsNumberAndRest 32 t1 n1 t2 → IsNumberAndRest 32 t2 n2 t3 → IsNumberAndRest 32 t3 n3 t4 → IsNumberAndRest 10 t4 n4 t5 → (n3 ≤ 3 → n4 ≤ 4294967294 → ⊥) → BeginsWithNoBlock t
none5 f0 f1 f2 f3 f4 bad = λ b rest good same.
    let fork = (reach4 f0 f1 f2 f3 b rest good same).0 in
    let block = (reach5 f0 f1 f2 f3 f4 b rest good same).0 in
    bad (omega (arith, fork, good.fork)) (omega (arith, block, good.valid))

-- five numbers that are a block's
pub block_there : {t t1 t2 t3 t4 t5 : List ℕ} {n0 n1 n2 n3 n4 : ℕ} → IsNumberAndRest 32 t n0 t1 → IsNumberAndRest 32 t1 n1 t2 → IsNumberAndRest 32 t2 n2 t3 → IsNumberAndRest 32 t3 n3 t4 → IsNumberAndRest 10 t4 n4 t5 → n3 ≤ 3 → n4 ≤ 4294967294 → IsBlockAndRest t (n0 ∷ n1 ∷ n2 ∷ n3 ∷ n4 ∷ []) t5
block_there {t5 = t5} {n0 = n0} {n1 = n1} {n2 = n2} {n3 = n3} {n4 = n4} f0 f1 f2 f3 f4 fork valid =
    let a = f3.spelled ∙ ap (λ (t : List ℕ). decimal n3 ++ (32 ∷ t)) f4.spelled in
    let b = f2.spelled ∙ ap (λ (t : List ℕ). decimal n2 ++ (32 ∷ t)) a in
    let c = f1.spelled ∙ ap (λ (t : List ℕ). decimal n1 ++ (32 ∷ t)) b in
    let d = f0.spelled ∙ ap (λ (t : List ℕ). decimal n0 ++ (32 ∷ t)) c in
    record {
      good = are_numbers n0 n1 n2 n3 n4 f0.small f1.small f2.small fork valid;
      spelled = d ∙ sym (line-append (n0 ∷ n1 ∷ n2 ∷ n3 ∷ n4 ∷ []) t5);
    }

-- a number of a block's line
number_here : (end : ℕ) (b : List ℕ) → AreBlockNumbers b → (k : ℕ) → k < 5 → (rest : List ℕ) → IsNumberAndRest end (decimal (slice_index b k) ++ (end ∷ rest)) (slice_index b k) rest
number_here end b good k below rest = record { small = word b good k below; spelled = refl }

-- a text that begins with the lines of two blocks begins with one block's
pub same_block : (a b x y : List ℕ) → AreBlockNumbers a → AreBlockNumbers b → block_line a ++ x ≡ block_line b ++ y → (a ≡ b) × (x ≡ y)
same_block a b x y g h e =
    let f0 = number_here 32 a g 0 (lit< tt) (from_database a x) in
    let f1 = number_here 32 a g 1 (lit< tt) (from_relation a x) in
    let f2 = number_here 32 a g 2 (lit< tt) (from_fork a x) in
    let f3 = number_here 32 a g 3 (lit< tt) (from_block a x) in
    let f4 = number_here 10 a g 4 (lit< tt) x in
    let whole : from_tablespace a x ≡ block_line b ++ y = sym (line-append a x) ∙ e in
    let n0 : slice_index a 0 ≡ slice_index b 0 = (reach1 f0 b y h whole).0 in
    let n1 : slice_index a 1 ≡ slice_index b 1 = (reach2 f0 f1 b y h whole).0 in
    let n2 : slice_index a 2 ≡ slice_index b 2 = (reach3 f0 f1 f2 b y h whole).0 in
    let n3 : slice_index a 3 ≡ slice_index b 3 = (reach4 f0 f1 f2 f3 b y h whole).0 in
    let last : (slice_index a 4 ≡ slice_index b 4) × (x ≡ y) = reach5 f0 f1 f2 f3 f4 b y h whole in
    (cc (five_numbers a g.five, five_numbers b h.five, n0, n1, n2, n3, last.0), last.1)

pub line_long : (b : List ℕ) → 0 < length (block_line b)
unfolding block_line
line_long b = simp length-append (omega arith)

pub line_short : (b : List ℕ) → AreBlockNumbers b → length (block_line b) ≤ 46
unfolding block_line
line_short b good =
    let d0 = length-decimal-le 10 (slice_index b 0) (lit< tt) (omega (arith, word b good 0 (lit< tt))) (omega (arith, word b good 0 (lit< tt))) in
    let d1 = length-decimal-le 10 (slice_index b 1) (lit< tt) (omega (arith, word b good 1 (lit< tt))) (omega (arith, word b good 1 (lit< tt))) in
    let d2 = length-decimal-le 10 (slice_index b 2) (lit< tt) (omega (arith, word b good 2 (lit< tt))) (omega (arith, word b good 2 (lit< tt))) in
    let d3 = length-decimal-le 1 (slice_index b 3) (lit< tt) (omega (arith, good.fork)) (omega (arith, good.fork)) in
    let d4 = length-decimal-le 10 (slice_index b 4) (lit< tt) (omega (arith, good.valid)) (omega (arith, good.valid)) in
    simp length-append (omega (arith, d0, d1, d2, d3, d4))

pub shorter : (b rest after : List ℕ) → rest ≡ block_line b ++ after → length after < length rest
shorter b rest after is = omega (arith, line_long b, ap length is ∙ length-append (block_line b) after)
