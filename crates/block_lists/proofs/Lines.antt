-- The lines of a text: those of a list are its blocks' lines, and joined they give the text back.
use Rattle.std.proofs.Common.{◌≡◌, ◌<◌, ◌+◌, ◌==◌, ℕ, suc, List, [], ◌∷◌, ◌++◌, All, length, get_or, drop, map, max, slice_index, decimal, if◌then◌else◌, refl, sym, ◌∙◌, ap, arith, append_assoc, add-one, lit<}
use Rattle.std.proofs.Common.{inl, inr, ne_eqb}
use Rattle.std.specs.List.{concat, onto_first}
use Rattle.std.proofs.lemmas.Bool.{cases_eq}
use Rattle.std.proofs.lemmas.List.{drop_more}
use Rattle.std.proofs.lemmas.List.Elements.{All-head, All-tail}
use Rattle.block_lists.specs.Lists.{AreBlockNumbers, block_line, lines_of, list_text}
use Rattle.block_lists.specs.Pieces.{Lacks}
use Rattle.block_lists.proofs.FirstNumber.{lacks-decimal}
use Rattle.block_lists.proofs.Blocks.{line-append, word}

-- what has no newline goes before the first line
through : (xs t line : List ℕ) (more : List (List ℕ)) → Lacks 10 xs → lines_of t ≡ line ∷ more → lines_of (xs ++ t) ≡ (xs ++ line) ∷ more
through [] t line more h e = e
through (x ∷ xs) t line more h e =
    rw (ne_eqb x 10 (h 0 (omega arith))) (ap (λ (ls : List (List ℕ)). onto_first x ls) (through xs t line more (λ k l. h (suc k) (omega arith)) e))

-- a number of a block's line, and the space after it
spaced : (b : List ℕ) → AreBlockNumbers b → (k : ℕ) → k < 5 → (t line : List ℕ) (more : List (List ℕ)) → lines_of t ≡ line ∷ more → lines_of (decimal (slice_index b k) ++ (32 ∷ t)) ≡ (decimal (slice_index b k) ++ (32 ∷ line)) ∷ more
spaced b good k below t line more e =
    through (decimal (slice_index b k)) (32 ∷ t) (32 ∷ line) more (lacks-decimal 10 (slice_index b k) (lit< tt) (word b good k below)) (ap (λ (ls : List (List ℕ)). onto_first 32 ls) e)

pub lines_of-line : (b rest : List ℕ) → AreBlockNumbers b → lines_of (block_line b ++ rest) ≡ block_line b ∷ lines_of rest
unfolding block_line
lines_of-line b rest good =
    ap lines_of (line-append b rest)
    ∙ spaced b good 0 (lit< tt) _ _ _ (spaced b good 1 (lit< tt) _ _ _ (spaced b good 2 (lit< tt) _ _ _ (spaced b good 3 (lit< tt) _ _ _
    (through (decimal (slice_index b 4)) (10 ∷ rest) (10 ∷ []) (lines_of rest) (lacks-decimal 10 (slice_index b 4) (lit< tt) (word b good 4 (lit< tt))) refl))))

pub lines_of-list : (blocks : List (List ℕ)) (rest : List ℕ) → All AreBlockNumbers blocks → lines_of (list_text blocks ++ rest) ≡ map block_line blocks ++ lines_of rest
lines_of-list [] rest good = refl
lines_of-list (b ∷ blocks) rest good =
    ap lines_of (append_assoc (block_line b) (list_text blocks) rest)
    ∙ lines_of-line b (list_text blocks ++ rest) (All-head AreBlockNumbers b blocks good)
    ∙ ap (λ (ls : List (List ℕ)). block_line b ∷ ls) (lines_of-list blocks rest (All-tail AreBlockNumbers b blocks good))

concat-onto_first : (x : ℕ) (ls : List (List ℕ)) → concat (onto_first x ls) ≡ x ∷ concat ls
concat-onto_first x [] = refl
concat-onto_first x (l ∷ ls) = refl

pub concat-lines_of : (t : List ℕ) → concat (lines_of t) ≡ t
concat-lines_of [] = refl
concat-lines_of (x ∷ t) =
    let rest : concat (lines_of t) ≡ t = concat-lines_of t in
    elim (cases_eq x 10) [
      | inl same ↦ rw same (ap (λ (l : List ℕ). 10 ∷ l) rest)
      | inr other ↦ rw (ne_eqb x 10 other) (concat-onto_first x (lines_of t) ∙ ap (λ (l : List ℕ). x ∷ l) rest)
    ]

-- a text that isn't empty has a first line
pub has_line : (t : List ℕ) (ls : List (List ℕ)) → concat ls ≡ t → 0 < length t → (line : List ℕ) × (more : List (List ℕ)) × (ls ≡ line ∷ more) × (t ≡ line ++ concat more)
has_line t [] e some = absurd (omega (arith, ap length e))
has_line t (l ∷ ls) e some = (l, ls, refl, sym e)

length-onto_first : (x : ℕ) (ls : List (List ℕ)) → length (onto_first x ls) ≡ max (length ls) 1
length-onto_first x [] = refl
length-onto_first x (l ∷ ls) = omega arith

-- one byte more at the front
length-lines_of : (x : ℕ) (t : List ℕ) → length (lines_of (x ∷ t)) ≡ (if x == 10 then length (lines_of t) + 1 else max (length (lines_of t)) 1)
length-lines_of x t = elim (cases_eq x 10) [
  | inl same ↦ rw same (sym (add-one (length (lines_of t))))
  | inr other ↦ rw (ne_eqb x 10 other) (length-onto_first x (lines_of t))
]

pub lines_from : (text : List ℕ) (place : ℕ) → place < length text → length (lines_of (drop place text)) ≡ (if get_or text place 0 == 10 then length (lines_of (drop (place + 1) text)) + 1 else max (length (lines_of (drop (place + 1) text))) 1)
lines_from text place within = ap (λ (t : List ℕ). length (lines_of t)) (drop_more text place 0 within) ∙ length-lines_of (get_or text place 0) (drop (place + 1) text)
