-- The blocks of a text: what reading one more gives, which line is the first bad one, that a text is one list at most.
use Rattle.std.proofs.Common.{◌≡◌, ◌<◌, ◌≤◌, ◌+◌, ◌-◌, ◌*◌, ℕ, List, [], ◌∷◌, ◌++◌, All, IfErr, IfOk, Result, Ok, Err, length, get_or, map, refl, sym, ◌∙◌, ap, arith, append_assoc, append-nil, length-append}
use Rattle.std.specs.List.{concat}
use Rattle.std.proofs.lemmas.List.{get_or-map, get_or_append_left, get_or_at, length-map}
use Rattle.std.proofs.lemmas.List.Concat.{flat_map-append}
use Rattle.std.proofs.lemmas.List.Elements.{All-get_or, All-head, All-tail}
use Rattle.block_lists.specs.declared.reading.ListError.{ListError}
use Rattle.block_lists.specs.declared.reading.ListError.TheVariants.{BadLine, TooMany, Memory}
use Rattle.block_lists.specs.Lists.{AreBlockNumbers, IsFirstBad, IsListOf, IsRefusalOf, block_line, lines_of, list_text}
use Rattle.block_lists.specs.Pieces.{BeginsWithNoBlock, IsBlockAndRest}
use Rattle.block_lists.proofs.Blocks.{line_long, line_short, same_block}
use Rattle.block_lists.proofs.Lines.{concat-lines_of, has_line, lines_of-list}

pub list_text-push : (blocks : List (List ℕ)) (block : List ℕ) → list_text (blocks ++ (block ∷ [])) ≡ list_text blocks ++ block_line block
list_text-push blocks block = flat_map-append block_line blocks (block ∷ []) ∙ ap (λ (l : List ℕ). list_text blocks ++ l) (append-nil (block_line block))

-- one block more is read
pub one_more : (blocks : List (List ℕ)) (text : List ℕ) {block rest after : List ℕ} → text ≡ list_text blocks ++ rest → IsBlockAndRest rest block after → text ≡ list_text (blocks ++ (block ∷ [])) ++ after
one_more blocks text {block = block} {rest = rest} {after = after} read found =
    read ∙ ap (λ (r : List ℕ). list_text blocks ++ r) found.spelled
    ∙ sym (append_assoc (list_text blocks) (block_line block) after)
    ∙ ap (λ (t : List ℕ). t ++ after) (sym (list_text-push blocks block))

lines_read : (blocks : List (List ℕ)) (text rest : List ℕ) → All AreBlockNumbers blocks → text ≡ list_text blocks ++ rest → lines_of text ≡ map block_line blocks ++ lines_of rest
lines_read blocks text rest good read = ap lines_of read ∙ lines_of-list blocks rest good

-- no more blocks than lines
pub blocks_few : (blocks : List (List ℕ)) (text rest : List ℕ) → All AreBlockNumbers blocks → text ≡ list_text blocks ++ rest → length blocks ≤ length (lines_of text)
blocks_few blocks text rest good read =
    omega (arith, ap length (lines_read blocks text rest good read) ∙ length-append (map block_line blocks) (lines_of rest), length-map blocks block_line)

-- the first line of the rest is the first bad one, if the rest begins with no block's
pub first_bad : (blocks : List (List ℕ)) (text rest : List ℕ) → All AreBlockNumbers blocks → text ≡ list_text blocks ++ rest → 0 < length rest → BeginsWithNoBlock rest → (n : ℕ) → n ≡ length blocks + 1 → IsFirstBad (lines_of text) n
first_bad blocks text rest good read some none n is =
    let all : lines_of text ≡ map block_line blocks ++ lines_of rest = lines_read blocks text rest good read in
    let next = has_line rest (lines_of rest) (concat-lines_of rest) some in
    let count : length (map block_line blocks) ≡ length blocks = length-map blocks block_line in
    let lines : lines_of text ≡ map block_line blocks ++ (next.0 ∷ next.1) = all ∙ ap (λ (ls : List (List ℕ)). map block_line blocks ++ ls) next.2 in
    let size : length (lines_of text) ≡ length (map block_line blocks) + length (next.0 ∷ next.1) = ap length lines ∙ length-append (map block_line blocks) (next.0 ∷ next.1) in
    let here : get_or (lines_of text) (n - 1) [] ≡ next.0 = ap (λ (ls : List (List ℕ)). get_or ls (n - 1) []) lines ∙ get_or_at (map block_line blocks) next.0 next.1 [] (n - 1) (omega arith) in
    record {
      counted = omega arith;
      within = omega arith;
      bad = λ line. none line.0 (concat next.1) line.1 (next.3 ∙ ap (λ (l : List ℕ). l ++ concat next.1) (sym here ∙ line.2));
      earlier = λ k below.
          let under : k < length blocks = omega arith in
          let inside : k < length (map block_line blocks) = omega arith in (
            get_or blocks k [],
            All-get_or AreBlockNumbers blocks k [] under good,
            ap (λ (ls : List (List ℕ)). get_or ls k []) all ∙ get_or_append_left (map block_line blocks) (lines_of rest) [] k inside ∙ get_or-map block_line blocks k [] [] under,
          );
    }

lines_listed : {text : List ℕ} {blocks : List (List ℕ)} → IsListOf text blocks → lines_of text ≡ map block_line blocks
lines_listed {text = text} {blocks = blocks} list =
    lines_read blocks text [] list.good (list.written ∙ sym (append-nil (list_text blocks))) ∙ append-nil (map block_line blocks)

-- a list isn't refused, but for memory
pub not_refused : {text : List ℕ} {blocks : List (List ℕ)} → IsListOf text blocks → {V : Type 0} (r : Result V ListError) → IfErr r (IsRefusalOf text) → IfErr r (λ error. error ≡ Memory)
not_refused list (Ok v) refused = tt
not_refused {text = text} {blocks = blocks} list (Err (BadLine line)) refused =
    let all : lines_of text ≡ map block_line blocks = lines_listed list in
    let count : length (lines_of text) ≡ length blocks = ap length all ∙ length-map blocks block_line in
    let counted : 1 ≤ line = refused.1.counted in
    let within : line ≤ length (lines_of text) = refused.1.within in
    let under : line - 1 < length blocks = omega arith in
    absurd (refused.1.bad (
      get_or blocks (line - 1) [],
      All-get_or AreBlockNumbers blocks (line - 1) [] under list.good,
      ap (λ (ls : List (List ℕ)). get_or ls (line - 1) []) all ∙ get_or-map block_line blocks (line - 1) [] [] under,
    ))
not_refused {text = text} {blocks = blocks} list (Err TooMany) refused =
    let count : length (lines_of text) ≡ length blocks = ap length (lines_listed list) ∙ length-map blocks block_line in
    absurd (omega (arith, list.few, refused))
not_refused list (Err Memory) refused = refl

same_list : (blocks others : List (List ℕ)) → All AreBlockNumbers blocks → All AreBlockNumbers others → list_text blocks ≡ list_text others → blocks ≡ others
same_list [] [] g h e = refl
same_list [] (b ∷ others) g h e = absurd (omega (arith, line_long b, ap length e ∙ length-append (block_line b) (list_text others)))
same_list (a ∷ blocks) [] g h e = absurd (omega (arith, line_long a, sym (length-append (block_line a) (list_text blocks)) ∙ ap length e))
same_list (a ∷ blocks) (b ∷ others) g h e =
    let first : (a ≡ b) × (list_text blocks ≡ list_text others) = same_block a b (list_text blocks) (list_text others) (All-head AreBlockNumbers a blocks g) (All-head AreBlockNumbers b others h) e in
    let rest : blocks ≡ others = same_list blocks others (All-tail AreBlockNumbers a blocks g) (All-tail AreBlockNumbers b others h) first.1 in
    cc (first.0, rest)

-- the list that a text is, is what was read from it
pub read_back : {text : List ℕ} {blocks : List (List ℕ)} → IsListOf text blocks → {V E : Type 0} (items : V → List (List ℕ)) (r : Result V E) → IfOk r (λ v. IsListOf text (items v)) → IfOk r (λ v. items v ≡ blocks)
read_back {text = text} {blocks = blocks} list items (Ok v) read = same_list (items v) blocks read.good list.good (sym read.written ∙ list.written)
read_back list items (Err e) read = tt

list_short : (blocks : List (List ℕ)) → All AreBlockNumbers blocks → length (list_text blocks) ≤ 46 * length blocks
list_short [] good = omega arith
list_short (b ∷ blocks) good =
    let line : length (block_line b) ≤ 46 = line_short b (All-head AreBlockNumbers b blocks good) in
    let rest : length (list_text blocks) ≤ 46 * length blocks = list_short blocks (All-tail AreBlockNumbers b blocks good) in
    omega (arith, length-append (block_line b) (list_text blocks))

pub text_short : (text : List ℕ) (blocks : List (List ℕ)) → IsListOf text blocks → length text ≤ 3014656
text_short text blocks list = omega (arith, list.few, list_short blocks list.good, ap length list.written)
