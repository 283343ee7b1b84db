-- What is put into segments is read back from them.
use Rattle.std.proofs.Common.{◌≡◌, ℕ, zero, suc, ◌+◌, ◌-◌, ◌*◌, ◌/◌, ◌<◌, ◌≤◌, List, [], ◌∷◌, ◌++◌, length, take, drop, map, refl, sym, ◌∙◌, ap, ap₂, inl, inr, arith, append_assoc}
use Rattle.std.specs.Prelude.{All}
use Rattle.std.proofs.Math.Seq.{take-append_seam, drop-append_seam}
use Rattle.std.proofs.lemmas.Bool.{cases_lt, lt-ltb, le-ltb}
use Rattle.std.proofs.lemmas.List.{length-append, length-drop, length-take, drop-drop, take_all}
use Rattle.std.proofs.lemmas.List.Elements.{All-take, All-drop}
use Rattle.std.proofs.lemmas.List.FromFn.{length-map-range_with_len}
use Rattle.std.specs.List.{concat, range_with_len}
use Rattle.segment_store.specs.Relation.{block_at, segment_pages, first_blocks}
use Rattle.segment_store.specs.Restored.{restored, with_pages}
use Rattle.segment_store.specs.ReadBack.{ReadsBack}

-- the block after so many is that of the bytes after the first block
block_after : (bytes : List ℕ) (place : ℕ) → block_at bytes (place + 1) ≡ block_at (drop 8192 bytes) place
unfolding block_at
block_after bytes place =
    let at : 8192 * (place + 1) ≡ 8192 + 8192 * place = omega arith in
    let size : 8192 * (place + 1) + 8192 - 8192 * (place + 1) ≡ 8192 * place + 8192 - 8192 * place = omega arith in
    ap₂ (λ (n k : ℕ). take n (drop k bytes)) size at
    ∙ ap (λ (l : List ℕ). take (8192 * place + 8192 - 8192 * place) l) (sym (drop-drop (8192 * place) 8192 bytes))

blocks_after : (bytes : List ℕ) (place count : ℕ) → map (block_at bytes) (range_with_len (place + 1) count) ≡ map (block_at (drop 8192 bytes)) (range_with_len place count)
blocks_after bytes place zero = refl
blocks_after bytes place (suc count) = ap₂ (λ (page : List ℕ) (pages : List (List ℕ)). page ∷ pages) (block_after bytes place) (blocks_after bytes (place + 1) count)

-- the first block, and those of the bytes after it
first_then : (bytes : List ℕ) (count : ℕ) → first_blocks bytes (suc count) ≡ block_at bytes 0 ∷ first_blocks (drop 8192 bytes) count
first_then bytes count = ap (λ (pages : List (List ℕ)). block_at bytes 0 ∷ pages) (blocks_after bytes 0 count)

block_put : (page bytes : List ℕ) → length page ≡ 8192 → block_at (page ++ bytes) 0 ≡ page
unfolding block_at
block_put page bytes size = ap (λ (n : ℕ). take n (page ++ bytes)) (sym size) ∙ take-append_seam page bytes

behind_put : (page bytes : List ℕ) → length page ≡ 8192 → drop 8192 (page ++ bytes) ≡ bytes
behind_put page bytes size = ap (λ (n : ℕ). drop n (page ++ bytes)) (sym size) ∙ drop-append_seam page bytes

abbrev pub Whole : List (List ℕ) → Type 0
Whole pages = All (λ page. length page ≡ 8192) pages

-- pages that were put are the first blocks, and the others are as they were
blocks_put : (pages : List (List ℕ)) (bytes : List ℕ) (count : ℕ) → Whole pages → length pages ≤ count → first_blocks (with_pages pages bytes) count ≡ pages ++ drop (length pages) (first_blocks bytes count)
blocks_put [] bytes count whole fits = refl
blocks_put (page ∷ pages) bytes zero whole fits = absurd (omega arith)
blocks_put (page ∷ pages) bytes (suc count) whole fits =
    let rest = with_pages pages (drop 8192 bytes) in
    let size : length page ≡ 8192 = whole 0 [] (omega arith) in
    let at : 8192 * length (page ∷ pages) ≡ 8192 + 8192 * length pages = omega arith in
    let is : with_pages (page ∷ pages) bytes ≡ page ++ rest =
    ap (λ (n : ℕ). (page ++ concat pages) ++ drop n bytes) at
    ∙ append_assoc page (concat pages) (drop (8192 + 8192 * length pages) bytes)
    ∙ ap (λ (l : List ℕ). page ++ (concat pages ++ l)) (sym (drop-drop (8192 * length pages) 8192 bytes)) in
    ap (λ (l : List ℕ). first_blocks l (suc count)) is
    ∙ first_then (page ++ rest) count
    ∙ ap₂ (λ (p : List ℕ) (ps : List (List ℕ)). p ∷ ps) (block_put page rest size)
    (ap (λ (l : List ℕ). first_blocks l count) (behind_put page rest size) ∙ blocks_put pages (drop 8192 bytes) count (λ k d below. whole (suc k) d (omega arith)) (omega arith))
    ∙ ap (λ (ps : List (List ℕ)). page ∷ (pages ++ drop (suc (length pages)) ps)) (sym (first_then bytes count))

length-concat : (pages : List (List ℕ)) → Whole pages → length (concat pages) ≡ 8192 * length pages
length-concat [] whole = refl
length-concat (page ∷ pages) whole =
    let size : length page ≡ 8192 = whole 0 [] (omega arith) in
    let others = length-concat pages (λ k d below. whole (suc k) d (omega arith)) in
    let both = length-append page (concat pages) in
    omega arith

-- a segment keeps its size
pub size_same : (pages : List (List ℕ)) (bytes : List ℕ) → Whole pages → 8192 * length pages ≤ length bytes → length (with_pages pages bytes) ≡ length bytes
size_same pages bytes whole fits =
    let put = length-concat pages whole in
    let left = length-drop (8192 * length pages) bytes in
    let both = length-append (concat pages) (drop (8192 * length pages) bytes) in
    omega arith

-- pages in the place of the first of two lists, and after that, of the other
joined : {X : Type 0} (n : ℕ) (pages firsts others : List X) → length firsts ≡ n
    → (take n pages ++ drop (length (take n pages)) firsts) ++ (drop n pages ++ drop (length (drop n pages)) others) ≡ pages ++ drop (length pages) (firsts ++ others)
joined zero pages [] others size = refl
joined zero pages (first ∷ firsts) others size = absurd (omega arith)
joined (suc n) pages [] others size = absurd (omega arith)
joined (suc n) [] (first ∷ firsts) others size = refl
joined {X} (suc n) (page ∷ pages) (first ∷ firsts) others size = ap (λ (l : List X). page ∷ l) (joined n pages firsts others (omega arith))

one_segment : (seg_blocks : ℕ) (bytes : List ℕ) (segments pages : List (List ℕ)) → length bytes / 8192 < seg_blocks → Whole pages → length pages ≤ length bytes / 8192
    → segment_pages seg_blocks (with_pages pages bytes ∷ segments) ≡ pages ++ drop (length pages) (first_blocks bytes (length bytes / 8192))
one_segment seg_blocks bytes segments pages below whole fits =
    let put = with_pages pages bytes in
    let same : length put ≡ length bytes = size_same pages bytes whole (omega arith) in
    let is : segment_pages seg_blocks (put ∷ segments) ≡ first_blocks put (length put / 8192) = rw (lt-ltb (length put / 8192) seg_blocks (omega arith)) in
    is ∙ ap (λ (n : ℕ). first_blocks put (n / 8192)) same ∙ blocks_put pages bytes (length bytes / 8192) whole fits

full_segment : (seg_blocks : ℕ) (bytes : List ℕ) (segments pages : List (List ℕ)) → seg_blocks ≤ length bytes / 8192 → Whole pages → length pages ≤ seg_blocks
    → segment_pages seg_blocks (with_pages pages bytes ∷ segments) ≡ (pages ++ drop (length pages) (first_blocks bytes seg_blocks)) ++ segment_pages seg_blocks segments
full_segment seg_blocks bytes segments pages full whole fits =
    let put = with_pages pages bytes in
    let same : length put ≡ length bytes = size_same pages bytes whole (omega arith) in
    let is : segment_pages seg_blocks (put ∷ segments) ≡ first_blocks put seg_blocks ++ segment_pages seg_blocks segments = rw (le-ltb (length put / 8192) seg_blocks (omega arith)) in
    is ∙ ap (λ (l : List (List ℕ)). l ++ segment_pages seg_blocks segments) (blocks_put pages bytes seg_blocks whole fits)

pub reads_back : ReadsBack
reads_back seg_blocks [] [] whole fits = refl
reads_back seg_blocks [] (page ∷ pages) whole fits = absurd (omega arith)
reads_back seg_blocks (bytes ∷ segments) pages whole fits =
    let n = length bytes / 8192 in
    let firsts = first_blocks bytes seg_blocks in
    let others = segment_pages seg_blocks segments in
    let some = take seg_blocks pages in
    let rest = restored seg_blocks segments (drop seg_blocks pages) in
    let few = length-take seg_blocks pages in
    let size : length firsts ≡ seg_blocks = length-map-range_with_len (block_at bytes) 0 seg_blocks in
    elim (cases_lt n seg_blocks) [
      | inl below ↦
          let is : segment_pages seg_blocks (bytes ∷ segments) ≡ first_blocks bytes n = rw (lt-ltb n seg_blocks below) in
          let counted : length (segment_pages seg_blocks (bytes ∷ segments)) ≡ n = ap (λ (l : List (List ℕ)). length l) is ∙ length-map-range_with_len (block_at bytes) 0 n in
          let all : some ≡ pages = take_all seg_blocks pages (omega arith) in
          ap (λ (ps : List (List ℕ)). segment_pages seg_blocks (with_pages ps bytes ∷ rest)) all
          ∙ one_segment seg_blocks bytes rest pages below whole (omega arith)
          ∙ ap (λ (l : List (List ℕ)). pages ++ drop (length pages) l) (sym is)
      | inr full ↦
          let is : segment_pages seg_blocks (bytes ∷ segments) ≡ firsts ++ others = rw (le-ltb n seg_blocks full) in
          let counted : length (segment_pages seg_blocks (bytes ∷ segments)) ≡ length firsts + length others = ap (λ (l : List (List ℕ)). length l) is ∙ length-append firsts others in
          let behind = length-drop seg_blocks pages in
          full_segment seg_blocks bytes rest some full (All-take (λ page. length page ≡ 8192) seg_blocks pages whole) (omega arith)
          ∙ ap (λ (l : List (List ℕ)). (some ++ drop (length some) firsts) ++ l) (reads_back seg_blocks segments (drop seg_blocks pages) (All-drop (λ page. length page ≡ 8192) seg_blocks pages whole) (omega arith))
          ∙ joined seg_blocks pages firsts others size
          ∙ ap (λ (l : List (List ℕ)). pages ++ drop (length pages) l) (sym is)
    ]
