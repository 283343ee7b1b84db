-- The blocks of a relation in its segments.
use Rattle.std.proofs.Common.{◌≡◌, ℕ, zero, suc, ◌+◌, ◌-◌, ◌*◌, ◌/◌, ◌<◌, ◌≤◌, List, [], ◌∷◌, ◌++◌, length, take, drop, min, refl, sym, ◌∙◌, ap, ap₂, subst, inl, inr, arith, append_assoc, append-nil, add-one, zero-add}
use Rattle.std.proofs.Math.Seq.{take-nil, drop-nil, take-append-add, drop-append-add}
use Rattle.std.proofs.lemmas.Bool.{cases_lt, lt-ltb, le-ltb}
use Rattle.std.proofs.lemmas.List.{take_all, drop_all, take-append-le}
use Rattle.std.proofs.lemmas.List.Folds.{concat-append, drop_split}
use Rattle.std.proofs.lemmas.List.FromFn.{map-range_with_len_more, length-map-range_with_len, take-map-range_with_len}
use Rattle.std.specs.List.{concat}
use Rattle.segment_store.specs.Relation.{block_at, segment_pages, first_blocks}
use Rattle.segment_store.specs.Restored.{restored, with_pages}

pub length-first : (bytes : List ℕ) (count : ℕ) → length (first_blocks bytes count) ≡ count
length-first bytes count = length-map-range_with_len (block_at bytes) 0 count

-- one block more
pub first_more : (bytes : List ℕ) (count : ℕ) → first_blocks bytes (count + 1) ≡ first_blocks bytes count ++ block_at bytes count ∷ []
first_more bytes count = map-range_with_len_more (block_at bytes) 0 count count (zero-add count)

pub take-first : (bytes : List ℕ) (k count : ℕ) → take k (first_blocks bytes count) ≡ first_blocks bytes (min k count)
take-first bytes k count = elim (cases_lt k count) [
  | inl below ↦
      let least : min k count ≡ k = omega arith in
      take-map-range_with_len (block_at bytes) 0 count k (omega arith) ∙ ap (λ (n : ℕ). first_blocks bytes n) (sym least)
  | inr above ↦
      let least : min k count ≡ count = omega arith in
      take_all k (first_blocks bytes count) (rw length-first above) ∙ ap (λ (n : ℕ). first_blocks bytes n) (sym least)
]

pub block_then : (bytes : List ℕ) (place : ℕ) → block_at bytes place ++ drop (8192 * (place + 1)) bytes ≡ drop (8192 * place) bytes
unfolding block_at
block_then bytes place =
    let at : 8192 * (place + 1) ≡ 8192 * place + 8192 = omega arith in
    ap (λ (n : ℕ). block_at bytes place ++ drop n bytes) at ∙ sym (drop_split bytes (8192 * place) (8192 * place + 8192) (omega arith))

-- the first blocks and the bytes after them are all the bytes
pub concat-first : (bytes : List ℕ) (count : ℕ) → concat (first_blocks bytes count) ++ drop (8192 * count) bytes ≡ bytes
concat-first bytes zero = refl
concat-first bytes (suc count) = subst (λ (n : ℕ). concat (first_blocks bytes n) ++ drop (8192 * n) bytes ≡ bytes) (add-one count)
    (ap (λ (blocks : List (List ℕ)). concat blocks ++ drop (8192 * (count + 1)) bytes) (first_more bytes count)
    ∙ ap (λ (l : List ℕ). l ++ drop (8192 * (count + 1)) bytes) (concat-append (first_blocks bytes count) (block_at bytes count ∷ []))
    ∙ ap (λ (l : List ℕ). (concat (first_blocks bytes count) ++ l) ++ drop (8192 * (count + 1)) bytes) (append-nil (block_at bytes count))
    ∙ append_assoc (concat (first_blocks bytes count)) (block_at bytes count) (drop (8192 * (count + 1)) bytes)
    ∙ ap (λ (l : List ℕ). concat (first_blocks bytes count) ++ l) (block_then bytes count)
    ∙ concat-first bytes count)

pub with_first : (bytes : List ℕ) (count : ℕ) → with_pages (first_blocks bytes count) bytes ≡ bytes
with_first bytes count = ap (λ (n : ℕ). concat (first_blocks bytes count) ++ drop (8192 * n) bytes) (length-first bytes count) ∙ concat-first bytes count

-- how many blocks of a segment are counted if so many are left
abbrev pub counted_blocks : ℕ → List ℕ → ℕ → ℕ
counted_blocks seg_blocks bytes left = min (min (length bytes / 8192) seg_blocks) left

-- the first segment's counted blocks, and the others'
pub record Splits (seg_blocks : ℕ) (bytes : List ℕ) (segments : List (List ℕ)) (left : ℕ) : Type 0 where
  pub prefix : take seg_blocks (take left (segment_pages seg_blocks (bytes ∷ segments))) ≡ first_blocks bytes (counted_blocks seg_blocks bytes left)
  pub full : counted_blocks seg_blocks bytes left ≡ seg_blocks → drop seg_blocks (take left (segment_pages seg_blocks (bytes ∷ segments))) ≡ take (left - seg_blocks) (segment_pages seg_blocks segments)
  pub short : counted_blocks seg_blocks bytes left < seg_blocks → drop seg_blocks (take left (segment_pages seg_blocks (bytes ∷ segments))) ≡ []

-- all blocks are the first ones of one segment
splits_one : (seg_blocks : ℕ) (bytes : List ℕ) (segments : List (List ℕ)) (left count : ℕ) → take left (segment_pages seg_blocks (bytes ∷ segments)) ≡ first_blocks bytes count
    → count ≡ counted_blocks seg_blocks bytes left → count < seg_blocks → Splits seg_blocks bytes segments left
splits_one seg_blocks bytes segments left count all is below = record {
  prefix = ap (λ (l : List (List ℕ)). take seg_blocks l) all ∙ take-first bytes seg_blocks count
      ∙ (let least : min seg_blocks count ≡ counted_blocks seg_blocks bytes left = omega arith in ap (λ (n : ℕ). first_blocks bytes n) least);
  full = λ e. absurd (omega arith);
  short = λ h. ap (λ (l : List (List ℕ)). drop seg_blocks l) all ∙ drop_all seg_blocks (first_blocks bytes count) (rw length-first (omega arith));
}

-- the first segment is full, and some blocks of others may follow
splits_more : (seg_blocks : ℕ) (bytes : List ℕ) (segments : List (List ℕ)) (left : ℕ)
    → take left (segment_pages seg_blocks (bytes ∷ segments)) ≡ first_blocks bytes seg_blocks ++ take (left - seg_blocks) (segment_pages seg_blocks segments)
    → counted_blocks seg_blocks bytes left ≡ seg_blocks → Splits seg_blocks bytes segments left
splits_more seg_blocks bytes segments left all is =
    let firsts = first_blocks bytes seg_blocks in
    let others = take (left - seg_blocks) (segment_pages seg_blocks segments) in
    let size : length firsts ≡ seg_blocks = length-first bytes seg_blocks in
    let fits : seg_blocks ≤ length firsts = omega arith in
    record {
      prefix = ap (λ (l : List (List ℕ)). take seg_blocks l) all ∙ take-append-le seg_blocks firsts others fits ∙ take-first bytes seg_blocks seg_blocks
          ∙ (let least : min seg_blocks seg_blocks ≡ counted_blocks seg_blocks bytes left = omega arith in ap (λ (n : ℕ). first_blocks bytes n) least);
      full = λ e. ap (λ (l : List (List ℕ)). drop seg_blocks l) all
          ∙ (let at : seg_blocks ≡ length firsts + 0 = omega arith in ap (λ (n : ℕ). drop n (firsts ++ others)) at) ∙ drop-append-add firsts others 0;
      short = λ h. absurd (omega arith);
    }

pub splits : (seg_blocks : ℕ) (bytes : List ℕ) (segments : List (List ℕ)) (left : ℕ) → Splits seg_blocks bytes segments left
splits seg_blocks bytes segments left =
    let whole : ℕ = length bytes / 8192 in
    let firsts = first_blocks bytes seg_blocks in
    let others = segment_pages seg_blocks segments in
    let size : length firsts ≡ seg_blocks = length-first bytes seg_blocks in
    elim (cases_lt whole seg_blocks) [
      | inl below ↦
          let is : segment_pages seg_blocks (bytes ∷ segments) ≡ first_blocks bytes whole = rw (lt-ltb whole seg_blocks below) in
          splits_one seg_blocks bytes segments left (min left whole) (ap (λ (l : List (List ℕ)). take left l) is ∙ take-first bytes left whole) (omega arith) (omega arith)
      | inr full ↦
          let is : segment_pages seg_blocks (bytes ∷ segments) ≡ firsts ++ others = rw (le-ltb whole seg_blocks full) in
          elim (cases_lt left seg_blocks) [
            | inl few ↦
                splits_one seg_blocks bytes segments left (min left seg_blocks)
                (ap (λ (l : List (List ℕ)). take left l) is ∙ take-append-le left firsts others (omega arith) ∙ take-first bytes left seg_blocks) (omega arith) (omega arith)
            | inr many ↦
                let at : left ≡ length firsts + (left - seg_blocks) = omega arith in
                splits_more seg_blocks bytes segments left
                (ap (λ (l : List (List ℕ)). take left l) is ∙ ap (λ (n : ℕ). take n (firsts ++ others)) at ∙ take-append-add firsts others (left - seg_blocks)) (omega arith)
          ]
    ]

pub restored_none : (seg_blocks : ℕ) (segments : List (List ℕ)) → restored seg_blocks segments [] ≡ segments
restored_none seg_blocks [] = refl
restored_none seg_blocks (bytes ∷ segments) =
    ap₂ (λ (l : List ℕ) (ls : List (List ℕ)). l ∷ ls)
    (ap (λ (pages : List (List ℕ)). with_pages pages bytes) (take-nil seg_blocks))
    (ap (λ (pages : List (List ℕ)). restored seg_blocks segments pages) (drop-nil seg_blocks) ∙ restored_none seg_blocks segments)

-- the segments' own blocks put back change nothing
pub restored_same : (seg_blocks : ℕ) (segments : List (List ℕ)) (left : ℕ) → restored seg_blocks segments (take left (segment_pages seg_blocks segments)) ≡ segments
restored_same seg_blocks [] left = refl
restored_same seg_blocks (bytes ∷ segments) left =
    let split = splits seg_blocks bytes segments left in
    let all = take left (segment_pages seg_blocks (bytes ∷ segments)) in
    ap₂ (λ (l : List ℕ) (ls : List (List ℕ)). l ∷ ls)
    (ap (λ (pages : List (List ℕ)). with_pages pages bytes) split.prefix ∙ with_first bytes (counted_blocks seg_blocks bytes left))
    (elim (cases_lt (counted_blocks seg_blocks bytes left) seg_blocks) [
      | inl below ↦ ap (λ (pages : List (List ℕ)). restored seg_blocks segments pages) (split.short below) ∙ restored_none seg_blocks segments
      | inr above ↦ ap (λ (pages : List (List ℕ)). restored seg_blocks segments pages) (split.full (omega arith)) ∙ restored_same seg_blocks segments (left - seg_blocks)
    ])
