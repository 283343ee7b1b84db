-- New pages are read back behind the blocks that a relation had.
use Rattle.std.proofs.Common.{◌≡◌, ℕ, zero, suc, ◌+◌, ◌-◌, ◌*◌, ◌/◌, ◌%◌, ◌^◌, ◌<◌, ◌≤◌, List, [], ◌∷◌, ◌++◌, length, take, drop, get_or, replicate, min, sym, ◌∙◌, ap, ap₂, inl, inr, arith, append_assoc, append-nil, add-one, add-zero, zero-add}
use Rattle.std.proofs.Math.Nat.{div-eq_of_lt, mod-eq_of_lt, add-div_left, add-mod_left}
use Rattle.std.proofs.Math.Seq.{take-append-add}
use Rattle.std.proofs.lemmas.Bool.{cases_lt, lt-ltb, le-ltb}
use Rattle.std.proofs.lemmas.List.{drop-append-le, drop-take, drop_at, length-append, length-drop, length-replicate, length-take, replicate_more, take-append-le, take-take, take_at, take_min}
use Rattle.std.proofs.lemmas.List.FromFn.{fill_by_all, get_or-map-range_with_len}
use Rattle.segment_store.specs.Growth.{extended, new_page_at, with_new_page}
use Rattle.segment_store.specs.ReadBack.{HasNewPages}
use Rattle.segment_store.specs.Relation.{block_at, first_blocks, relation_of, segment_pages}
use Rattle.segment_store.proofs.Growing.{count_full, count_short}
use Rattle.segment_store.proofs.Segments.{first_more, length-first, take-first}

abbrev new_page : List ℕ
new_page = replicate 8192 0

module _ (place : ℕ) (bytes : List ℕ) (fits : 8192 * place ≤ length bytes) where
  -- the bytes before the new page
  before_size : length (take (8192 * place) bytes) ≡ 8192 * place
  before_size = let size = length-take (8192 * place) bytes in omega arith

  put_size : 8192 * place + 8192 ≤ length (new_page_at place bytes)
  unfolding new_page_at
  put_size =
      let before : List ℕ = take (8192 * place) bytes in
      let zeros : List ℕ = replicate (8192 * place + 8192 - length before) 0 in
      let size = before_size in
      let zeros_size : length zeros ≡ 8192 * place + 8192 - length before = length-replicate (8192 * place + 8192 - length before) 0 in
      let behind = length-append zeros (drop (8192 * place + 8192) bytes) in
      let all = length-append before (zeros ++ drop (8192 * place + 8192) bytes) in
      omega arith

  block_before : (k : ℕ) → k < place → block_at (new_page_at place bytes) k ≡ block_at bytes k
  unfolding block_at new_page_at
  block_before k below =
      let start : ℕ = 8192 * k in
      let size : ℕ = start + 8192 - start in
      let left : ℕ = 8192 * place - start in
      let before : List ℕ = take (8192 * place) bytes in
      let behind : List ℕ = replicate (8192 * place + 8192 - length before) 0 ++ drop (8192 * place + 8192) bytes in
      let whole = before_size in
      let rest = length-drop start before in
      let seam : 8192 * place ≡ start + left = omega arith in
      ap (λ (l : List ℕ). take size l) (drop-append-le start before behind (omega arith))
      ∙ take-append-le size (drop start before) behind (omega arith)
      ∙ ap (λ (n : ℕ). take size (drop start (take n bytes))) seam
      ∙ ap (λ (l : List ℕ). take size l) (drop-take start left bytes)
      ∙ take-take size left (drop start bytes) (omega arith)

  block_here : block_at (new_page_at place bytes) place ≡ new_page
  unfolding block_at new_page_at
  block_here =
      let start : ℕ = 8192 * place in
      let before : List ℕ = take start bytes in
      let zeros : List ℕ = replicate (start + 8192 - length before) 0 in
      let behind : List ℕ = drop (start + 8192) bytes in
      let whole = before_size in
      let size : start + 8192 - length before ≡ 8192 = omega arith in
      let zeros_size : length zeros ≡ start + 8192 - length before = length-replicate (start + 8192 - length before) 0 in
      ap (λ (l : List ℕ). take (start + 8192 - start) l) (drop_at before (zeros ++ behind) start whole)
      ∙ take_at zeros behind (start + 8192 - start) (omega arith)
      ∙ ap (λ (n : ℕ). replicate n 0) size

  blocks_before : first_blocks (new_page_at place bytes) place ≡ first_blocks bytes place
  blocks_before = fill_by_all (block_at bytes) (first_blocks (new_page_at place bytes) place) place [] (length-first (new_page_at place bytes) place)
      (λ k below. get_or-map-range_with_len (block_at (new_page_at place bytes)) 0 place k k [] below (zero-add k) ∙ block_before k below)

  blocks_upto : first_blocks (new_page_at place bytes) (place + 1) ≡ first_blocks bytes place ++ new_page ∷ []
  blocks_upto = first_more (new_page_at place bytes) place
      ∙ ap₂ (λ (pages : List (List ℕ)) (page : List ℕ). pages ++ page ∷ []) blocks_before block_here

-- so many first blocks of the segments, if the first one has them
first_of : (seg_blocks : ℕ) (bytes : List ℕ) (segments : List (List ℕ)) (count : ℕ) → count ≤ seg_blocks → count ≤ length bytes / 8192
    → take count (segment_pages seg_blocks (bytes ∷ segments)) ≡ first_blocks bytes count
first_of seg_blocks bytes segments count few there =
    let n : ℕ = length bytes / 8192 in
    let firsts = first_blocks bytes seg_blocks in
    let others = segment_pages seg_blocks segments in
    let size = length-first bytes seg_blocks in
    elim (cases_lt n seg_blocks) [
      | inl short ↦
          let is : segment_pages seg_blocks (bytes ∷ segments) ≡ first_blocks bytes n = rw (lt-ltb n seg_blocks short) in
          let least : min count n ≡ count = omega arith in
          ap (λ (l : List (List ℕ)). take count l) is ∙ take-first bytes count n ∙ ap (λ (k : ℕ). first_blocks bytes k) least
      | inr full ↦
          let is : segment_pages seg_blocks (bytes ∷ segments) ≡ firsts ++ others = rw (le-ltb n seg_blocks full) in
          let least : min count seg_blocks ≡ count = omega arith in
          ap (λ (l : List (List ℕ)). take count l) is ∙ take-append-le count firsts others (omega arith)
          ∙ take-first bytes count seg_blocks ∙ ap (λ (k : ℕ). first_blocks bytes k) least
    ]

-- with a new page in the first segment
put_first : (seg_blocks : ℕ) (bytes : List ℕ) (segments : List (List ℕ)) (block : ℕ) → block < seg_blocks → 8192 * block ≤ length bytes
    → take (block + 1) (segment_pages seg_blocks (new_page_at block bytes ∷ segments)) ≡ first_blocks bytes block ++ new_page ∷ []
put_first seg_blocks bytes segments block below fits =
    let size = put_size block bytes fits in
    first_of seg_blocks (new_page_at block bytes) segments (block + 1) (omega arith) (omega arith) ∙ blocks_upto block bytes fits

-- a new page at this place of this segment
abbrev put_at : ℕ → ℕ → List (List ℕ) → List (List ℕ)
put_at index place segments = take index segments ++ (new_page_at place (get_or segments index []) ∷ drop (index + 1) segments)

put_here : (seg_blocks block : ℕ) (segments : List (List ℕ)) → block < seg_blocks → with_new_page seg_blocks block segments ≡ put_at 0 block segments
put_here seg_blocks block segments below = ap₂ (λ (index place : ℕ). put_at index place segments) (div-eq_of_lt below) (mod-eq_of_lt below)

put_later : (seg_blocks block : ℕ) (bytes : List ℕ) (segments : List (List ℕ)) → 1 ≤ seg_blocks
    → with_new_page seg_blocks (seg_blocks + block) (bytes ∷ segments) ≡ bytes ∷ with_new_page seg_blocks block segments
put_later seg_blocks block bytes segments some =
    let index : ℕ = block / seg_blocks in
    let place : ℕ = block % seg_blocks in
    let next : suc index + 1 ≡ suc (index + 1) = omega arith in
    ap₂ (λ (i p : ℕ). put_at i p (bytes ∷ segments)) (add-div_left block some ∙ add-one index) (add-mod_left seg_blocks block)
    ∙ ap (λ (n : ℕ). bytes ∷ (take index segments ++ (new_page_at place (get_or segments index []) ∷ drop n (bytes ∷ segments)))) next

-- a page that was put as a block, up to the end, is read back behind those before it
page_read : (seg_blocks : ℕ) (segments : List (List ℕ)) (block : ℕ) → 1 ≤ seg_blocks → block ≤ length (segment_pages seg_blocks segments)
    → take (block + 1) (segment_pages seg_blocks (with_new_page seg_blocks block segments)) ≡ take block (segment_pages seg_blocks segments) ++ new_page ∷ []
page_read seg_blocks [] zero some fits =
    ap (λ (l : List (List ℕ)). take 1 (segment_pages seg_blocks l)) (put_here seg_blocks 0 [] (omega arith)) ∙ put_first seg_blocks [] [] 0 (omega arith) (omega arith)
page_read seg_blocks [] (suc block) some fits = absurd (omega arith)
page_read seg_blocks (bytes ∷ segments) block some fits = elim (cases_lt block seg_blocks) [
  | inl below ↦
      let there : block ≤ length bytes / 8192 = elim (cases_lt (length bytes / 8192) seg_blocks) [
        | inl short ↦ let counted = count_short seg_blocks bytes segments short in omega arith
        | inr full ↦ omega arith
      ] in
      ap (λ (l : List (List ℕ)). take (block + 1) (segment_pages seg_blocks l)) (put_here seg_blocks block (bytes ∷ segments) below)
      ∙ put_first seg_blocks bytes segments block below (omega arith)
      ∙ ap (λ (l : List (List ℕ)). l ++ new_page ∷ []) (sym (first_of seg_blocks bytes segments block (omega arith) there))
  | inr later ↦
      let full : seg_blocks ≤ length bytes / 8192 = elim (cases_lt (length bytes / 8192) seg_blocks) [
        | inl short ↦ let counted = count_short seg_blocks bytes segments short in absurd (omega arith)
        | inr is ↦ is
      ] in
      let counted = count_full seg_blocks bytes segments full in
      let rest : ℕ = block - seg_blocks in
      let at : block ≡ seg_blocks + rest = omega arith in
      let firsts = first_blocks bytes seg_blocks in
      let size = length-first bytes seg_blocks in
      let put = with_new_page seg_blocks rest segments in
      let split : (l : List (List ℕ)) → segment_pages seg_blocks (bytes ∷ l) ≡ firsts ++ segment_pages seg_blocks l =
      λ l. rw (le-ltb (length bytes / 8192) seg_blocks full) in
      let upto : block + 1 ≡ length firsts + (rest + 1) = omega arith in
      let before : block ≡ length firsts + rest = omega arith in
      ap (λ (b : ℕ). take (block + 1) (segment_pages seg_blocks (with_new_page seg_blocks b (bytes ∷ segments)))) at
      ∙ ap (λ (l : List (List ℕ)). take (block + 1) (segment_pages seg_blocks l)) (put_later seg_blocks rest bytes segments some)
      ∙ ap₂ (λ (n : ℕ) (l : List (List ℕ)). take n l) upto (split put)
      ∙ take-append-add firsts (segment_pages seg_blocks put) (rest + 1)
      ∙ ap (λ (l : List (List ℕ)). firsts ++ l) (page_read seg_blocks segments rest some (omega arith))
      ∙ sym (append_assoc firsts (take rest (segment_pages seg_blocks segments)) (new_page ∷ []))
      ∙ ap (λ (l : List (List ℕ)). l ++ new_page ∷ [])
      (sym (ap₂ (λ (n : ℕ) (l : List (List ℕ)). take n l) before (split segments) ∙ take-append-add firsts (segment_pages seg_blocks segments) rest))
]

pages_read : (seg_blocks block n : ℕ) (segments : List (List ℕ)) → 1 ≤ seg_blocks → block ≤ length (segment_pages seg_blocks segments)
    → take (block + n) (segment_pages seg_blocks (extended seg_blocks block n segments)) ≡ take block (segment_pages seg_blocks segments) ++ replicate n new_page
unfolding extended
pages_read seg_blocks block zero segments some fits =
    ap (λ (k : ℕ). take k (segment_pages seg_blocks segments)) (add-zero block) ∙ sym (append-nil (take block (segment_pages seg_blocks segments)))
pages_read seg_blocks block (suc n) segments some fits =
    let was = extended seg_blocks block n segments in
    let old = take block (segment_pages seg_blocks segments) in
    let done = pages_read seg_blocks block n segments some fits in
    let upto : block + suc n ≡ block + n + 1 = omega arith in
    let taken = length-take (block + n) (segment_pages seg_blocks was) in
    let old_size = length-take block (segment_pages seg_blocks segments) in
    let new_size = length-replicate n new_page in
    let all = ap (λ (l : List (List ℕ)). length l) done ∙ length-append old (replicate n new_page) in
    ap (λ (k : ℕ). take k (segment_pages seg_blocks (with_new_page seg_blocks (block + n) was))) upto
    ∙ page_read seg_blocks was (block + n) some (omega arith)
    ∙ ap (λ (l : List (List ℕ)). l ++ new_page ∷ []) done
    ∙ append_assoc old (replicate n new_page) (new_page ∷ [])
    ∙ ap (λ (l : List (List ℕ)). old ++ l) (replicate_more n new_page ∙ ap (λ (k : ℕ). replicate k new_page) (add-one n))

pub has_new_pages : HasNewPages
unfolding relation_of
has_new_pages seg_blocks n segments some fits =
    let most : ℕ = 2 ^ 32 - 1 in
    let pages = segment_pages seg_blocks segments in
    let blocks : ℕ = length (take most pages) in
    let counted : blocks ≡ min most (length pages) = length-take most pages in
    take-take (blocks + n) most (segment_pages seg_blocks (extended seg_blocks blocks n segments)) fits
    ∙ pages_read seg_blocks blocks n segments some (omega arith)
    ∙ ap (λ (l : List (List ℕ)). l ++ replicate n new_page) (ap (λ (k : ℕ). take k pages) counted ∙ take_min most pages)
