-- Each block of a relation stands at its place in its segment.
use Rattle.std.proofs.Common.{◌≡◌, ℕ, ◌+◌, ◌-◌, ◌/◌, ◌%◌, ◌^◌, ◌<◌, ◌≤◌, List, [], ◌∷◌, ◌++◌, length, get_or, sym, ◌∙◌, ap, ap₂, inl, inr, arith, zero-add, add-one}
use Rattle.std.proofs.Math.Nat.{div-eq_of_lt, mod-eq_of_lt, add-div_left, add-mod_left}
use Rattle.std.proofs.lemmas.Bool.{cases_lt, lt-ltb, le-ltb}
use Rattle.std.proofs.lemmas.List.{length-append, length-take, get_or-take, get_or_append_left, get_or-append_right}
use Rattle.std.proofs.lemmas.List.FromFn.{length-map-range_with_len, get_or-map-range_with_len}
use Rattle.segment_store.specs.Relation.{block_at, segment_pages, first_blocks, relation_of}
use Rattle.segment_store.specs.ReadBack.{StandsInPlace}

-- the block stands at its place in its segment
abbrev InPlace : ℕ → List (List ℕ) → ℕ → List ℕ → Type 0
InPlace seg_blocks segments block page = page ≡ block_at (get_or segments (block / seg_blocks) []) (block % seg_blocks)

here : (seg_blocks : ℕ) (bytes : List ℕ) (segments : List (List ℕ)) (block count : ℕ) → block < seg_blocks → block < count → InPlace seg_blocks (bytes ∷ segments) block (get_or (first_blocks bytes count) block [])
here seg_blocks bytes segments block count below counted =
    get_or-map-range_with_len (block_at bytes) 0 count block block [] counted (zero-add block)
    ∙ ap₂ (λ (k place : ℕ). block_at (get_or (bytes ∷ segments) k []) place) (sym (div-eq_of_lt below)) (sym (mod-eq_of_lt below))

there : (seg_blocks : ℕ) (bytes : List ℕ) (segments : List (List ℕ)) (block : ℕ) (page : List ℕ) → 1 ≤ seg_blocks → InPlace seg_blocks segments block page → InPlace seg_blocks (bytes ∷ segments) (seg_blocks + block) page
there seg_blocks bytes segments block page some is =
    is ∙ ap₂ (λ (k place : ℕ). block_at (get_or (bytes ∷ segments) k []) place) (sym (add-div_left block some ∙ add-one (block / seg_blocks))) (sym (add-mod_left seg_blocks block))

placed : (seg_blocks : ℕ) (segments : List (List ℕ)) (block : ℕ) → 1 ≤ seg_blocks → block < length (segment_pages seg_blocks segments) → InPlace seg_blocks segments block (get_or (segment_pages seg_blocks segments) block [])
placed seg_blocks [] block some below = absurd (omega arith)
placed seg_blocks (bytes ∷ segments) block some below =
    let n = length bytes / 8192 in
    let firsts = first_blocks bytes seg_blocks in
    let others = segment_pages seg_blocks segments in
    let size : length firsts ≡ seg_blocks = length-map-range_with_len (block_at bytes) 0 seg_blocks in
    elim (cases_lt n seg_blocks) [
      | inl short ↦
          let is : segment_pages seg_blocks (bytes ∷ segments) ≡ first_blocks bytes n = rw (lt-ltb n seg_blocks short) in
          let counted : length (segment_pages seg_blocks (bytes ∷ segments)) ≡ n = ap (λ (l : List (List ℕ)). length l) is ∙ length-map-range_with_len (block_at bytes) 0 n in
          ap (λ (l : List (List ℕ)). get_or l block []) is ∙ here seg_blocks bytes segments block n (omega arith) (omega arith)
      | inr full ↦
          let is : segment_pages seg_blocks (bytes ∷ segments) ≡ firsts ++ others = rw (le-ltb n seg_blocks full) in
          let counted : length (segment_pages seg_blocks (bytes ∷ segments)) ≡ length firsts + length others = ap (λ (l : List (List ℕ)). length l) is ∙ length-append firsts others in
          elim (cases_lt block seg_blocks) [
            | inl first ↦
                ap (λ (l : List (List ℕ)). get_or l block []) is ∙ get_or_append_left firsts others [] block (omega arith) ∙ here seg_blocks bytes segments block seg_blocks first first
            | inr later ↦
                let at : seg_blocks + (block - seg_blocks) ≡ block = omega arith in
                let page = get_or others (block - seg_blocks) [] in
                ap (λ (l : List (List ℕ)). get_or l block []) is ∙ get_or-append_right firsts others seg_blocks block [] size later
                ∙ there seg_blocks bytes segments (block - seg_blocks) page some (placed seg_blocks segments (block - seg_blocks) some (omega arith))
                ∙ ap (λ (b : ℕ). block_at (get_or (bytes ∷ segments) (b / seg_blocks) []) (b % seg_blocks)) at
          ]
    ]

pub stands_in_place : StandsInPlace
unfolding relation_of
stands_in_place seg_blocks segments block some below =
    let most = length-take (2 ^ 32 - 1) (segment_pages seg_blocks segments) in
    get_or-take (2 ^ 32 - 1) (segment_pages seg_blocks segments) block [] (omega arith) ∙ placed seg_blocks segments block some (omega arith)
