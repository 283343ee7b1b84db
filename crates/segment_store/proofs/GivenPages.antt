-- A relation has the pages that its lanes gave back.
use Rattle.std.proofs.Common.{◌≡◌, ℕ, zero, suc, ◌+◌, ◌-◌, ◌*◌, ◌/◌, ◌^◌, ◌≤◌, List, [], ◌∷◌, ◌++◌, length, get_or, take, drop, Option, Some, None, unwrap_or, sym, ◌∙◌, ap, subst, inl, inr, arith, append-nil, zero-add}
use Rattle.std.specs.Prelude.{All, IfSome}
use Rattle.std.specs.Option.{option_and_then}
use Rattle.std.proofs.lemmas.Bool.{cases_lt, lt-ltb, le-ltb}
use Rattle.std.proofs.lemmas.List.{length-drop, length-take, take_all, drop_all}
use Rattle.std.proofs.lemmas.List.Elements.{All-append, All-take}
use Rattle.std.proofs.lemmas.List.FromFn.{get_or-map-range_with_len}
use Rattle.block_tag.specs.Names.{lane_number}
use Rattle.block_tag.specs.declared.tag.Fork.{Fork}
use Rattle.block_tag.specs.declared.tag.Tag.{Tag}
use Rattle.segment_store.specs.Contents.{AreFullPages, Pages}
use Rattle.segment_store.specs.Lanes.{lane_at, page_in, tag_at}
use Rattle.segment_store.specs.Relation.{block_at, first_blocks, relation_of, segment_pages}
use Rattle.segment_store.specs.Restored.{given_back, pages_in}
use Rattle.segment_store.specs.ReadBack.{HasGivenPages}
use Rattle.segment_store.proofs.GivenBack.{length-pages_in}
use Rattle.segment_store.proofs.PutBlocks.{take_prefix}
use Rattle.segment_store.proofs.ReadBack.{Whole, reads_back}
use Rattle.segment_store.proofs.Segments.{length-first}

block_whole : (bytes : List ℕ) (place : ℕ) → 8192 * place + 8192 ≤ length bytes → length (block_at bytes place) ≡ 8192
unfolding block_at
block_whole bytes place within =
    let left = length-drop (8192 * place) bytes in
    let size = length-take (8192 * place + 8192 - 8192 * place) (drop (8192 * place) bytes) in
    omega arith

first_whole : (bytes : List ℕ) (count : ℕ) → 8192 * count ≤ length bytes → Whole (first_blocks bytes count)
first_whole bytes count within = λ k d below.
    let counted = length-first bytes count in
    ap (λ (l : List ℕ). length l) (get_or-map-range_with_len (block_at bytes) 0 count k k d (omega arith) (zero-add k)) ∙ block_whole bytes k (omega arith)

-- the blocks of segments are whole
pub pages_whole : (seg_blocks : ℕ) (segments : List (List ℕ)) → Whole (segment_pages seg_blocks segments)
pages_whole seg_blocks [] = λ k d below. absurd (omega arith)
pages_whole seg_blocks (bytes ∷ segments) =
    let n = length bytes / 8192 in
    let others = segment_pages seg_blocks segments in
    elim (cases_lt n seg_blocks) [
      | inl below ↦
          let is : segment_pages seg_blocks (bytes ∷ segments) ≡ first_blocks bytes n = rw (lt-ltb n seg_blocks below) in
          subst Whole (sym is) (first_whole bytes n (omega arith))
      | inr full ↦
          let is : segment_pages seg_blocks (bytes ∷ segments) ≡ first_blocks bytes seg_blocks ++ others = rw (le-ltb n seg_blocks full) in
          subst Whole (sym is) (All-append (λ page. length page ≡ 8192) (first_blocks bytes seg_blocks) others (first_whole bytes seg_blocks (omega arith)) (pages_whole seg_blocks segments))
    ]

given_page : (tag : Tag) (lane : Option Pages) (was : List ℕ) → IfSome lane AreFullPages → length was ≡ 8192 → length (unwrap_or (option_and_then (λ pages. pages tag) lane) was) ≡ 8192
given_page tag None was whole size = size
given_page tag (Some pages) was whole size = held (pages tag) (whole tag)
  where
    held : (page : Option (List ℕ)) → IfSome page (λ p. length p ≡ 8192) → length (unwrap_or page was) ≡ 8192
    held None is = size
    held (Some page) is = is

-- an absent lane, past the last one, says nothing
lane_whole : (lanes : List (Option Pages)) (k : ℕ) → All (λ lane. IfSome lane AreFullPages) lanes → IfSome (get_or lanes k None) AreFullPages
lane_whole [] k whole = tt
lane_whole (lane ∷ lanes) zero whole = whole 0 None (omega arith)
lane_whole (lane ∷ lanes) (suc k) whole = lane_whole lanes k (λ j d below. whole (suc j) d (omega arith))

cons_whole : (page : List ℕ) (pages : List (List ℕ)) → length page ≡ 8192 → Whole pages → Whole (page ∷ pages)
cons_whole page pages size whole zero d below = size
cons_whole page pages size whole (suc k) d below = whole k d (omega arith)

given_whole : (fork : Fork) (lanes : List (Option Pages)) (block : ℕ) (pages : List (List ℕ)) → All (λ lane. IfSome lane AreFullPages) lanes → Whole pages → Whole (pages_in fork lanes block pages)
given_whole fork lanes block [] known whole = whole
given_whole fork lanes block (page ∷ pages) known whole =
    let tag = tag_at fork block in
    cons_whole (unwrap_or (page_in lanes tag) page) (pages_in fork lanes (block + 1) pages)
    (given_page tag (lane_at lanes tag) page (lane_whole lanes (lane_number tag (length lanes)) known) (whole 0 [] (omega arith)))
    (given_whole fork lanes (block + 1) pages known (λ k d below. whole (suc k) d (omega arith)))

pub has_given_pages : HasGivenPages
unfolding relation_of given_back
has_given_pages fork seg_blocks lanes segments whole =
    let most = 2 ^ 32 - 1 in
    let all = segment_pages seg_blocks segments in
    let pages = pages_in fork lanes 0 (take most all) in
    let counted : length pages ≡ length (take most all) = length-pages_in fork lanes 0 (take most all) in
    let few = length-take most all in
    let put = given_whole fork lanes 0 (take most all) whole (All-take (λ page. length page ≡ 8192) most all (pages_whole seg_blocks segments)) in
    ap (λ (l : List (List ℕ)). take most l) (reads_back seg_blocks segments pages put (omega arith))
    ∙ elim (cases_lt most (length all)) [
      | inl many ↦ take_prefix pages (drop (length pages) all) most (omega arith)
      | inr fits ↦ ap (λ (l : List (List ℕ)). take most (pages ++ l)) (drop_all (length pages) all (omega arith)) ∙ ap (λ (l : List (List ℕ)). take most l) (append-nil pages) ∙ take_all most pages (omega arith)
    ]
