-- What a host holds once lanes were given back.
use Rattle.std.proofs.Common.{◌≡◌, ℕ, zero, suc, ◌+◌, ◌-◌, ◌^◌, ◌<◌, List, [], ◌∷◌, ◌++◌, length, get_or, take, drop, Option, Some, None, unwrap_or, refl, sym, ◌∙◌, ap, ap₂, subst, inl, inr, arith, add-zero, zero-add}
use Rattle.std.specs.Prelude.{IsSomeAnd}
use Rattle.std.specs.Option.{option_and_then}
use Rattle.std.specs.Str.{bytes_eq}
use Rattle.std.proofs.lemmas.Bool.{cases_Bool}
use Rattle.std.specs.Cmp.Lexicographic.{same_text}
use Rattle.block_tag.specs.declared.tag.Fork.{Fork}
use Rattle.block_tag.specs.declared.tag.Tag.{Tag}
use Rattle.segment_store.specs.Contents.{Pages}
use Rattle.segment_store.specs.Lanes.{HasPage, HoldPages, lane_at, page_in, tag_at}
use Rattle.segment_store.specs.Paths.{OpenAt, Paths, fork_of}
use Rattle.segment_store.specs.Relation.{relation_of}
use Rattle.segment_store.specs.Restored.{given_back, pages_in, paths_after, restored}
use Rattle.segment_store.proofs.Segments.{restored_same}

pub length-pages_in : (fork : Fork) (lanes : List (Option Pages)) (block : ℕ) (pages : List (List ℕ)) → length (pages_in fork lanes block pages) ≡ length pages
length-pages_in fork lanes block [] = refl
length-pages_in fork lanes block (page ∷ pages) = ap suc (length-pages_in fork lanes (block + 1) pages)

pub take-pages_in : (fork : Fork) (lanes : List (Option Pages)) (block n : ℕ) (pages : List (List ℕ)) → take n (pages_in fork lanes block pages) ≡ pages_in fork lanes block (take n pages)
take-pages_in fork lanes block zero pages = refl
take-pages_in fork lanes block (suc n) [] = refl
take-pages_in fork lanes block (suc n) (page ∷ pages) = ap (λ (l : List (List ℕ)). unwrap_or (page_in lanes (tag_at fork block)) page ∷ l) (take-pages_in fork lanes (block + 1) n pages)

pub drop-pages_in : (fork : Fork) (lanes : List (Option Pages)) (block n : ℕ) (pages : List (List ℕ)) → drop n (pages_in fork lanes block pages) ≡ pages_in fork lanes (block + n) (drop n pages)
drop-pages_in fork lanes block zero pages = ap (λ (b : ℕ). pages_in fork lanes b pages) (sym (add-zero block))
drop-pages_in fork lanes block (suc n) [] = refl
drop-pages_in fork lanes block (suc n) (page ∷ pages) =
    let at : block + 1 + n ≡ block + suc n = omega arith in
    drop-pages_in fork lanes (block + 1) n pages ∙ ap (λ (b : ℕ). pages_in fork lanes b (drop n pages)) at

pub pages_in-append : (fork : Fork) (lanes : List (Option Pages)) (block : ℕ) (pages more : List (List ℕ))
    → pages_in fork lanes block (pages ++ more) ≡ pages_in fork lanes block pages ++ pages_in fork lanes (block + length pages) more
pages_in-append fork lanes block [] more = ap (λ (b : ℕ). pages_in fork lanes b more) (sym (add-zero block))
pages_in-append fork lanes block (page ∷ pages) more =
    let at : block + 1 + length pages ≡ block + suc (length pages) = omega arith in
    ap (λ (l : List (List ℕ)). unwrap_or (page_in lanes (tag_at fork block)) page ∷ l)
    (pages_in-append fork lanes (block + 1) pages more ∙ ap (λ (b : ℕ). pages_in fork lanes (block + 1) pages ++ pages_in fork lanes b more) at)

page_of_lane : (tag : Tag) (page was : List ℕ) (lane : Option Pages) → IsSomeAnd lane (λ pages. pages tag ≡ Some page) → unwrap_or (option_and_then (λ pages. pages tag) lane) was ≡ page
page_of_lane tag page was (Some pages) has = ap (λ (o : Option (List ℕ)). unwrap_or o was) has
page_of_lane tag page was None has = absurd has

-- lanes that hold these pages, from this block on, are read as these pages
pages_same : (fork : Fork) (lanes : List (Option Pages)) (block : ℕ) (pages : List (List ℕ))
    → ((k : ℕ) → k < length pages → HasPage (tag_at fork (block + k)) (get_or pages k []) lanes) → pages_in fork lanes block pages ≡ pages
pages_same fork lanes block [] has = refl
pages_same fork lanes block (page ∷ pages) has =
    let here = subst (λ (b : ℕ). HasPage (tag_at fork b) page lanes) (add-zero block) (has 0 (omega arith)) in
    ap₂ (λ (l : List ℕ) (ls : List (List ℕ)). l ∷ ls)
    (page_of_lane (tag_at fork block) page page (lane_at lanes (tag_at fork block)) here)
    (pages_same fork lanes (block + 1) pages (λ k below.
    let at : block + suc k ≡ block + 1 + k = omega arith in
    subst (λ (b : ℕ). HasPage (tag_at fork b) (get_or pages k []) lanes) at (has (suc k) (omega arith))))

-- lanes that hold what the segments have change nothing
pub given_back_same : (fork : Fork) (seg_blocks : ℕ) (lanes : List (Option Pages)) (segments : List (List ℕ))
    → HoldPages fork (relation_of seg_blocks segments) lanes → given_back fork seg_blocks lanes segments ≡ segments
unfolding given_back relation_of
given_back_same fork seg_blocks lanes segments hold =
    ap (λ (pages : List (List ℕ)). restored seg_blocks segments pages)
    (pages_same fork lanes 0 (relation_of seg_blocks segments) (λ k below. subst (λ (b : ℕ). HasPage (tag_at fork b) (get_or (relation_of seg_blocks segments) k []) lanes) (sym (zero-add k)) (hold k below)))
    ∙ restored_same seg_blocks segments (2 ^ 32 - 1)

path_same : (at : OpenAt) (lanes : List (Option Pages)) (paths : Paths) → HoldPages (fork_of at.path) (relation_of at.seg_blocks (paths at.path)) lanes
    → (path : List ℕ) → paths_after at lanes paths path ≡ paths path
path_same at lanes paths hold path = elim (cases_Bool (bytes_eq path at.path)) [
  | inl same ↦ rw same (let is : path ≡ at.path = same_text path at.path (sym same) in
      ap (λ (p : List ℕ). given_back (fork_of at.path) at.seg_blocks lanes (paths p)) is ∙ given_back_same (fork_of at.path) at.seg_blocks lanes (paths at.path) hold ∙ ap (λ (p : List ℕ). paths p) (sym is))
  | inr other ↦ rw other
]

-- lanes that hold what the path has leave all paths as they were
pub paths_same : (at : OpenAt) (lanes : List (Option Pages)) (paths : Paths) → HoldPages (fork_of at.path) (relation_of at.seg_blocks (paths at.path)) lanes → paths_after at lanes paths ≡ paths
paths_same at lanes paths hold = λ i path. path_same at lanes paths hold path i

-- a relation that isn't there stays so
pub given_back_none : (fork : Fork) (seg_blocks : ℕ) (lanes : List (Option Pages)) → given_back fork seg_blocks lanes [] ≡ []
unfolding given_back
given_back_none fork seg_blocks lanes = refl
