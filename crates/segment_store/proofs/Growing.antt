-- New pages in segments, and how many blocks a relation has and is to have.
use Rattle.std.proofs.Common.{◌≡◌, ℕ, zero, suc, ◌+◌, ◌-◌, ◌*◌, ◌/◌, ◌^◌, ◌<◌, ◌≤◌, cond, List, [], ◌∷◌, ◌++◌, length, take, drop, get_or, set, replicate, min, Option, Some, None, Vec, Global, refl, sym, ◌∙◌, ap, ap₂, subst, inl, inr, arith, append-nil, add-one}
use Rattle.std.specs.Prelude.{is_some}
use Rattle.std.proofs.lemmas.Bool.{cases_lt, cond_both, lt-ltb, le-ltb}
use Rattle.std.proofs.lemmas.List.{length-append, length-take, take_all, drop_all, drop-drop, set_split, take_rest}
use borrow.Rule.Slice.PartMut.{put_mid}
use Rattle.block_tag.specs.Names.{place_in_segment, segment_of}
use Rattle.block_tag.specs.declared.tag.Fork.{Fork}
use Rattle.segment_store.specs.Contents.{Pages}
use Rattle.segment_store.specs.Growth.{extended, last_held, new_page_at, with_new_page}
use Rattle.segment_store.specs.Lanes.{page_in, tag_at}
use Rattle.segment_store.specs.MemoryHost.{bytes_of}
use Rattle.segment_store.specs.Relation.{first_blocks, relation_of, segment_pages}
use Rattle.segment_store.proofs.Segments.{length-first}

-- zeros in the place of a block
pub zeros_put : (start size : ℕ) (bytes page : List ℕ) → size ≡ 8192 → page ≡ replicate 8192 0
    → put_mid start size bytes page ≡ take start bytes ++ (replicate 8192 0 ++ drop (start + 8192) bytes)
zeros_put start size bytes page size_is page_is =
    ap₂ (λ (n : ℕ) (p : List ℕ). put_mid start n bytes p) size_is page_is
    ∙ ap (λ (l : List ℕ). take start bytes ++ (replicate 8192 0 ++ l)) (drop-drop 8192 start bytes)

-- a segment that ends before the new page's end is filled up
pub filled_up : (place : ℕ) (bytes cut now : List ℕ) → length bytes < 8192 * place + 8192 → cut ≡ take (8192 * place) bytes
    → now ≡ take (8192 * place + 8192) cut ++ replicate (8192 * place + 8192 - length cut) 0 → now ≡ new_page_at place bytes
unfolding new_page_at
filled_up place bytes cut now short cut_is now_is =
    let start : ℕ = 8192 * place in
    let size : length cut ≡ min start (length bytes) = ap (λ (l : List ℕ). length l) cut_is ∙ length-take start bytes in
    let zeros : List ℕ = replicate (start + 8192 - length (take start bytes)) 0 in
    now_is
    ∙ ap (λ (l : List ℕ). l ++ replicate (start + 8192 - length cut) 0) (take_all (start + 8192) cut (omega arith))
    ∙ ap (λ (l : List ℕ). l ++ replicate (start + 8192 - length l) 0) cut_is
    ∙ ap (λ (l : List ℕ). take start bytes ++ l) (sym (append-nil zeros))
    ∙ ap (λ (l : List ℕ). take start bytes ++ (zeros ++ l)) (sym (drop_all (start + 8192) bytes (omega arith)))

-- in any other the page is zeros then
pub zeroed : (place : ℕ) (bytes now : List ℕ) → 8192 * place + 8192 ≤ length bytes
    → now ≡ take (8192 * place) bytes ++ (replicate 8192 0 ++ drop (8192 * place + 8192) bytes) → now ≡ new_page_at place bytes
unfolding new_page_at
zeroed place bytes now within now_is =
    let start : ℕ = 8192 * place in
    let before = length-take start bytes in
    let size : 8192 ≡ start + 8192 - length (take start bytes) = omega arith in
    now_is ∙ ap (λ (n : ℕ). take start bytes ++ (replicate n 0 ++ drop (start + 8192) bytes)) size

-- the segment of a block was made, if it wasn't there, and then the page put in it
pub page_added : (seg_blocks block : ℕ) (old made now : List (List ℕ)) → segment_of seg_blocks block < length made
    → take (segment_of seg_blocks block) made ≡ take (segment_of seg_blocks block) old
    → get_or made (segment_of seg_blocks block) [] ≡ get_or old (segment_of seg_blocks block) []
    → drop (segment_of seg_blocks block + 1) made ≡ drop (segment_of seg_blocks block + 1) old
    → now ≡ set made (segment_of seg_blocks block) (new_page_at (place_in_segment seg_blocks block) (get_or made (segment_of seg_blocks block) []))
    → now ≡ with_new_page seg_blocks block old
page_added seg_blocks block old made now there before here behind now_is =
    let index : ℕ = segment_of seg_blocks block in
    let place : ℕ = place_in_segment seg_blocks block in
    now_is
    ∙ set_split made index (new_page_at place (get_or made index [])) there
    ∙ ap (λ (n : ℕ). take index made ++ (new_page_at place (get_or made index []) ∷ drop n made)) (sym (add-one index))
    ∙ ap₂ (λ (l : List (List ℕ)) (bytes : List ℕ). l ++ (new_page_at place bytes ∷ drop (index + 1) made)) before here
    ∙ ap (λ (l : List (List ℕ)). take index old ++ (new_page_at place (get_or old index []) ∷ l)) behind

pub extended_none : (seg_blocks block : ℕ) (segments : List (List ℕ)) → extended seg_blocks block 0 segments ≡ segments
unfolding extended
extended_none seg_blocks block segments = refl

-- one new page more
pub extended_more : (seg_blocks from block n m : ℕ) (segments : List (List ℕ)) → m ≡ n + 1 → block ≡ from + n
    → extended seg_blocks from m segments ≡ with_new_page seg_blocks block (extended seg_blocks from n segments)
unfolding extended
extended_more seg_blocks from block n m segments m_is block_is =
    ap (λ (k : ℕ). extended seg_blocks from k segments) (m_is ∙ add-one n)
    ∙ ap (λ (b : ℕ). with_new_page seg_blocks b (extended seg_blocks from n segments)) (sym block_is)

pub last_within : (fork : Fork) (lanes : List (Option Pages)) (n : ℕ) → last_held fork lanes n ≤ n
unfolding last_held
last_within fork lanes zero = omega arith
last_within fork lanes (suc n) =
    cond_both (is_some (page_in lanes (tag_at fork n))) (suc n) (last_held fork lanes n) (λ (k : ℕ). k ≤ suc n)
    (λ held. omega arith)
    (λ not. let below = last_within fork lanes n in omega arith)

-- the last block is one that its lane has
pub held_here : (fork : Fork) (lanes : List (Option Pages)) (n end : ℕ) (page : List ℕ) → end ≡ n + 1
    → Some page ≡ page_in lanes (tag_at fork n) → last_held fork lanes end ≡ end
unfolding last_held
held_here fork lanes n end page end_is some =
    subst (λ (k : ℕ). last_held fork lanes k ≡ k) (sym (end_is ∙ add-one n))
    (ap (λ (o : Option (List ℕ)). cond (is_some o) (suc n) (last_held fork lanes n)) (sym some))

-- it isn't
pub held_below : (fork : Fork) (lanes : List (Option Pages)) (n end : ℕ) → end ≡ n + 1 → None ≡ page_in lanes (tag_at fork n)
    → last_held fork lanes end ≡ last_held fork lanes n
unfolding last_held
held_below fork lanes n end end_is none =
    ap (λ (k : ℕ). last_held fork lanes k) (end_is ∙ add-one n)
    ∙ ap (λ (o : Option (List ℕ)). cond (is_some o) (suc n) (last_held fork lanes n)) (sym none)

pub held_none : (fork : Fork) (lanes : List (Option Pages)) → last_held fork lanes 0 ≡ 0
unfolding last_held
held_none fork lanes = refl

-- how many blocks of segments are counted: those of the first if it isn't full
pub count_short : (seg_blocks : ℕ) (bytes : List ℕ) (segments : List (List ℕ)) → length bytes / 8192 < seg_blocks
    → length (segment_pages seg_blocks (bytes ∷ segments)) ≡ length bytes / 8192
count_short seg_blocks bytes segments below =
    let n : ℕ = length bytes / 8192 in
    let is : segment_pages seg_blocks (bytes ∷ segments) ≡ first_blocks bytes n = rw (lt-ltb n seg_blocks below) in
    ap (λ (l : List (List ℕ)). length l) is ∙ length-first bytes n

-- and those of the others if it is
pub count_full : (seg_blocks : ℕ) (bytes : List ℕ) (segments : List (List ℕ)) → seg_blocks ≤ length bytes / 8192
    → length (segment_pages seg_blocks (bytes ∷ segments)) ≡ seg_blocks + length (segment_pages seg_blocks segments)
count_full seg_blocks bytes segments full =
    let n : ℕ = length bytes / 8192 in
    let others = segment_pages seg_blocks segments in
    let is : segment_pages seg_blocks (bytes ∷ segments) ≡ first_blocks bytes seg_blocks ++ others = rw (le-ltb n seg_blocks full) in
    ap (λ (l : List (List ℕ)). length l) is ∙ length-append (first_blocks bytes seg_blocks) others
    ∙ ap (λ (k : ℕ). k + length others) (length-first bytes seg_blocks)

-- the same of the segments from one on, of which this is the first
pub count_first : (seg_blocks : ℕ) (rest : List (Vec ℕ Global)) (segment : Vec ℕ Global) → segment ≡ get_or rest 0 segment → 1 ≤ length rest
    → length segment.items / 8192 < seg_blocks → length (segment_pages seg_blocks (bytes_of rest)) ≡ length segment.items / 8192
count_first seg_blocks [] segment is some below = absurd (omega arith)
count_first seg_blocks (first ∷ rest) segment is some below =
    subst (λ (s : Vec ℕ Global). length (segment_pages seg_blocks (bytes_of (first ∷ rest))) ≡ length s.items / 8192) (sym is)
    (count_short seg_blocks first.items (bytes_of rest) (subst (λ (s : Vec ℕ Global). length s.items / 8192 < seg_blocks) is below))

pub count_rest : (seg_blocks : ℕ) (rest : List (Vec ℕ Global)) (segment : Vec ℕ Global) → segment ≡ get_or rest 0 segment → 1 ≤ length rest
    → seg_blocks ≤ length segment.items / 8192
    → length (segment_pages seg_blocks (bytes_of rest)) ≡ seg_blocks + length (segment_pages seg_blocks (bytes_of (take (length rest - 1) (drop 1 rest))))
count_rest seg_blocks [] segment is some full = absurd (omega arith)
count_rest seg_blocks (first ∷ rest) segment is some full =
    count_full seg_blocks first.items (bytes_of rest) (subst (λ (s : Vec ℕ Global). seg_blocks ≤ length s.items / 8192) is full)
    ∙ ap (λ (others : List (Vec ℕ Global)). seg_blocks + length (segment_pages seg_blocks (bytes_of others))) (sym (take_rest (first ∷ rest) 1))

pub count_none : (seg_blocks : ℕ) (rest : List (Vec ℕ Global)) → length rest < 1 → length (segment_pages seg_blocks (bytes_of rest)) ≡ 0
count_none seg_blocks [] none = refl
count_none seg_blocks (first ∷ rest) none = absurd (omega arith)

pub length-relation : (seg_blocks : ℕ) (segments : List (List ℕ))
    → length (relation_of seg_blocks segments) ≡ min (2 ^ 32 - 1) (length (segment_pages seg_blocks segments))
unfolding relation_of
length-relation seg_blocks segments = length-take (2 ^ 32 - 1) (segment_pages seg_blocks segments)

few_pages : (seg_blocks : ℕ) (segments : List (List ℕ)) → length (segment_pages seg_blocks segments) ≤ seg_blocks * length segments
few_pages seg_blocks [] = omega arith
few_pages seg_blocks (bytes ∷ segments) =
    let others = few_pages seg_blocks segments in
    elim (cases_lt (length bytes / 8192) seg_blocks) [
      | inl below ↦ let counted = count_short seg_blocks bytes segments below in omega arith
      | inr full ↦ let counted = count_full seg_blocks bytes segments full in omega arith
    ]

-- no segment has more blocks than it may have
pub few_blocks : (seg_blocks : ℕ) (segments : List (List ℕ)) → length (relation_of seg_blocks segments) ≤ seg_blocks * length segments
few_blocks seg_blocks segments =
    let counted = length-relation seg_blocks segments in
    let few = few_pages seg_blocks segments in
    omega arith

not_empty : (before behind : List (List ℕ)) (bytes : List ℕ) → before ++ (bytes ∷ behind) ≡ [] → ⊥
not_empty [] behind bytes none = cc none
not_empty (first ∷ before) behind bytes none = cc none

-- a relation that is there stays there
pub extended_there : (seg_blocks block n : ℕ) (segments : List (List ℕ)) → (segments ≡ [] → ⊥) → extended seg_blocks block n segments ≡ [] → ⊥
unfolding extended
extended_there seg_blocks block zero segments there none = there none
extended_there seg_blocks block (suc n) segments there none = not_empty _ _ _ none
