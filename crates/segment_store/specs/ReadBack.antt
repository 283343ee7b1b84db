-- What is put into segments is read back from them, and where each block stands.
use Rattle.std.specs.Prelude.{◌≡◌, ℕ, ◌+◌, ◌-◌, ◌^◌, ◌<◌, ◌≤◌, List, [], ◌++◌, All, Option, IfSome}
use Rattle.std.specs.Prelude.{length, take, drop, get_or, replicate}
use Rattle.block_tag.specs.Names.{place_in_segment, segment_of}
use Rattle.block_tag.specs.declared.tag.Fork.{Fork}
use Rattle.segment_store.specs.Contents.{AreFullPages, Pages}
use Rattle.segment_store.specs.Growth.{extended}
use Rattle.segment_store.specs.Relation.{block_at, relation_of, segment_pages}
use Rattle.segment_store.specs.Restored.{given_back, pages_in, restored}

-- pages put in the place of the first blocks are the first blocks then, and the others are as they
-- were
abbrev pub ReadsBack : Type 0
ReadsBack =
    (seg_blocks : ℕ) (segments pages : List (List ℕ)) → All (λ page. length page ≡ 8192) pages
    → length pages ≤ length (segment_pages seg_blocks segments)
    → segment_pages seg_blocks (restored seg_blocks segments pages)
    ≡ pages ++ drop (length pages) (segment_pages seg_blocks segments)

-- a relation whose lanes were given back has their pages, each as it was if no lane has it
abbrev pub HasGivenPages : Type 0
HasGivenPages =
    (fork : Fork) (seg_blocks : ℕ) (lanes : List (Option Pages)) (segments : List (List ℕ))
    → All (λ lane. IfSome lane AreFullPages) lanes
    → relation_of seg_blocks (given_back fork seg_blocks lanes segments)
    ≡ pages_in fork lanes 0 (relation_of seg_blocks segments)

-- each block of a relation stands at its place in its segment
abbrev pub StandsInPlace : Type 0
StandsInPlace =
    (seg_blocks : ℕ) (segments : List (List ℕ)) (block : ℕ) → 1 ≤ seg_blocks
    → block < length (relation_of seg_blocks segments)
    → get_or (relation_of seg_blocks segments) block []
    ≡ block_at (get_or segments (segment_of seg_blocks block) [])
    (place_in_segment seg_blocks block)

-- new pages that were put from a relation's end on are its next blocks, behind those that it had;
-- others may follow
abbrev pub HasNewPages : Type 0
HasNewPages = (seg_blocks n : ℕ) (segments : List (List ℕ)) → 1 ≤ seg_blocks
    → length (relation_of seg_blocks segments) + n ≤ 2 ^ 32 - 1
    → take (length (relation_of seg_blocks segments) + n)
    (relation_of seg_blocks
    (extended seg_blocks (length (relation_of seg_blocks segments)) n segments))
    ≡ relation_of seg_blocks segments ++ replicate n (replicate 8192 0)
