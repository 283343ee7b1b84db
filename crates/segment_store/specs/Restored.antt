-- What a relation's segments are once its lanes were given back.
use Rattle.std.specs.Prelude.{ℕ, false, ◌+◌, ◌*◌, List, [], ◌∷◌, ◌++◌, length, take, drop}
use Rattle.std.specs.Prelude.{unwrap_or, Option, if◌then◌else◌}
use Rattle.std.specs.List.{concat}
use Rattle.std.specs.Str.{bytes_eq}
use Rattle.block_tag.specs.declared.tag.Fork.{Fork}
use Rattle.segment_store.specs.Contents.{Marks, Pages}
use Rattle.segment_store.specs.Lanes.{mark_in, page_in, tag_at}
use Rattle.segment_store.specs.Paths.{OpenAt, Paths, PathMarks, fork_of}
use Rattle.segment_store.specs.Relation.{relation_of}

-- the pages from this block on as their lanes have them, each as it was if no lane has it
abbrev pub pages_in : Fork → List (Option Pages) → ℕ → List (List ℕ) → List (List ℕ)
pages_in fork lanes block [] = []
pages_in fork lanes block (page ∷ pages) =
    unwrap_or (page_in lanes (tag_at fork block)) page ∷ pages_in fork lanes (block + 1) pages

-- a segment that begins with these pages, the bytes after them being as they were
abbrev pub with_pages : List (List ℕ) → List ℕ → List ℕ
with_pages pages bytes = concat pages ++ drop (8192 * length pages) bytes

-- segments that have these pages as their blocks, up to seg_blocks of them in each; all other bytes
-- are as they were
abbrev pub restored : ℕ → List (List ℕ) → List (List ℕ) → List (List ℕ)
restored seg_blocks [] pages = []
restored seg_blocks (bytes ∷ segments) pages =
    with_pages (take seg_blocks pages) bytes ∷ restored seg_blocks segments (drop seg_blocks pages)

-- the segments of a relation with the blocks that its lanes have put at their places
unfoldable pub given_back : Fork → ℕ → List (Option Pages) → List (List ℕ) → List (List ℕ)
given_back fork seg_blocks lanes segments =
    restored seg_blocks segments (pages_in fork lanes 0 (relation_of seg_blocks segments))

-- the same at the path that was opened last; all other paths are as they were
abbrev pub paths_after : OpenAt → List (Option Pages) → Paths → Paths
paths_after at lanes paths =
    λ path. if bytes_eq path at.path
    then given_back (fork_of at.path) at.seg_blocks lanes (paths path)
    else paths path

-- at the path that was opened last the blocks that their lanes have marked; all other paths are as
-- they were
abbrev pub marks_after : OpenAt → List Marks → PathMarks → PathMarks
marks_after at lanes marks =
    λ path. if bytes_eq path at.path then (λ block. mark_in lanes (tag_at (fork_of at.path) block))
    else marks path

-- at this path no block is marked; all other paths are as they were
abbrev pub cleared : List ℕ → PathMarks → PathMarks
cleared opened marks = λ path. if bytes_eq path opened then (λ block. false) else marks path
