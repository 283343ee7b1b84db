-- Relations that grow: lanes that are given back with a source may hold blocks past the end.
use Rattle.std.specs.Prelude.{ℕ, zero, suc, ◌+◌, ◌-◌, ◌*◌, List, ◌∷◌, ◌++◌, length, take, drop}
use Rattle.std.specs.Prelude.{get_or, replicate, [], Option, Some, None, is_some, if◌then◌else◌}
use Rattle.std.specs.Option.{option_map}
use Rattle.std.specs.Str.{bytes_eq}
use Rattle.block_tag.specs.Names.{place_in_segment, segment_of}
use Rattle.block_tag.specs.declared.tag.Fork.{Fork}
use Rattle.segment_store.specs.Contents.{Pages}
use Rattle.segment_store.specs.Lanes.{page_in, tag_at}
use Rattle.segment_store.specs.Paths.{OpenAt, Paths, fork_of}
use Rattle.segment_store.specs.Relation.{relation_of}
use Rattle.segment_store.specs.Restored.{paths_after}

-- a segment with a new page at this place, filled up with zeros before it if it is shorter;
-- what stands after it stays
unfoldable pub new_page_at : ℕ → List ℕ → List ℕ
new_page_at place bytes =
    take (8192 * place) bytes
    ++ (replicate (8192 * place + 8192 - length (take (8192 * place) bytes)) 0
    ++ drop (8192 * place + 8192) bytes)

-- segments with a new page as this block; the segment after the last is made
abbrev pub with_new_page : ℕ → ℕ → List (List ℕ) → List (List ℕ)
with_new_page seg_blocks block segments =
    take (segment_of seg_blocks block) segments
    ++ (new_page_at (place_in_segment seg_blocks block)
    (get_or segments (segment_of seg_blocks block) [])
    ∷ drop (segment_of seg_blocks block + 1) segments)

-- segments with new pages as n blocks, from this one on
unfoldable pub extended : ℕ → ℕ → ℕ → List (List ℕ) → List (List ℕ)
extended seg_blocks block zero segments = segments
extended seg_blocks block (suc n) segments =
    with_new_page seg_blocks (block + n) (extended seg_blocks block n segments)

-- one more than the last of the first n blocks that its lane has; 0 if there is none
unfoldable pub last_held : Fork → List (Option Pages) → ℕ → ℕ
last_held fork lanes zero = 0
last_held fork lanes (suc n) =
    if is_some (page_in lanes (tag_at fork n)) then suc n else last_held fork lanes n

-- the segments of a relation that may have `room` blocks, with new pages from its end up to the
-- last block that its lane has
abbrev pub grown : Fork → ℕ → ℕ → List (Option Pages) → List (List ℕ) → List (List ℕ)
grown fork seg_blocks room lanes segments =
    extended seg_blocks (length (relation_of seg_blocks segments))
    (last_held fork lanes room - length (relation_of seg_blocks segments)) segments

-- the paths once the relation that was opened last has grown, if it may; all others are as they
-- were
abbrev pub paths_grown : OpenAt → Option ℕ → List (Option Pages) → Paths → Paths
paths_grown at None lanes paths = paths
paths_grown at (Some room) lanes paths =
    λ path. if bytes_eq path at.path
    then grown (fork_of at.path) at.seg_blocks room lanes (paths path)
    else paths path

-- how many blocks the relation that was opened last may have, if a source is given
abbrev pub room_given : {S : Type 0} → (List ℕ → ℕ → ℕ) → OpenAt → Option S → Option ℕ
room_given room at source = option_map (λ _. room at.path at.seg_blocks) source

-- the paths once lanes were given back, and maybe a source
abbrev pub paths_given : {S : Type 0} → (List ℕ → ℕ → ℕ) → OpenAt → Option S
    → List (Option Pages) → Paths → Paths
paths_given room at source lanes paths =
    paths_after at lanes (paths_grown at (room_given room at source) lanes paths)
