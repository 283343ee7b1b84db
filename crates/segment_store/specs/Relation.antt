-- The pages of a relation: the whole blocks of its segments.
use Rattle.std.specs.Prelude.{ℕ, ◌+◌, ◌*◌, ◌/◌, ◌^◌, ◌-◌, List, [], ◌∷◌, ◌++◌, length, take, map}
use Rattle.std.specs.Prelude.{nat_lt, if◌then◌else◌}
use Rattle.std.specs.List.{range_with_len, slice_range}

-- the block at this place of a file
unfoldable pub block_at : List ℕ → ℕ → List ℕ
block_at bytes place = slice_range bytes (8192 * place) (8192 * place + 8192)

-- the first `count` blocks of a file
abbrev pub first_blocks : List ℕ → ℕ → List (List ℕ)
first_blocks bytes count = map (block_at bytes) (range_with_len 0 count)

-- up to this many blocks of each segment, and none after a segment that has fewer
abbrev pub segment_pages : ℕ → List (List ℕ) → List (List ℕ)
segment_pages seg_blocks [] = []
segment_pages seg_blocks (bytes ∷ segments) =
    if nat_lt (length bytes / 8192) seg_blocks then first_blocks bytes (length bytes / 8192)
    else first_blocks bytes seg_blocks ++ segment_pages seg_blocks segments

-- those whose number is a block's number, 0 to 0xFFFFFFFE
unfoldable pub relation_of : ℕ → List (List ℕ) → List (List ℕ)
relation_of seg_blocks segments = take (2 ^ 32 - 1) (segment_pages seg_blocks segments)
