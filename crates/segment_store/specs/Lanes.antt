-- Lanes side by side, each with the blocks whose tags are its own.
use Rattle.std.specs.Prelude.{◌≡◌, ℕ, ◌<◌, ◌==◌, ◌&&◌, Bool, List, length, map, get_or, slice_get}
use Rattle.std.specs.Prelude.{[], Option, Some, None, IsSome, IfSome, IsSomeAnd, is_some, nat_lt}
use Rattle.std.specs.Prelude.{true, if◌then◌else◌}
use Rattle.std.specs.Option.{ForSome, option_and_then}
use Rattle.std.specs.List.{range_with_len}
use Rattle.block_tag.specs.Names.{lane_number, tag_eq}
use Rattle.block_tag.specs.declared.tag.Fork.{Fork}
use Rattle.block_tag.specs.declared.tag.Tag.{Tag}
use Rattle.segment_store.specs.Contents.{Marks, Pages, no_marks}

-- the tag of a block of the one relation that is open
abbrev pub tag_at : Fork → ℕ → Tag
tag_at fork block = record { rel = record { 0 = 0 }; fork = fork; block = block }

-- the pages of one of `lanes` lanes: those of the relation's blocks whose tags have the lane's
-- number
abbrev pub own_pages : Fork → List (List ℕ) → ℕ → ℕ → Pages
own_pages fork pages lanes number =
    λ tag. if tag_eq tag (tag_at fork tag.block) && lane_number tag lanes == number
    then slice_get pages tag.block else None

-- what `lanes` lanes hold of a relation, all together each block once
abbrev pub dealt : Fork → List (List ℕ) → ℕ → List (Option Pages)
dealt fork pages lanes =
    map (λ number. Some (own_pages fork pages lanes number)) (range_with_len 0 lanes)

-- the tags of one of `lanes` lanes: of the first `count` blocks, those that have the lane's number
abbrev pub own_room : Fork → ℕ → ℕ → ℕ → Marks
own_room fork count lanes number =
    λ tag. tag_eq tag (tag_at fork tag.block) && lane_number tag lanes == number
    && nat_lt tag.block count

-- the tags of `lanes` lanes, all together those of the first `count` blocks
abbrev pub rooms_dealt : Fork → ℕ → ℕ → List Marks
rooms_dealt fork count lanes = map (own_room fork count lanes) (range_with_len 0 lanes)

-- what the lane of a tag holds, if that is known
abbrev pub lane_at : List (Option Pages) → Tag → Option Pages
lane_at lanes tag = get_or lanes (lane_number tag (length lanes)) None

-- the page of a tag in its lane, if it is known and there
abbrev pub page_in : List (Option Pages) → Tag → Option (List ℕ)
page_in lanes tag = option_and_then (λ pages. pages tag) (lane_at lanes tag)

-- whether the lane of a tag has it marked
abbrev pub mark_in : List Marks → Tag → Bool
mark_in lanes tag = get_or lanes (lane_number tag (length lanes)) no_marks tag

-- if a lane's contents are known, it has each block that is its own
abbrev pub HasBlocks : Fork → ℕ → List (Option Pages) → Type 0
HasBlocks fork blocks lanes =
    (block : ℕ) → block < blocks
    → ForSome (lane_at lanes (tag_at fork block)) (λ pages. IsSome (pages (tag_at fork block)))

-- if a lane's contents are known, all that it has is its own
abbrev pub HoldTheirs : List (Option Pages) → Type 0
HoldTheirs lanes =
    (q : ℕ) (tag : Tag) → q < length lanes
    → IfSome (get_or lanes q None) (λ pages. is_some (pages tag) ≡ true
    → lane_number tag (length lanes) ≡ q)

-- the contents of the lane of a tag are known, and have this page there
abbrev pub HasPage : Tag → List ℕ → List (Option Pages) → Type 0
HasPage tag page lanes = IsSomeAnd (lane_at lanes tag) (λ pages. pages tag ≡ Some page)

-- the lanes hold these pages as the relation's blocks
abbrev pub HoldPages : Fork → List (List ℕ) → List (Option Pages) → Type 0
HoldPages fork pages lanes =
    (block : ℕ) → block < length pages → HasPage (tag_at fork block) (get_or pages block []) lanes
