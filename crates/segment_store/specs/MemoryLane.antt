-- Lanes in memory.
use Rattle.std.specs.Prelude.{◌≡◌, ℕ, ◌+◌, ◌%◌, List, length, Bool, true, false, if◌then◌else◌}
use Rattle.std.specs.Prelude.{get_or, Option, Some, None, is_some, IfSome, slice_set}
use Rattle.std.specs.Option.{option_and_then, option_map_or}
use Rattle.std.proofs.Common.{refl}
use Rattle.std.specs.BTreeMap as tree
use Rattle.block_tag.specs.contracts.tag.TagOrd.TheImpl as tags
use Rattle.segment_store.specs.Contents.{Marks, Pages}
use Rattle.byte_devices.specs.Plan.{fresh_plan}
use Rattle.segment_store.specs.History.{calls_in, unsynced_in}
use Rattle.segment_store.specs.declared.memory_lane.LanePlan.{LanePlan}
use Rattle.segment_store.specs.declared.memory_block.MemBlock.{MemBlock}
use Rattle.segment_store.specs.declared.memory_lane.MemLane.{MemLane}

-- the page of a place, unless it is vacant
abbrev pub page_there : MemBlock → Option (List ℕ)
page_there block = if block.there then Some block.page else None

-- the pages of a lane by their tags
abbrev pub pages_of : MemLane → Pages
pages_of lane = λ tag. option_and_then page_there (tree.get tags.ghosts.cmp lane.blocks tag)

-- the tags of a lane whose last write failed
abbrev pub marks_of : MemLane → Marks
marks_of lane =
    λ tag. option_map_or (λ block. block.failed) (tree.get tags.ghosts.cmp lane.blocks tag) false

-- the tags for which a lane has a place
abbrev pub room_of : MemLane → Marks
room_of lane = λ tag. is_some (tree.get tags.ghosts.cmp lane.blocks tag)

-- the page of a place has 8192 bytes
pub whole_page : (block : Option MemBlock)
    → IfSome (option_and_then page_there block) (λ page. length page ≡ 8192)
whole_page None = tt
whole_page (Some block) = whole_there block.there block.page block.whole where
  whole_there : (there : Bool) (page : List ℕ) → length page ≡ 8192
      → IfSome (if there then Some page else None) (λ page. length page ≡ 8192)
  whole_there true page whole = whole
  whole_there false page whole = tt

-- a block that has a page has a place
pub there_has_room : (block : Option MemBlock) → is_some (option_and_then page_there block) ≡ true
    → is_some block ≡ true
there_has_room None there = there
there_has_room (Some block) there = refl

-- the tags that were written since the last sync that succeeded
abbrev pub unsynced_of : MemLane → Marks
unsynced_of lane = unsynced_in lane.history

-- how many calls there were
abbrev pub calls_of : MemLane → ℕ
calls_of lane = calls_in lane.history

-- which of its calls are to fail
abbrev pub plan_of : MemLane → LanePlan
plan_of lane = lane.plan

-- the same calls to fail, with no call made
abbrev pub fresh_lane_plan : LanePlan → LanePlan
fresh_lane_plan plan =
    record {
      reads = fresh_plan plan.reads;
      writes = fresh_plan plan.writes;
      syncs = fresh_plan plan.syncs;
    }

-- what a failed write leaves: the page as it was to be, but for its last byte, which is one more
-- than it was
abbrev pub torn_page : List ℕ → List ℕ → List ℕ
torn_page old new = slice_set new 8191 ((get_or old 8191 0 + 1) % 256)
