-- What opening a relation answers.
use Rattle.std.specs.Prelude.{◌≡◌, ◌≢◌, ℕ, ◌<◌, List, [], length, All, Option, IfSome, map, max}
use Rattle.std.specs.Prelude.{sum_by, true}
use Rattle.block_tag.specs.declared.tag.Fork.{Fork}
use Rattle.block_tag.specs.declared.tag.Tag.{Tag}
use Rattle.segment_store.specs.declared.host.Opened.{Opened}
use Rattle.segment_store.specs.Contents.{Marks, Pages, no_marks}
use Rattle.segment_store.specs.Lanes.{HasBlocks, HoldPages, HoldTheirs, dealt}
use Rattle.segment_store.specs.Paths.{Paths}
use Rattle.segment_store.specs.Relation.{relation_of}

module _ {L : Type 0} (contents : L → Option Pages) (failed unsynced lane_room : L → Marks)
    (read_faults write_faults : L → ℕ) where
  -- as many lanes as were asked for, without faults or writes, and each holds only its own blocks;
  -- if the paths are known, the relation is there, each block is in the lane of its tag and nothing
  -- else is, and no lane has room for a block past the end but those that the relation may have
  pub record IsOpened (known : Option Paths) (room : ℕ) (path : List ℕ) (fork : Fork)
      (seg_blocks lanes : ℕ) (opened : Opened L) : Type 0 where
    pub count : length opened.lanes.items ≡ lanes
    pub reads : sum_by read_faults opened.lanes.items ≡ 0
    pub writes : sum_by write_faults opened.lanes.items ≡ 0
    pub unmarked : All (λ lane. failed lane ≡ no_marks) opened.lanes.items
    pub synced : All (λ lane. unsynced lane ≡ no_marks) opened.lanes.items
    pub has : HasBlocks fork opened.blocks (map contents opened.lanes.items)
    pub theirs : HoldTheirs (map contents opened.lanes.items)
    pub there : IfSome known (λ paths. paths path ≢ [])
    pub blocks : IfSome known (λ paths.
        opened.blocks ≡ length (relation_of seg_blocks (paths path)))
    pub holds : IfSome known (λ paths. HoldPages fork (relation_of seg_blocks (paths path))
        (map contents opened.lanes.items))
    pub only : IfSome known (λ paths. map contents opened.lanes.items
        ≡ dealt fork (relation_of seg_blocks (paths path)) lanes)
    pub rooms : IfSome known (λ _. All (λ lane. (tag : Tag)
        → lane_room lane tag ≡ true → tag.block < max room opened.blocks) opened.lanes.items)
