-- What a lane is as it goes out: its counts and, if its contents are known, its blocks.
use Rattle.std.specs.Prelude.{◌≡◌, ℕ, zero, suc, ◌^◌, Bool, true, false, ◌&&◌, nat_eq, List, [], ◌∷◌, ◌++◌, filter, map, Option, Some, None, unwrap_or, IsSome}
use Rattle.std.specs.Option.{ForSome}
use Rattle.block_tag.specs.declared.tag.Tag.{Tag}
use Rattle.block_tag.specs.declared.catalogue.RelEntry.{RelEntry}
use Rattle.block_tag.specs.Names.{names_block, unpacked_tag, lane_number}
use Rattle.segment_store.specs.Contents.{Pages, Marks}
use Rattle.pin_core.specs.declared.view.BlockPage.{BlockPage}
use Rattle.pin_core.specs.declared.view.BlockMark.{BlockMark}
use Rattle.pin_core.specs.declared.view.TakenLane.{TakenLane}
use Rattle.table_rule.specs.Blocks.{has_block, is_block}
use Rattle.table_rule.specs.Layout.{tag_lane}
use Rattle.table_rule.specs.Shows.{Devices}
use Rattle.table_rule.specs.LaneCalls.{LaneDevices}

-- the lanes among the devices
abbrev pub lane_devices_of : {L G : Type 0} → Devices L G → LaneDevices L
lane_devices_of d = record {
  contents = d.contents;
  failed_writes = d.failed_writes;
  unsynced = d.unsynced;
  read_faults = d.read_faults;
  write_faults = d.write_faults;
  calls = d.lane_calls;
}

-- A block of the relations that lies in the lane q of so many
pub record IsBlockOf (relations : List RelEntry) (lanes q : ℕ) (tag : Tag) : Type 0 where
  pub named : names_block tag ≡ true
  pub listed : has_block relations tag ≡ true
  pub placed : lane_number tag lanes ≡ q

-- whether a tag, by its number, is that of a block of the relations that lies in the lane q
abbrev pub is_block_of : List RelEntry → ℕ → ℕ → ℕ → Bool
is_block_of relations lanes q word = is_block relations word && nat_eq (tag_lane lanes word) q

-- the numbers below n
unfoldable pub numbers_below : ℕ → List ℕ
numbers_below zero = []
numbers_below (suc n) = numbers_below n ++ n ∷ []

-- the blocks that lie in the lane, by their tags' numbers, which are below 2 to the power 50
unfoldable pub blocks_in_lane : List RelEntry → ℕ → ℕ → List ℕ
blocks_in_lane relations lanes q = filter (is_block_of relations lanes q) (numbers_below (2 ^ 50))

-- the page and the mark that stand for a tag
abbrev pub page_named : Pages → Option Tag → List ℕ
page_named known None = []
page_named known (Some tag) = unwrap_or (known tag) []

abbrev pub mark_named : Marks → Option Tag → Bool
mark_named marks None = false
mark_named marks (Some tag) = marks tag

abbrev pub block_page : Pages → Marks → ℕ → BlockPage
block_page known marks word = record {
  tag = word;
  page = page_named known (unpacked_tag word);
  failed = mark_named marks (unpacked_tag word);
}

abbrev pub block_mark : Marks → ℕ → BlockMark
block_mark marks word = record { tag = word; unsynced = mark_named marks (unpacked_tag word) }

-- the page that a lane holds for a tag, if its contents are known, and else this one
abbrev pub page_held : Option Pages → Tag → List ℕ → List ℕ
page_held None tag page = page
page_held (Some known) tag page = unwrap_or (known tag) page

abbrev pub block_pages : List ℕ → Option Pages → Marks → Option (List BlockPage)
block_pages blocks None marks = None
block_pages blocks (Some known) marks = Some (map (block_page known marks) blocks)

module _ {L : Type 0} (d : LaneDevices L) (relations : List RelEntry) (lanes q : ℕ) where
  -- what the lane q is
  abbrev pub taken_lane : L → TakenLane
  taken_lane l = record {
    pages = block_pages (blocks_in_lane relations lanes q) (d.contents l)
        (d.failed_writes l);
    marks = map (block_mark (d.unsynced l))
        (blocks_in_lane relations lanes q);
    read_faults = d.read_faults l;
    write_faults =
        d.write_faults l;
    calls = d.calls l;
  }

  -- if its contents are known it holds each block that lies there
  abbrev pub HoldsBlocks : L → Type 0
  HoldsBlocks l = (tag : Tag) → IsBlockOf relations lanes q tag
      → ForSome (d.contents l) (λ known. IsSome (known tag))
