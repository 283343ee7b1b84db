-- The rule of the table: what its words, slots and views show of a state that has the law.
use Rattle.std.specs.Prelude.{◌≡◌, ℕ, ◌<◌, ◌≤◌, ◌%◌, ◌^◌, Bool, true, false, List, [], Vec, vec_capacity, length, map, slice_index, Option, Some, None, is_some, IsSomeAnd}
use Rattle.std.specs.Global.{Global}
use mathlib.Core.Option.{some}
use mathlib.Core.Option as slot
use lib.ListN.{get_elem?}
use Rattle.atomic_table.specs.Table as table
use Rattle.state_word.specs.Fields.{fields, bit}
use Rattle.block_tag.specs.declared.tag.Tag.{Tag}
use Rattle.block_tag.specs.Names.{unpacked_tag, lane_number}
use Rattle.block_tag.specs.declared.catalogue.RelEntry.{RelEntry}
use Rattle.byte_devices.specs.declared.device.LogDevice as log_trait
use Rattle.segment_store.specs.declared.device.BlockLane as lane_trait
use Rattle.segment_store.specs.Contents.{Pages, Marks}
use Rattle.pin_core.specs.declared.view.View.{View}
use Rattle.pin_core.specs.declared.view.MapEntry.{MapEntry}
use Rattle.pin_core.specs.State.{Frame, Page, link, hold, lane_hold, first_view}
use Rattle.pin_core.specs.Turns.{found}
use Rattle.pin_core.specs.Tallies.{flag_weight}
use Rattle.history_core.specs.State.{State, Lane, Device}
use Rattle.history_core.specs.Words.{Word, word_of}
use Rattle.history_core.specs.Log.{record_size, head_bytes}
use Rattle.history_core.specs.Laws.{Laws}
use Rattle.table_rule.specs.declared.value.Mapped.{Mapped}
use Rattle.table_rule.specs.declared.noted_lane.LaneCall.TheVariants as lane_call
use Rattle.table_rule.specs.declared.noted_log.LogCall.TheVariants as log_call
use Rattle.table_rule.specs.declared.value.Value.{Value}
use Rattle.table_rule.specs.declared.value.Value.TheVariants as value
use Rattle.table_rule.specs.declared.opening.Opening.{Opening}
use Rattle.table_rule.specs.declared.turn.Place.{Place}
use Rattle.table_rule.specs.declared.turn.Place.TheVariants as place
use Rattle.table_rule.specs.declared.turn.Turn.{Turn}
use Rattle.table_rule.specs.declared.turn.Turn.TheVariants as turn
use Rattle.table_rule.specs.Blocks.{has_block, fork_size, is_fork, log_name}
use Rattle.table_rule.specs.Layout.{state_place, tag_place, content_place, latch_place, word_place, HasWord, word_count, slot_of, list_slot, slot_count, tag_partition, tag_lane}

-- What the words say of the frame f
pub record ShowsFrame (words : List ℕ) (f : ℕ) (fr : Frame) : Type 0 where
  pub word : fr.word ≡ fields (slice_index words (state_place f))
  pub tag : fr.tag ≡ slice_index words (tag_place f)
  -- the content word: 18 bits of sharers, the exclusive bit, and the copy latch
  pub sharers : fr.sharers ≡ slice_index words (content_place f) % 2 ^ 18
  pub exclusive : fr.exclusive ≡ bit 18 (slice_index words (content_place f))
  pub copying : fr.copying ≡ bit 19 (slice_index words (content_place f))
  pub small : slice_index words (content_place f) < 2 ^ 20

-- whether a backend has the latch
abbrev pub is_taken : Turn → State → Bool
is_taken (turn.Partition p) s = (s.pool.core.partition p).taken
is_taken (turn.Lane q) s = (s.lane q).taken
is_taken turn.Log s = s.device.taken

-- whether a table of so many lanes has the latch
abbrev pub HasTurn : ℕ → Turn → Type 0
HasTurn lanes (turn.Partition p) = p < 128
HasTurn lanes (turn.Lane q) = q < lanes
HasTurn lanes turn.Log = Unit {0}

-- What the words say of the latches, and of the other words
pub record ShowsLatches (n lanes : ℕ) (words : List ℕ) (s : State) : Type 0 where
  -- a latch is taken if its word is 1, and else its word is 0
  pub latch : (x : Turn) → HasTurn lanes x → slice_index words (latch_place n x) ≡ flag_weight
      (is_taken x s)
  pub word : (w : Word) → HasWord n w → slice_index words (word_place n w) ≡ word_of w s

-- What no step changes of a state: what it was opened with.
-- One record, so a step keeps all of it by one equation.
pub record Fixed : Type 0 where
  pub frames : ℕ
  pub backends : ℕ
  pub base : ℕ
  pub partitions : ℕ
  pub partition_of : ℕ → ℕ
  -- the forks, their sizes at the start, and whether they may grow and shrink
  pub is_fork : ℕ → Bool
  pub sizes : ℕ → ℕ
  pub resizes : Bool
  pub names : ℕ → List ℕ
  -- whether entries may be made of ranges
  pub ranges : Bool
  pub lanes : ℕ
  pub lane_of : ℕ → ℕ
  pub known : ℕ → Bool
  pub origin : ℕ → Option Page
  -- the blocks that were to be synced at the start
  pub unsynced : ℕ → Bool
  -- the counts of faults of each lane, and of the log, at the start
  pub reads : ℕ → ℕ
  pub writes : ℕ → ℕ
  pub log_faults : ℕ

abbrev pub fixed_of : State → Fixed
fixed_of s = record {
  frames = s.pool.core.frames;
  backends = s.pool.core.backends;
  base = s.log.base;
  partitions = s.pool.core.partitions;
  partition_of = s.pool.core.partition_of;
  is_fork = s.pool.core.is_fork;
  sizes = s.opened_sizes;
  resizes = s.pool.core.resizes;
  names = s.names;
  ranges = s.ranges;
  lanes = s.lanes;
  lane_of = s.lane_of;
  known = s.known;
  origin = s.origin;
  unsynced = s.unsynced_at_start;
  reads = λ q. (s.lane q).read_faults_at_start;
  writes = λ q. (s.lane q).write_faults_at_start;
  log_faults = s.log_faults;
}

-- whether a view has the value of a place out
abbrev pub is_out : Place → View → Bool
is_out (place.Page f) v = is_some (link v f).out
is_out (place.Of (turn.Partition p)) v = is_some (hold v p).out
is_out (place.Of (turn.Lane q)) v = is_some (lane_hold v q).out
is_out (place.Of turn.Log) v = is_some v.log.out

-- no view has it out
abbrev pub IsHome : Place → List View → Type 0
IsHome x views = (i : ℕ) (v : View) → get_elem? views i ≡ some v → is_out x v ≡ false

-- the entries of a map, as views note them
abbrev pub entry_of : Mapped → MapEntry
entry_of m = record { tag = m.tag; frame = m.frame }

-- no tag stands twice
abbrev pub AreApart : List Mapped → Type 0
AreApart entries = (i j : ℕ) (a b : Mapped) → get_elem? entries i ≡ some a
    → get_elem? entries j ≡ some b → a.tag ≡ b.tag → i ≡ j

-- Entries of a map, with room for one of each of n frames: no tag stands twice
pub record GivesEntries (n : ℕ) (entries : Vec Mapped Global) (m : ℕ → Option ℕ) : Type 0 where
  pub found : found (map entry_of entries.items) ≡ m
  pub apart : AreApart entries.items
  pub room : n ≤ vec_capacity entries

-- The devices, as their traits tell them
pub record Devices (L G : Type 0) : Type 0 where
  -- the pages of a lane, and the blocks whose last write failed, if they are known
  pub contents : L → Option Pages
  pub failed_writes : L → Marks
  -- the blocks that were written since the last sync that succeeded
  pub unsynced : L → Marks
  -- how many reads, and how many writes and syncs, have failed, and how many calls were made
  pub read_faults : L → ℕ
  pub write_faults : L → ℕ
  pub lane_calls : L → ℕ
  -- the bytes of a log, and how many of them are durable, if they are known
  pub bytes : G → Option (List ℕ)
  pub synced : G → ℕ
  -- how many appends and syncs have failed, and how many were made
  pub log_faults : G → ℕ
  pub log_calls : G → ℕ

-- what devices are, as the traits of the lanes and the log tell it
abbrev pub devices : {L G : Type 0} → lane_trait.Ghosts L → log_trait.Ghosts G → Devices L G
devices l g = record {
  contents = l.contents;
  failed_writes = l.failed_writes;
  unsynced = l.unsynced;
  read_faults = l.read_faults;
  write_faults = l.write_faults;
  lane_calls = l.calls;
  bytes = g.bytes;
  synced = g.synced;
  log_faults = g.faults;
  log_calls = g.calls;
}

-- A block of the relations, by its tag and the tag's number, that lies in the lane q of so many
pub record IsPlaced (relations : List RelEntry) (lanes q word : ℕ) (tag : Tag) : Type 0 where
  pub named : unpacked_tag word ≡ Some tag
  pub listed : has_block relations tag ≡ true
  pub placed : lane_number tag lanes ≡ q

-- If what the lane q holds now is known, then what it held was, too, and each tag that is no block
-- of the relations there has the page that it had, or still has none
abbrev pub KeepsOthers : List RelEntry → ℕ → ℕ → Option Pages → Option Pages → Type 0
KeepsOthers relations lanes q opened now =
    (known : Pages) (tag : Tag) → now ≡ Some known
    → ((word : ℕ) → IsPlaced relations lanes q word tag → ⊥)
    → IsSomeAnd opened (λ was. known tag ≡ was tag)

-- what the lane q among these holds, if that is known
abbrev pub contents_in : {L : Type 0} → (L → Option Pages) → slot.Option L → Option Pages
contents_in contents slot.none = None
contents_in contents (slot.some l) = contents l

abbrev pub contents_at : {L : Type 0} → (L → Option Pages) → List L → ℕ → Option Pages
contents_at contents lanes q = contents_in contents (get_elem? lanes q)

module _ {L G : Type 0} where
  -- The lane q of so many is the device l; `opened` is what it held as the table was opened
  pub record IsLane (d : Devices L G) (relations : List RelEntry) (lanes q : ℕ)
      (opened : Option Pages) (l : L) (ln : Lane) : Type 0 where
    pub known : ln.known ≡ is_some (d.contents l)
    -- it holds each block of the relations that lies there, and these are the pages
    pub held : (known : Pages) (word : ℕ) (tag : Tag) → d.contents l ≡ Some known
        → IsPlaced relations lanes q word tag → is_some (known tag) ≡ true
    pub pages : (known : Pages) (word : ℕ) (tag : Tag) → d.contents l ≡ Some known
        → IsPlaced relations lanes q word tag → known tag ≡ ln.stored word
    pub failed : (known : Pages) (word : ℕ) (tag : Tag) → d.contents l ≡ Some known
        → IsPlaced relations lanes q word tag → ln.failed word ≡ d.failed_writes l tag
    -- the blocks that were written since its last sync, whether or not its contents are known
    pub unsynced : (word : ℕ) (tag : Tag) → IsPlaced relations lanes q word tag
        → ln.unsynced word ≡ d.unsynced l tag
    -- what it holds besides the relations' blocks is what it held as the table was opened
    pub others : KeepsOthers relations lanes q opened (d.contents l)
    pub reads : ln.read_faults ≡ d.read_faults l
    pub writes : ln.write_faults ≡ d.write_faults l

  -- The log is the device g, with the mark of a failure, its end then
  pub record IsLog (d : Devices L G) (g : G) (mark : Option ℕ) (dev : Device) : Type 0 where
    pub bytes : (known : List ℕ) → d.bytes g ≡ Some known → dev.bytes ≡ known
    pub synced : (known : List ℕ) → d.bytes g ≡ Some known → dev.synced ≡ d.synced g
    pub faults : dev.faults ≡ d.log_faults g
    pub down : dev.down ≡ mark

  -- What the devices are as a table is built over them: if a lane's contents are known it holds the
  -- relations' blocks that lie there, and the last write of none of these has failed
  pub record AreLanes (d : Devices L G) (relations : List RelEntry) (lanes : List L) : Type 0 where
    pub held : (q : ℕ) (l : L) (known : Pages) (word : ℕ) (tag : Tag) → get_elem? lanes q ≡ some l
        → d.contents l ≡ Some known → IsPlaced relations (length lanes) q word tag
        → is_some (known tag) ≡ true
    pub unfailed : (q : ℕ) (l : L) (known : Pages) (word : ℕ) (tag : Tag)
        → get_elem? lanes q ≡ some l → d.contents l ≡ Some known
        → IsPlaced relations (length lanes) q word tag → d.failed_writes l tag ≡ false

  -- A new log, as a table is built over it: if its contents are known they are just the head
  pub record IsNewLog (d : Devices L G) (base : ℕ) (g : G) : Type 0 where
    pub head : (known : List ℕ) → d.bytes g ≡ Some known → known ≡ head_bytes base
    pub synced : (known : List ℕ) → d.bytes g ≡ Some known → d.synced g ≤ length known

  -- a value is what the state says of a place
  abbrev pub GivesPage : Value L G → Page → Type 0
  GivesPage (value.Page p) q = p ≡ q
  GivesPage _ q = ⊥

  abbrev pub GivesMap : ℕ → Value L G → (ℕ → Option ℕ) → Type 0
  GivesMap n (value.Map entries) m = GivesEntries n entries m
  GivesMap n _ m = ⊥

  -- a lane is home without the note of a call, and with its number
  abbrev pub GivesLane : Devices L G → List RelEntry → ℕ → ℕ → Option Pages → Value L G → Lane
      → Type 0
  GivesLane d relations lanes q opened (value.Lane l) ln =
      IsLane d relations lanes q opened l.device ln × (l.call ≡ lane_call.Untouched)
      × (l.number ≡ q)
  GivesLane d relations lanes q opened _ ln = ⊥

  -- the log is home without the note of a call, and with room for a record
  abbrev pub GivesLog : Devices L G → Value L G → Device → Type 0
  GivesLog d (value.Log g) dev = IsLog d g.device g.down dev × (g.call ≡ log_call.Untouched)
      × (record_size ≤ vec_capacity g.buffer)
  GivesLog d _ dev = ⊥

  -- what the lane q held as the table was opened, if that is known
  abbrev pub lane_opened : Devices L G → Opening L G → ℕ → Option Pages
  lane_opened d o q = contents_at d.contents o.lanes.value.items q

  abbrev pub Gives : Devices L G → Opening L G → State → Place → Value L G → Type 0
  Gives d o s (place.Page f) y = GivesPage y (s.pool.core.frame f).page
  Gives d o s (place.Of (turn.Partition p)) y =
      GivesMap o.config.frames y (s.pool.core.partition p).map
  Gives d o s (place.Of (turn.Lane q)) y =
      GivesLane d o.catalog.value s.lanes q (lane_opened d o q) y (s.lane q)
  Gives d o s (place.Of turn.Log) y = GivesLog d y s.device

  -- whether a table has the place
  abbrev pub IsPlaceIn : Opening L G → Place → Type 0
  IsPlaceIn o (place.Page f) = f < o.config.frames
  IsPlaceIn o (place.Of x) = HasTurn o.config.lanes x

  -- These are what the table was opened with
  pub record IsOpening (d : Devices L G) (o : Opening L G) (s : Fixed) : Type 0 where
    pub frames : s.frames ≡ o.config.frames
    pub backends : s.backends ≡ o.config.passes
    pub base : s.base ≡ o.base
    pub partitions : s.partitions ≡ 128
    pub partition_of : s.partition_of ≡ tag_partition
    -- the blocks are those of the catalogue, and the log names them by it;
    -- forks don't grow or shrink on the table
    pub is_fork : s.is_fork ≡ is_fork o.catalog.value
    pub sizes : s.sizes ≡ fork_size o.catalog.value
    pub resizes : s.resizes ≡ false
    pub names : s.names ≡ log_name o.catalog.value
    -- no entry of ranges is made on the table
    pub ranges : s.ranges ≡ false
    pub lanes : s.lanes ≡ o.config.lanes
    pub lane_of : s.lane_of ≡ tag_lane o.config.lanes
    -- there are at most 64 backends, and 16 lanes
    pub few_backends : o.config.passes ≤ 64
    pub few_lanes : o.config.lanes ≤ 16
    -- the pages of the devices at the start, which of them were to be synced, and the counts
    pub known : (q : ℕ) (l : L) (word : ℕ) → get_elem? o.lanes.value.items q ≡ some l
        → tag_lane o.config.lanes word ≡ q → s.known word ≡ is_some (d.contents l)
    pub held : (q : ℕ) (l : L) (known : Pages) (word : ℕ) (tag : Tag)
        → get_elem? o.lanes.value.items q ≡ some l → d.contents l ≡ Some known
        → IsPlaced o.catalog.value o.config.lanes q word tag → is_some (known tag) ≡ true
    pub origin : (q : ℕ) (l : L) (known : Pages) (word : ℕ) (tag : Tag)
        → get_elem? o.lanes.value.items q ≡ some l → d.contents l ≡ Some known
        → IsPlaced o.catalog.value o.config.lanes q word tag → known tag ≡ s.origin word
    pub unsynced : (q : ℕ) (l : L) (word : ℕ) (tag : Tag) → get_elem? o.lanes.value.items q ≡ some l
        → IsPlaced o.catalog.value o.config.lanes q word tag → s.unsynced word ≡ d.unsynced l tag
    pub reads : (q : ℕ) (l : L) → get_elem? o.lanes.value.items q ≡ some l
        → s.reads q ≡ d.read_faults l
    pub writes : (q : ℕ) (l : L) → get_elem? o.lanes.value.items q ≡ some l
        → s.writes q ≡ d.write_faults l
    pub log_faults : s.log_faults ≡ d.log_faults o.log.value

  abbrev pub KeepsOpening : Devices L G → Opening L G → State → Type 0
  KeepsOpening d o s = IsOpening d o (fixed_of s)

  -- The slot has this value, and it is what the state says of the place
  pub record HasValue (d : Devices L G) (o : Opening L G) (homes : List (slot.Option (Value L G)))
      (s : State) (x : Place) : Type 0 where
    pub value : Value L G
    pub home : get_elem? homes (slot_of o.config.frames x) ≡ some (some value)
    pub gives : Gives d o s x value

  -- In the other slots the list in which the lanes came is empty, with room for them, and nothing
  -- stands for the lanes that there aren't
  pub record HasList (o : Opening L G) (homes : List (slot.Option (Value L G))) : Type 0 where
    pub list : Vec L Global
    pub home : get_elem? homes (list_slot o.config.frames) ≡ some (some (value.Lanes list))
    pub empty : list.items ≡ []
    pub room : o.config.lanes ≤ vec_capacity list
    pub spare : (q : ℕ) → o.config.lanes ≤ q → q < 16
        → get_elem? homes (slot_of o.config.frames (place.Of (turn.Lane q)))
        ≡ some (some value.Away)

  -- What a table shows of a state
  pub record Shows (d : Devices L G) (o : Opening L G) (t : table.State (Value L G) View)
      (s : State) : Type 0 where
    pub fixed : KeepsOpening d o s
    pub words : length t.words ≡ word_count o.config.frames
    pub slots : length t.homes ≡ slot_count o.config.frames
    pub views : t.views ≡ s.pool.core.views
    pub frame : (f : ℕ) → f < o.config.frames → ShowsFrame t.words f (s.pool.core.frame f)
    pub latches : ShowsLatches o.config.frames o.config.lanes t.words s
    -- a value that no view has out is in its slot
    pub homes : (x : Place) → IsPlaceIn o x → IsHome x s.pool.core.views → HasValue d o t.homes s x
    pub list : HasList o t.homes

  -- The rule: the table shows a state that has the law. The state has besides what no word shows:
  -- the pages of the blocks after the log, its entries, and what is out
  pub record RuleHolds (d : Devices L G) (o : Opening L G) (t : table.State (Value L G) View) :
      Type 0 where
    pub state : State
    pub shows : Shows d o t state
    pub laws : Laws state

  -- the view of the first backend
  abbrev pub starting : Opening L G → View
  starting o = first_view o.base o.config.frames 128 o.config.lanes
