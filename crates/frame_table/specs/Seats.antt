-- What callers see of a table and of a seat.
use Rattle.std.specs.Prelude.{◌≡◌, ◌≢◌, ℕ, ◌<◌, ◌≤◌, ◌+◌, Bool, true, false, not, ◌||◌, ◌&&◌}
use Rattle.std.specs.Prelude.{List, [], ◌++◌, Option, Some, None}
use Rattle.std.specs.List.{All}
use mathlib.Core.Option.{some}
use lib.ListN.{get_elem?}
use Rattle.state_word.specs.declared.word.StateWord.{StateWord}
use Rattle.state_word.specs.Fields.{fields}
use Rattle.block_tag.specs.declared.tag.Tag.{Tag}
use Rattle.block_tag.specs.declared.catalogue.RelEntry.{RelEntry}
use Rattle.block_tag.specs.Names.{names_block, packed_tag, partition_number}
use Rattle.atomic_table.specs.declared.shared.Seat.{Seat}
use Rattle.pin_core.specs.declared.view.View.{View}
use Rattle.pin_core.specs.declared.view.Link.{Link}
use Rattle.pin_core.specs.declared.view.Load.{Load}
use Rattle.pin_core.specs.declared.view.LoadedWord.{LoadedWord}
use Rattle.pin_core.specs.declared.view.LoadedWord.TheVariants as seen
use Rattle.pin_core.specs.declared.view.WordChange.{WordChange}
use Rattle.pin_core.specs.declared.view.Resident.{Resident}
use Rattle.pin_core.specs.declared.view.Role.TheVariants.{Absent, HandedOut, Victim}
use Rattle.pin_core.specs.declared.view.Content.TheVariants.{Unlocked}
use Rattle.pin_core.specs.declared.view.Io.TheVariants.{Quiet, Input, Output}
use Rattle.pin_core.specs.declared.view.MapEntry.{MapEntry}
use Rattle.pin_core.specs.declared.view.MapChange.{MapChange}
use Rattle.pin_core.specs.declared.view.MapChange.TheVariants.{Stable, Entering, Leaving}
use Rattle.pin_core.specs.State.{link, hold, lane_hold, idle, no_partition, no_lane, no_log, no_tag}
use Rattle.pin_core.specs.declared.view.PartitionHold.{PartitionHold}
use Rattle.pin_core.specs.Kinds.{tag_after, seen_valid_after, wait_after, holds_naming}
use Rattle.pin_core.specs.Turns.{found}
use Rattle.table_rule.specs.declared.value.Value.{Value}
use Rattle.frame_table.specs.declared.table.FrameTable.{FrameTable}
use Rattle.table_rule.specs.declared.turn.Turn.{Turn}
use Rattle.table_rule.specs.Blocks.{has_block}
use Rattle.table_rule.specs.Layout.{tag_partition}
use Rattle.table_rule.specs.Shows.{HasTurn}

-- What a step at a frame leaves of a view: all but its links and partitions, its marks, and what it
-- lists and counts of steps, loads, changed words and blocks seen in frames
abbrev pub self_of : View → View
self_of v = record v {
  links = [];
  partitions = [];
  steps = 0;
  loads = [];
  changes = [];
  dirtied_or_synced = false;
  had_output = false;
  last_ended = None;
  residents = [];
}

abbrev pub SameSelf : View → View → Type 0
SameSelf v w = self_of w ≡ self_of v

-- What a view has marked, written and ended
pub record ViewMarks : Type 0 where
  pub dirtied_or_synced : Bool
  pub had_output : Bool
  pub last_ended : Option StateWord

abbrev pub view_marks : View → ViewMarks
view_marks v = record {
  dirtied_or_synced = v.dirtied_or_synced;
  had_output = v.had_output;
  last_ended = v.last_ended;
}

abbrev pub SameMarks : View → View → Type 0
SameMarks v w = view_marks w ≡ view_marks v

-- A view that marked a frame dirty, one that began to read or to write a page, and one that ended
-- it with this word
abbrev pub MarksDirty : View → View → Type 0
MarksDirty v w = view_marks w ≡ record (view_marks v) { dirtied_or_synced = true }

abbrev pub MarksBegun : Bool → View → View → Type 0
MarksBegun input v w = view_marks w ≡ record (view_marks v) {
  had_output = v.had_output || not input;
}

abbrev pub MarksEnded : StateWord → View → View → Type 0
MarksEnded stored v w = view_marks w ≡ record (view_marks v) { last_ended = Some stored }

-- A block that a view has seen in a frame, as the view lists it later: one that is gone stays so
pub record IsListedStill (before after : Resident) : Type 0 where
  pub frame : after.frame ≡ before.frame
  pub tag : after.tag ≡ before.tag
  pub gone : before.gone ≡ true → after.gone ≡ true

-- Each stays listed, at its place
abbrev pub KeepsResidents : List Resident → List Resident → Type 0
KeepsResidents before after = (k : ℕ) (r : Resident)
    → get_elem? before k ≡ some r
    → (x : Resident) × (get_elem? after k ≡ some x) × IsListedStill r x

-- The view lists that it has seen the block of the tag in the frame f
abbrev pub HasResident : ℕ → ℕ → View → Type 0
HasResident f tag v = (k : ℕ) × (r : Resident)
    × (get_elem? v.residents k ≡ some r) × (r.frame ≡ f) × (r.tag ≡ tag)

-- The loads and the changes of state words that a view lists are only added to, its count of steps
-- doesn't fall, and the blocks that it has seen in frames stay listed
pub record Grows (v w : View) : Type 0 where
  pub loads : (ls : List Load) × (w.loads ≡ v.loads ++ ls)
  pub changes : (cs : List WordChange) × (w.changes ≡ v.changes ++ cs)
  pub steps : v.steps ≤ w.steps
  pub residents : KeepsResidents v.residents w.residents

-- a word that a load saw is of the frame f, or of no frame
abbrev pub IsOfNoOther : ℕ → LoadedWord → Type 0
IsOfNoOther f (seen.State g word) = g ≡ f
IsOfNoOther f (seen.Tag g tag) = g ≡ f
IsOfNoOther f (seen.Content g sharers exclusive copying) = g ≡ f
IsOfNoOther f _ = Unit {0}

-- A list is added to, and each thing added is such a one
abbrev pub AddsOnly : {A : Type 0} → (A → Type 0) → List A → List A → Type 0
AddsOnly {A} P before after = (added : List A) × (after ≡ before ++ added) × All P added

-- The loads that a view lists further are of words of the frame f or of no frame,
-- and the changed state words that it lists further are of f
pub record ListsOnly (f : ℕ) (v w : View) : Type 0 where
  pub loads : AddsOnly (λ (l : Load). IsOfNoOther f l.loaded_word) v.loads w.loads
  pub changes : AddsOnly (λ (c : WordChange). c.frame ≡ f) v.changes w.changes

-- What only rises: what is listed is added to, what is counted doesn't fall, and so with the
-- positions up to which lanes were swept, and those of the log that were seen; a log that was seen
-- down stays so
pub record OnlyRises (v w : View) : Type 0 where
  pub grows : Grows v w
  pub swept : (q : ℕ) → (lane_hold v q).swept ≤ (lane_hold w q).swept
  pub end_seen : v.end_seen ≤ w.end_seen
  pub flushed : v.flushed ≤ w.flushed
  pub down : v.saw_down ≡ true → w.saw_down ≡ true

-- the link after a load of the state word, which is w: a pin sees BM_VALID, a wait goes on only
-- while its number stands beside BM_PIN_COUNT_WAITER, and the checkpoint passes a frame that isn't
-- dirty, and has no more to write one without BM_CHECKPOINT_NEEDED
abbrev pub loaded_link : StateWord → Link → Link
loaded_link w l = record l {
  seen_valid = seen_valid_after l.pending l.role w.valid l.seen_valid;
  waits = wait_after w l.waits;
  visited = l.visited || not w.dirty;
  left_to_write = l.left_to_write && w.checkpoint_needed;
}

-- What a state word shows of a frame at which a view has the link l
pub record IsWordOf (l : Link) (w : StateWord) : Type 0 where
  -- a dirty frame is valid, and a valid one has BM_TAG_VALID
  pub dirty : w.dirty ≡ true → w.valid ≡ true
  pub valid : w.valid ≡ true → w.tag_valid ≡ true
  -- the usage count is at most 5 (BM_MAX_USAGE_COUNT)
  pub usage : w.usage ≤ 5
  -- there are at most 64 pins, one for each backend
  pub few : w.pins ≤ 64
  -- a frame that the view pins has a pin, and one whose tag it remembers, or whose BM_VALID it has
  -- seen, has these
  pub pinned : l.role ≢ Absent → 0 < w.pins
  pub remembered : l.tag ≢ None → w.tag_valid ≡ true
  pub seen : l.seen_valid ≡ true → w.valid ≡ true
  -- a frame to whose page the view has an output right is dirty
  pub output : l.io ≡ Output → w.dirty ≡ true
  -- while the view has an input right to the frame, the frame isn't valid
  pub input : l.io ≡ Input → w.valid ≡ false
  -- while the view holds the header the word is the one that it holds
  pub held : (own : StateWord) → l.header ≡ Some own → w ≡ own

-- What loads of the state word leave of a link: all but what the pin has seen, a wait, and the
-- checkpoint's notes
pub record Looked (l m : Link) : Type 0 where
  pub role : m.role ≡ l.role
  pub tag : m.tag ≡ l.tag
  pub ring : m.ring ≡ l.ring
  pub header : m.header ≡ l.header
  pub pending : m.pending ≡ l.pending
  pub content : m.content ≡ l.content
  pub copying : m.copying ≡ l.copying
  pub dirtied : m.dirtied ≡ l.dirtied
  pub unapplied : m.unapplied ≡ l.unapplied
  pub copied : m.copied ≡ l.copied
  pub io : m.io ≡ l.io
  pub read : m.read ≡ l.read
  pub read_is_home : m.read_is_home ≡ l.read_is_home
  pub last_write : m.last_write ≡ l.last_write
  pub out : m.out ≡ l.out
  pub overwritten : m.overwritten ≡ l.overwritten
  pub image : m.image ≡ l.image
  pub noted : m.noted ≡ l.noted
  pub inside : m.inside ≡ l.inside
  -- what was seen stays seen
  pub seen_valid : l.seen_valid ≡ true → m.seen_valid ≡ true
  -- if no wait was there, none is
  pub waits : l.waits ≡ None → m.waits ≡ None
  -- a frame that the checkpoint has visited stays visited, and none becomes one that it has to
  -- write
  pub visited : l.visited ≡ true → m.visited ≡ true
  pub left_to_write : l.left_to_write ≡ false → m.left_to_write ≡ false

-- the link after a pin by the caller, for a ring or not
abbrev pub pinned_link : Bool → Link → Link
pinned_link ring l = record l { role = HandedOut; ring = ring }

-- the link after a pin of the frame that a map gives for the tag
abbrev pub mapped_link : ℕ → Bool → Link → Link
mapped_link tag ring l = record l { role = HandedOut; tag = Some tag; ring = ring }

-- the link without a pin
abbrev pub unpinned_link : Link → Link
unpinned_link l = record l {
  role = Absent;
  tag = None;
  seen_valid = false;
  ring = false;
  inside = false;
}

-- the link with the header locked, whose word is the number
abbrev pub locked_link : ℕ → Link → Link
locked_link word l = record l { header = Some (fields word) }

-- the link with the header unlocked
abbrev pub unlocked_link : Link → Link
unlocked_link l = record l { header = None }

-- What a view must not have at a frame whose pin it gives up
pub record MayUnpin (l : Link) : Type 0 where
  pub pinned : l.role ≢ Absent
  pub no_content : l.content ≡ Unlocked
  pub no_io : l.io ≡ Quiet
  pub no_wait : l.waits ≡ None

-- The view holds the header of a frame, whose tag word it hasn't stored
pub record HoldsHeader (l : Link) : Type 0 where
  pub held : l.header ≢ None
  pub settled : l.pending ≡ false

-- The view holds the header of a frame, and what it knows of its word
pub record HoldsWord (P : StateWord → Type 0) (l : Link) : Type 0 where
  pub held : l.header ≢ None
  pub knows : (w : StateWord) → l.header ≡ Some w → P w

-- The view holds the header of a frame, its word is this number, and this is known of it
pub record HoldsNumber (P : StateWord → Type 0) (word : ℕ) (l : Link) : Type 0 where
  pub held : l.header ≡ Some (fields word)
  pub knows : P (fields word)

-- the frame has no pin, or a tag
abbrev pub HasRoom : StateWord → Type 0
HasRoom w = w.tag_valid ≡ false → w.pins ≡ 0

-- the frame has no pin, and a usage count above 0
abbrev pub IsUsed : StateWord → Type 0
IsUsed w = (w.pins ≡ 0) × (0 < w.usage)

-- the frame has BM_TAG_VALID, or hasn't
abbrev pub HasFlag : Bool → StateWord → Type 0
HasFlag flag w = w.tag_valid ≡ flag

-- The view's victim pin is the frame's only pin, and it does nothing else there
pub record HasOnlyPin (l : Link) : Type 0 where
  pub word : HoldsWord (λ w. w.pins ≡ 1) l
  pub settled : l.pending ≡ false
  pub victim : l.role ≡ Victim
  pub no_content : l.content ≡ Unlocked
  pub no_io : l.io ≡ Quiet

-- The view of a backend that is there, and has nothing: at no frame, of no latch, and of the log
pub record IsIdle (v : View) : Type 0 where
  pub links : (f : ℕ) → link v f ≡ idle
  pub holds : (p : ℕ) → hold v p ≡ no_partition
  pub lanes : (q : ℕ) → lane_hold v q ≡ no_lane
  pub log : v.log ≡ no_log
  pub live : v.emptied ≡ false

-- The view has the latch of a partition, whose map it may change: no change is named or made yet
pub record MayChange (v : View) (p : ℕ) : Type 0 where
  pub held : (hold v p).held ≡ true
  pub unchanged : (hold v p).changed ≡ false
  -- it names no pair, in any partition
  pub no_change : (q : ℕ) → (hold v q).change ≡ Stable

-- a pin that remembers a tag remembers this one
abbrev pub RemembersNoOther : ℕ → Link → Type 0
RemembersNoOther tag l = (other : ℕ) → l.tag ≡ Some other → other ≡ tag

-- The view has seen the map of the tag's partition, which is home again, and it lacks the tag
pub record Lacks (v : View) (tag : ℕ) : Type 0 where
  pub home : (hold v (tag_partition tag)).out ≡ None
  pub seen : (hold v (tag_partition tag)).seen ≢ None
  pub lacks : (entries : List MapEntry) → (hold v (tag_partition tag)).seen ≡ Some entries
      → found entries tag ≡ None

-- The view has the latch of the tag's partition, no pair named there, and it has seen the map,
-- which is home again, and gives the frame for the tag
pub record Finds (v : View) (tag f : ℕ) : Type 0 where
  pub held : (hold v (tag_partition tag)).held ≡ true
  pub no_change : (hold v (tag_partition tag)).change ≡ Stable
  pub home : (hold v (tag_partition tag)).out ≡ None
  pub seen : (hold v (tag_partition tag)).seen ≢ None
  pub finds : (entries : List MapEntry) → (hold v (tag_partition tag)).seen ≡ Some entries
      → found entries tag ≡ Some f

-- A tag may be stored: it is of a block of the relations, the frame has none, and the map of its
-- partition lacks it
pub record MayStoreTag (relations : List RelEntry) (tag : Tag) (v : View) (f : ℕ) : Type 0 where
  pub named : names_block tag ≡ true
  pub listed : has_block relations tag ≡ true
  pub word : HoldsWord (HasFlag false) (link v f)
  pub latch : MayChange v (partition_number tag)
  pub map : Lacks v (packed_tag tag)

-- The frame's tag may be taken away: the view knows it, and the frame isn't dirty
pub record CanErase (v : View) (f : ℕ) : Type 0 where
  pub read : (link v f).tag ≢ None
  pub latch : (tag : ℕ) → (link v f).tag ≡ Some tag → MayChange v (tag_partition tag)
  pub word : HoldsWord (λ w. w.dirty ≡ false) (link v f)

abbrev pub CanStoreAs : List RelEntry → Option Tag → View → ℕ → Type 0
CanStoreAs relations None v f = CanErase v f
CanStoreAs relations (Some tag) v f = MayStoreTag relations tag v f

-- the links after the steps under a header
abbrev pub victim_link : Link → Link
victim_link l = record l { role = Victim; ring = false; header = None }

abbrev pub stored_link : Link → Link
stored_link l = record l { tag = None; seen_valid = false; pending = true; inside = false }

abbrev pub assigned_link : Option ℕ → Link → Link
assigned_link tag l = record l { role = HandedOut; tag = tag; header = None; pending = false }

abbrev pub cleared_link : Link → Link
cleared_link l = record l { header = None; pending = false }

-- the number of a tag word
abbrev pub tag_word : Option Tag → ℕ
tag_word None = no_tag
tag_word (Some tag) = packed_tag tag

-- what the view has of the latches after it stored a tag, or took away the one that it knows: the
-- pair is named in change
abbrev pub partitions_erased : Option ℕ → ℕ → View → List PartitionHold
partitions_erased None f v = v.partitions
partitions_erased (Some tag) f v = holds_naming (Leaving tag f) tag_partition v

abbrev pub partitions_stored : Option Tag → ℕ → View → List PartitionHold
partitions_stored None f v = partitions_erased (link v f).tag f v
partitions_stored (Some tag) f v = holds_naming (Entering (packed_tag tag) f) tag_partition v

-- The view has named this in change in the partition p, and has of all others what it had
pub record NamesIn (p : ℕ) (change : MapChange) (v w : View) : Type 0 where
  pub here : hold w p ≡ record (hold v p) { change = change }
  pub others : (q : ℕ) → q ≢ p → hold w q ≡ hold v q

-- the pair that it names as it stores a tag, or takes away the one that it knows
abbrev pub NamesStored : Option Tag → ℕ → View → View → Type 0
NamesStored None f v w = (tag : ℕ) → (link v f).tag ≡ Some tag
    → NamesIn (tag_partition tag) (Leaving tag f) v w
NamesStored (Some tag) f v w = NamesIn (partition_number tag) (Entering (packed_tag tag) f) v w

-- what a pin remembers after a load of the tag word
abbrev pub read_link : Option Tag → Link → Link
read_link tag l = record l { tag = tag_after l.pending l.role (tag_word tag) l.tag }

-- how many tags the view has erased, after it stored a tag or erased one
abbrev pub cleared_stored : Option Tag → ℕ → ℕ
cleared_stored None n = n + 1
cleared_stored (Some tag) n = n

-- A step at the frame f that may name a pair, or take a tag away: the view has at other frames what
-- it had
pub record Stores (f : ℕ) (v w : View) : Type 0 where
  pub self : SameSelf (record v { cleared = w.cleared }) w
  pub grows : Grows v w
  -- the words that it lists are of f
  pub lists : ListsOnly f v w
  pub others : (g : ℕ) → g ≢ f → link w g ≡ link v g

-- A step at the frame f: the view has at other frames, and at the partitions, what it had
pub record Touches (f : ℕ) (v w : View) : Type 0 where
  pub self : SameSelf v w
  pub grows : Grows v w
  -- the words that it lists are of f
  pub lists : ListsOnly f v w
  pub partitions : w.partitions ≡ v.partitions
  pub others : (g : ℕ) → g ≢ f → link w g ≡ link v g

-- A step at the frame f that may note its block as unentered, and else touches f alone
abbrev pub TouchesOrNotes : ℕ → View → View → Type 0
TouchesOrNotes f v w = Touches f (record v { unentered = w.unentered }) w

module _ {L G : Type 0} where
  abbrev pub frames_of : FrameTable L G → ℕ
  frames_of t = t.table.shared.key.config.frames

  abbrev pub relations_of : FrameTable L G → List RelEntry
  relations_of t = t.table.shared.key.catalog.value

  -- how many lanes the table has, and what they were when it was opened
  abbrev pub lanes_in : FrameTable L G → ℕ
  lanes_in t = t.table.shared.key.config.lanes

  abbrev pub opened_of : FrameTable L G → List L
  opened_of t = t.table.shared.key.lanes.value.items

  -- where the table's log begins
  abbrev pub base_of : FrameTable L G → ℕ
  base_of t = t.table.shared.key.base

  -- the seat is one of the table
  abbrev pub Fits : FrameTable L G → Seat (Value L G) View → Type 0
  Fits t s = s.table_id ≡ t.table.shared.table_id

  -- the seat is one of the table, and its backend is there
  pub record IsSeat (t : FrameTable L G) (s : Seat (Value L G) View) : Type 0 where
    pub fits : Fits t s
    pub live : s.me.0.emptied ≡ false

  -- the seat is one of the table, its backend is there, and it can step at the frame f
  pub record CanStep (t : FrameTable L G) (s : Seat (Value L G) View) (f : ℕ) : Type 0 where
    pub fits : Fits t s
    pub live : s.me.0.emptied ≡ false
    pub inside : f < frames_of t

  -- the seat can step at a latch
  pub record CanTurn (t : FrameTable L G) (s : Seat (Value L G) View) (x : Turn) : Type 0 where
    pub fits : Fits t s
    pub live : s.me.0.emptied ≡ false
    pub inside : HasTurn t.table.shared.key.config.lanes x

  -- the seat after a call is the one before it, with the same slots in hand
  pub record SameSeat (s s' : Seat (Value L G) View) : Type 0 where
    pub table : s'.table_id ≡ s.table_id
    pub id : s'.id ≡ s.id
    pub hand : s'.me.1 ≡ s.me.1
