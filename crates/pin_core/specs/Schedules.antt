-- What every list of events keeps, in the field's words.
use Rattle.std.specs.Prelude.{◌≡◌, ◌≢◌, ℕ, ◌<◌, ◌≤◌, Bool, true, false, List, [], ◌∷◌, Option}
use Rattle.std.specs.Prelude.{Some, None, ◌↔◌, count_by, if◌then◌else◌}
use mathlib.Core.Option.{some}
use lib.ListN.{get_elem?}
use Rattle.state_word.specs.declared.word.StateWord.{StateWord}
use Rattle.pin_core.specs.declared.view.Role.TheVariants.{Absent, HandedOut}
use Rattle.pin_core.specs.declared.view.MapChange.TheVariants.{Stable, Entering, Leaving}
use Rattle.pin_core.specs.declared.view.MapEntry.{MapEntry}
use Rattle.pin_core.specs.declared.view.View.{View}
use Rattle.pin_core.specs.declared.view.SizeRight.{SizeRight}
use Rattle.pin_core.specs.declared.view.SizeRight.TheVariants as size_right
use Rattle.pin_core.specs.State.{Page, State, Config, CanOpen, no_tag, is_tag, is_block, link, hold}
use Rattle.pin_core.specs.State.{size_hold, pins_frame, opening}
use Rattle.pin_core.specs.Invariant.{HasTag}
use Rattle.pin_core.specs.Maps.{IsPair}
use Rattle.pin_core.specs.Turns.{found}
use Rattle.pin_core.specs.Sizes.{TagsAreBlocks}
use Rattle.pin_core.specs.Kinds.{unpin}
use Rattle.pin_core.specs.Steps.{Event, at, Run}

-- A list of events leads to the state, from the start of a buffer pool
pub record IsReached (s : State) : Type 0 where
  -- what the pool is made of
  pub config : Config
  -- a pool can be made of that configuration
  pub opens : CanOpen config
  -- the page that each frame has at the start
  pub page : Page
  -- the events since the start
  pub events : List Event
  -- the events lead from the start of that pool to the state
  pub run : Run events (opening config page) s

-- no two frames have the same tag
abbrev pub TagsAreUnique : State → Type 0
TagsAreUnique s = (f g : ℕ) → f < s.frames → g < s.frames → HasTag (s.frame f) → HasTag (s.frame g)
    → (s.frame f).tag ≡ (s.frame g).tag → f ≡ g

-- a frame has no more pins than there may be backends
abbrev pub PinsAreFew : State → Type 0
PinsAreFew s = (f : ℕ) → f < s.frames → (s.frame f).word.pins ≤ s.backends

-- a frame that a view pins has a pin
abbrev pub PinnedFramesHavePins : State → Type 0
PinnedFramesHavePins s = (i f : ℕ) (v : View) → get_elem? s.views i ≡ some v → f < s.frames
    → (link v f).role ≢ Absent → 0 < (s.frame f).word.pins

-- the reference count is the number of views that pin the frame
abbrev pub PinsAreCounted : State → Type 0
PinsAreCounted s = (f : ℕ) → f < s.frames → (s.frame f).word.pins ≡ count_by (pins_frame f) s.views

-- whether a header is held
abbrev pub is_held : Option StateWord → Bool
is_held None = false
is_held (Some w) = true

-- whether the view holds the header of the frame f
abbrev pub holds_header : ℕ → View → Bool
holds_header f v = is_held (link v f).header

-- if BM_LOCKED is set, one view holds the header; if it isn't, none does
abbrev pub HeadersAreHeld : State → Type 0
HeadersAreHeld s = (f : ℕ) → f < s.frames
    → count_by (holds_header f) s.views ≡ (if (s.frame f).word.locked then 1 else 0)

-- the state word of a frame is the word that the holder of its header has
abbrev pub HoldersHaveTheWord : State → Type 0
HoldersHaveTheWord s = (i f : ℕ) (v : View) (w : StateWord) → get_elem? s.views i ≡ some v
    → f < s.frames → (link v f).header ≡ Some w → (s.frame f).word ≡ w

-- a frame whose pin remembers a tag has that tag
abbrev pub PinsRemember : State → Type 0
PinsRemember s = (i f : ℕ) (v : View) (tag : ℕ) → get_elem? s.views i ≡ some v → f < s.frames
    → (link v f).tag ≡ Some tag → HasTag (s.frame f) × ((s.frame f).tag ≡ tag)

-- backend i has a handed-out pin of the frame f
abbrev pub IsHandedOut : State → ℕ → ℕ → Type 0
IsHandedOut s i f = (v : View) × (get_elem? s.views i ≡ some v) × (f < s.frames)
    × ((link v f).role ≡ HandedOut)

-- none of the events is the unpin of the frame f by backend i
abbrev pub HasNoUnpin : ℕ → ℕ → List Event → Type 0
HasNoUnpin i f [] = Unit {0}
HasNoUnpin i f (e ∷ es) = (e ≢ at i f unpin) × HasNoUnpin i f es

-- The frame f has in t the tag that it had in s
pub record KeepsTag (s t : State) (f : ℕ) : Type 0 where
  -- the frame has a tag in s
  pub had : HasTag (s.frame f)
  -- the frame has a tag in t
  pub has : HasTag (t.frame f)
  -- the frame's tag word is the same in s and t
  pub same : (t.frame f).tag ≡ (s.frame f).tag

-- while a handed-out pin of a frame is held the frame keeps its tag, whatever the backends do
abbrev pub PinnedTagsStay : State → Type 0
PinnedTagsStay s = (i f : ℕ) (es : List Event) (t : State) → IsHandedOut s i f → HasNoUnpin i f es
    → Run es s t → KeepsTag s t f × IsHandedOut t i f

-- the usage count is at most 5 (`BM_MAX_USAGE_COUNT`)
abbrev pub UsagesAreLow : State → Type 0
UsagesAreLow s = (f : ℕ) → f < s.frames → (s.frame f).word.usage ≤ 5

-- a frame whose tag word is all ones has at most one pin
abbrev pub UntaggedFramesHaveOnePin : State → Type 0
UntaggedFramesHaveOnePin s = (f : ℕ) → f < s.frames → (s.frame f).tag ≡ no_tag
    → (s.frame f).word.pins ≤ 1

-- a tag word that isn't all ones is a packed buffer tag
abbrev pub TagWordsAreTags : State → Type 0
TagWordsAreTags s = (f : ℕ) → f < s.frames → (s.frame f).tag ≢ no_tag
    → is_tag (s.frame f).tag ≡ true

-- A tag word that isn't all ones is of a block of the relations, or of a new block, which a backend
-- notes; if forks don't grow and shrink, it is of a block of the relations
pub record TagWordsAreBlocks (s : State) : Type 0 where
  -- a tag word that isn't all ones is of a block of the relations, or of a new block, which a
  -- backend notes
  pub noted : TagsAreBlocks s
  -- if forks don't grow and shrink, a tag word that isn't all ones is of a block of the relations
  pub quiet : s.resizes ≡ false → (f : ℕ) → f < s.frames → (s.frame f).tag ≢ no_tag
      → is_block s (s.frame f).tag ≡ true

-- whether a right on a size is the shared one
abbrev pub is_size_shared : SizeRight → Bool
is_size_shared size_right.Unheld = false
is_size_shared size_right.Shared = true
is_size_shared size_right.Exclusive = false

-- whether a right on a size is the exclusive one
abbrev pub is_size_exclusive : SizeRight → Bool
is_size_exclusive size_right.Unheld = false
is_size_exclusive size_right.Shared = false
is_size_exclusive size_right.Exclusive = true

-- whether the view has the shared right on the fork's size
abbrev pub shares_size : ℕ → View → Bool
shares_size fork v = is_size_shared (size_hold v fork).right

-- whether the view has the exclusive right on the fork's size
abbrev pub excludes_size : ℕ → View → Bool
excludes_size fork v = is_size_exclusive (size_hold v fork).right

-- A size word counts the backends with the shared right. Its bit is set if and only if one has the
-- exclusive right, and then nobody has the shared one
pub record SizeRights (s : State) (fork : ℕ) : Type 0 where
  -- the size word counts the views that have the shared right
  pub sharers : (s.size fork).sharers ≡ count_by (shares_size fork) s.views
  -- if the bit of the size word is set, one view has the exclusive right; if it isn't, none does
  pub exclusive : count_by (excludes_size fork) s.views ≡ (if (s.size fork).exclusive then 1 else 0)
  -- while a view has the exclusive right, no view has the shared one
  pub apart : (s.size fork).exclusive ≡ true → (s.size fork).sharers ≡ 0

-- A size word is the fork's size by the log, unless a backend has changed that under its
-- exclusive right. A backend that has a right, and made no change, found that size
pub record SizesAreLogged (s : State) (fork : ℕ) : Type 0 where
  -- while nobody has the exclusive right, the size word is the fork's size by the log
  pub free : (s.size fork).exclusive ≡ false → (s.size fork).blocks ≡ (s.size fork).logged
  -- until a view with the exclusive right makes a change, the size word is the fork's size by the
  -- log
  pub unmade : (i : ℕ) (v : View) → get_elem? s.views i ≡ some v
      → (size_hold v fork).right ≡ size_right.Exclusive → (size_hold v fork).made ≡ None
      → (s.size fork).blocks ≡ (s.size fork).logged
  -- a view that has a right, and made no change, found the size that the word still has, and that
  -- is the fork's size by the log
  pub found : (i : ℕ) (v : View) → get_elem? s.views i ≡ some v
      → (size_hold v fork).right ≢ size_right.Unheld → (size_hold v fork).made ≡ None
      → ((size_hold v fork).blocks ≡ (s.size fork).blocks)
      × ((size_hold v fork).blocks ≡ (s.size fork).logged)

-- a pin whose block was seen below its fork's size is of a block that is still there
abbrev pub SeenBlocksStay : State → Type 0
SeenBlocksStay s = (i f : ℕ) (v : View) → get_elem? s.views i ≡ some v → f < s.frames
    → (link v f).inside ≡ true → HasTag (s.frame f) × (is_block s (s.frame f).tag ≡ true)

-- if the header isn't locked, BM_TAG_VALID is set if and only if the tag word isn't all ones
abbrev pub FlagsMatchTags : State → Type 0
FlagsMatchTags s = (f : ℕ) → f < s.frames → (s.frame f).word.locked ≡ false
    → ((s.frame f).word.tag_valid ≡ true) ↔ ((s.frame f).tag ≢ no_tag)

-- if a pin of a frame has seen BM_VALID, the frame is valid
abbrev pub SeenFramesAreValid : State → Type 0
SeenFramesAreValid s = (i f : ℕ) (v : View) → get_elem? s.views i ≡ some v → f < s.frames
    → (link v f).seen_valid ≡ true → (s.frame f).word.valid ≡ true

-- The maps of the partitions give the frames of their tags, but for the pair in change
pub record MapsAreExact (s : State) : Type 0 where
  -- a map gives a frame for a tag if and only if the frame's tag word is that tag, but for the pair
  -- in change
  pub exact : (tag f : ℕ) → tag ≢ no_tag → f < s.frames
      → let part = s.partition (s.partition_of tag) in part.owed ≢ Entering tag f
      → part.owed ≢ Leaving tag f → (part.map tag ≡ Some f) ↔ ((s.frame f).tag ≡ tag)
  -- the frame that a map gives for a tag has the tag, if its header isn't locked and the pair isn't
  -- being left out
  pub tagged : (p tag f : ℕ) → (s.partition p).map tag ≡ Some f
      → (s.partition p).owed ≢ Leaving tag f → (s.frame f).word.locked ≡ false
      → HasTag (s.frame f) × ((s.frame f).tag ≡ tag)
  -- a map has only tags of its own partition, and only frames that are there
  pub own : (p tag f : ℕ) → (s.partition p).map tag ≡ Some f
      → IsPair s.frames s.partition_of p tag f

-- whether the view holds the latch of the partition p
abbrev pub holds_turn : ℕ → View → Bool
holds_turn p v = (hold v p).held

-- if the latch of a partition is taken, one view holds it; if it is free, no view holds it, and no
-- pair is in change
abbrev pub TurnsAreHeld : State → Type 0
TurnsAreHeld s = (p : ℕ) → p < s.partitions
    → (count_by (holds_turn p) s.views ≡ (if (s.partition p).taken then 1 else 0))
    × ((s.partition p).taken ≡ false → (s.partition p).owed ≡ Stable)

-- if a view has seen a map under its latch, and the map isn't out, it has the entries that the view
-- saw last
abbrev pub MapsAreAsSeen : State → Type 0
MapsAreAsSeen s = (i p : ℕ) (v : View) (entries : List MapEntry) → get_elem? s.views i ≡ some v
    → p < s.partitions → (hold v p).seen ≡ Some entries → (hold v p).out ≡ None
    → (s.partition p).map ≡ found entries

-- if a view holds the latch of a partition and doesn't have its map out, no view has it out
abbrev pub MapsAreHome : State → Type 0
MapsAreHome s = (i j p : ℕ) (v u : View) → get_elem? s.views i ≡ some v
    → get_elem? s.views j ≡ some u → p < s.partitions → (hold v p).held ≡ true
    → (hold v p).out ≡ None → (hold u p).out ≡ None
