-- What holds in every state that steps lead to.
use Rattle.std.specs.Prelude.{◌≡◌, ◌≢◌, ℕ, ◌+◌, ◌<◌, ◌≤◌, Bool, true, false, List, Some, None}
use Rattle.std.specs.Prelude.{length}
use mathlib.Core.Option.{some}
use lib.ListN.{get_elem?}
use Rattle.state_word.specs.declared.word.StateWord.{StateWord}
use Rattle.pin_core.specs.declared.view.Role.TheVariants.{Absent, HandedOut, Victim}
use Rattle.pin_core.specs.declared.view.Link.{Link}
use Rattle.pin_core.specs.declared.view.View.{View}
use Rattle.pin_core.specs.State.{Frame, State, no_tag, is_tag}
use Rattle.pin_core.specs.Tallies.{Tally, pins, headers, pendings, settled_pins, settled_headers}
use Rattle.pin_core.specs.Tallies.{flag_weight, frame_shape}
use Rattle.pin_core.specs.Turns.{turn_shape, turn_part}
use Rattle.pin_core.specs.Maps.{MapLaw}
use Rattle.grid.specs.Shape.{total, Part, Grid}

-- the frame has a tag: BM_TAG_VALID is set, and the tag word isn't all ones
pub record HasTag (fr : Frame) : Type 0 where
  -- BM_TAG_VALID is set
  pub flagged : fr.word.tag_valid ≡ true
  -- the tag word isn't all ones
  pub named : fr.tag ≢ no_tag

-- BM_TAG_VALID is set if and only if the tag word isn't all ones
pub record TagsAgree (fr : Frame) : Type 0 where
  -- if BM_TAG_VALID is set, the tag word isn't all ones
  pub flagged : fr.word.tag_valid ≡ true → fr.tag ≢ no_tag
  -- if BM_TAG_VALID is clear, the tag word is all ones
  pub unflagged : fr.word.tag_valid ≡ false → fr.tag ≡ no_tag

-- What holds of a frame while a view has stored its tag word, and neither assigned nor cleared it
-- yet
pub record PendingFrame (fr : Frame) : Type 0 where
  -- the frame has one pin
  pub single : fr.word.pins ≡ 1
  -- if a tag was stored, BM_TAG_VALID is clear
  pub entering : fr.tag ≢ no_tag → fr.word.tag_valid ≡ false
  -- if all ones was stored, BM_TAG_VALID is set
  pub leaving : fr.tag ≡ no_tag → fr.word.tag_valid ≡ true
  -- a frame that is given a tag isn't dirty
  pub clean : fr.tag ≢ no_tag → fr.word.dirty ≡ false

-- What holds of a frame and of the sums over the views there
pub record FrameLaw (fr : Frame) (t : Tally → ℕ) : Type 0 where
  -- the reference count is the number of views that pin the frame
  pub counted : fr.word.pins ≡ t pins
  -- BM_LOCKED is set if and only if one view holds the header
  pub locked : flag_weight fr.word.locked ≡ t headers
  -- a frame whose tag word is all ones has at most one pin
  pub untagged_few : fr.tag ≡ no_tag → fr.word.pins ≤ 1
  -- a tag word that isn't all ones is a packed buffer tag
  pub packed : fr.tag ≢ no_tag → is_tag fr.tag ≡ true
  -- the usage count is at most 5 (BM_MAX_USAGE_COUNT)
  pub usage : fr.word.usage ≤ 5
  -- a dirty frame is valid
  pub dirty : fr.word.dirty ≡ true → fr.word.valid ≡ true
  -- on a valid frame BM_TAG_VALID is set
  pub valid : fr.word.valid ≡ true → fr.word.tag_valid ≡ true
  -- BM_TAG_VALID agrees with the tag word, except between a store of the tag word and the frame's
  -- being assigned or cleared
  pub tagged : t pendings ≡ 0 → TagsAgree fr
  -- between a store of the tag word and the frame's being assigned or cleared the frame has one
  -- pin, BM_TAG_VALID is as before the store, and a frame that is given a tag isn't dirty
  pub pending : 0 < t pendings → PendingFrame fr
  -- each view that has stored the tag word, and neither assigned nor cleared the frame yet, pins it
  pub pending_pins : t pins ≡ t pendings + t settled_pins
  -- each view that has stored the tag word, and neither assigned nor cleared the frame yet, holds
  -- its header
  pub pending_headers : t headers ≡ t pendings + t settled_headers

-- What a view that stored the tag word has and knows there, until it has assigned or cleared the
-- frame
pub record PendingLink (l : Link) : Type 0 where
  -- the view holds the buffer header
  pub held : l.header ≢ None
  -- the view's pin there is its victim pin
  pub victim : l.role ≡ Victim
  -- the view's pin remembers no tag
  pub unread : l.tag ≡ None
  -- the view's pin hasn't seen BM_VALID
  pub unseen : l.seen_valid ≡ false

-- What a view has at a frame with a new block that it notes
pub record NotedLink (fr : Frame) (l : Link) : Type 0 where
  -- the frame's tag word isn't all ones
  pub named : fr.tag ≢ no_tag
  -- the view's pin there is its victim pin
  pub victim : l.role ≡ Victim
  -- once the frame is assigned, the view's pin remembers the tag
  pub known : l.pending ≡ false → l.tag ≢ None

-- What holds of a frame and of what a view has there
pub record LinkLaw (fr : Frame) (l : Link) : Type 0 where
  -- if the view holds the header, the state word is the word that the view has
  pub header : (w : StateWord) → l.header ≡ Some w → fr.word ≡ w
  -- the frame of a handed-out pin has a tag
  pub handed_out : l.role ≡ HandedOut → HasTag fr
  -- the frame of a pin has the tag that the pin remembers
  pub remembers : (tag : ℕ) → l.tag ≡ Some tag → HasTag fr × (fr.tag ≡ tag)
  -- if a pin has seen BM_VALID, the frame is valid
  pub seen : l.seen_valid ≡ true → fr.word.valid ≡ true
  -- a view without a pin remembers no tag, and hasn't seen BM_VALID
  pub unpinned : l.role ≡ Absent → (l.tag ≡ None) × (l.seen_valid ≡ false)
  -- until it assigns or clears the frame, a view that has stored the tag word holds the header, and
  -- its victim pin knows neither the tag nor BM_VALID
  pub pending : l.pending ≡ true → PendingLink l
  -- a view that notes a new block keeps its victim pin there, which remembers the tag once the
  -- frame is assigned
  pub noted : l.noted ≡ true → NotedLink fr l
  -- a pin whose block was seen below its fork's size remembers the tag
  pub inside : l.inside ≡ true → l.tag ≢ None

-- what holds of each frame, and of what each view has there
abbrev pub pin_part : Part frame_shape
pin_part = record { column = λ _ fr t. FrameLaw fr t; cell = λ _ fr _ l. LinkLaw fr l }

-- What holds of the list of views
pub record ViewsLaw (frames partitions backends : ℕ) (views : List View) : Type 0 where
  -- a view that isn't emptied has a link for each frame, and a hold for each partition
  pub wide : (i : ℕ) (v : View) → get_elem? views i ≡ some v → v.emptied ≡ false
      → (length v.links ≡ frames) × (length v.partitions ≡ partitions)
  -- view i has the number i, unless it is emptied
  pub numbered : (i : ℕ) (v : View) → get_elem? views i ≡ some v → v.emptied ≡ false → v.number ≡ i
  -- the first view is never emptied, and has the next number to give
  pub first : (v : View) → get_elem? views 0 ≡ some v
      → (v.emptied ≡ false) × (v.next ≡ length views)
  -- no more numbers are given than there may be backends
  pub few : length views ≤ backends

-- 1 for a backend that is there, and 0 for what is left of one
abbrev pub live_weight : Bool → ℕ
live_weight true = 0
live_weight false = 1

-- the backends that are there, and those that were joined into the first, are as many as the
-- numbers that were given
abbrev pub AllAccounted : List View → Type 0
AllAccounted views = (v : View) → get_elem? views 0 ≡ some v
    → total (λ (u : View). live_weight u.emptied) views + v.joined ≡ length views

-- no two frames have the same tag word, unless it is all ones, with BM_TAG_VALID or without
abbrev pub TagsApart : ℕ → (ℕ → Frame) → Type 0
TagsApart frames frame = (f g : ℕ) → f < frames → g < frames → (frame f).tag ≢ no_tag
    → (frame f).tag ≡ (frame g).tag → f ≡ g

-- What holds of pins, headers, tags and maps
pub record PinInvariant (s : State) : Type 0 where
  -- what holds of each frame, and of what each view has there
  pub grid : Grid frame_shape pin_part s.frames s.frame (λ _. tt) s.views
  -- what holds of each partition of the mapping table, and of what each view has of its latch
  pub turns : Grid turn_shape turn_part s.partitions s.partition (λ _. tt) s.views
  -- no two frames have the same tag word, unless it is all ones
  pub apart : TagsApart s.frames s.frame
  -- a map gives a frame for a tag if and only if the frame has the tag, but for the pair in change
  pub maps : MapLaw s.frames s.partition_of (λ p. (s.partition p).map) (λ p. (s.partition p).owed)
      (λ f. (s.frame f).tag)
  -- each tag has a partition
  pub placed : (tag : ℕ) → s.partition_of tag < s.partitions
  -- what holds of the list of views: their numbers, and how many there are
  pub views : ViewsLaw s.frames s.partitions s.backends s.views
  -- the backends that are there, and those that were joined into the first, are as many as the
  -- numbers that were given
  pub accounted : AllAccounted s.views
