-- One step, and lists of steps.
use Rattle.std.specs.Prelude.{◌≡◌, ◌≢◌, ℕ, ◌<◌, true, false, List, [], ◌∷◌, Some, None, slice_set}
use mathlib.Core.Option.{some}
use lib.ListN.{get_elem?}
use Rattle.pin_core.specs.declared.view.Role.TheVariants.{Absent, Victim}
use Rattle.pin_core.specs.declared.view.Content.TheVariants.{Unlocked}
use Rattle.pin_core.specs.declared.view.Io.TheVariants.{Quiet}
use Rattle.pin_core.specs.declared.view.Link.{Link}
use Rattle.pin_core.specs.declared.view.View.{View}
use Rattle.pin_core.specs.declared.view.MapChange.TheVariants.{Stable}
use Rattle.pin_core.specs.declared.view.SizeRight.TheVariants as size_right
use Rattle.pin_core.specs.State.{State, link, hold, lane_hold, size_hold, tag_fork, tag_block}
use Rattle.pin_core.specs.State.{is_block, split_state, joined_state}
use Rattle.grid.specs.Shape.{put}
use Rattle.pin_core.specs.Kinds.{Kind, lock_header, store_tag, store_new_tag, erase_tag, pin_mapped}
use Rattle.pin_core.specs.Kinds.{pin_victim, Allowed, frame_after, named_by, partitions_owing}
use Rattle.pin_core.specs.Kinds.{view_after}
use Rattle.pin_core.specs.Turns.{TurnKind, TurnAllowed, partition_after, view_turned}
use Rattle.pin_core.specs.Sizes.{SizeKind, MayResize, SizeAllowed, state_sized}

-- the view holds no header
abbrev pub HoldsNoHeader : View → Type 0
HoldsNoHeader v = (f : ℕ) → (link v f).header ≡ None

-- the view has no victim pin
abbrev pub HasNoVictim : View → Type 0
HasNoVictim v = (f : ℕ) → (link v f).role ≢ Victim

-- The view has the latch of the tag's partition, whose one change isn't made, and names no pair in
-- change
pub record MayName (s : State) (v : View) (tag : ℕ) : Type 0 where
  -- the view has the latch of the tag's partition
  pub held : (hold v (s.partition_of tag)).held ≡ true
  -- the view made no change of the map under this latch
  pub unchanged : (hold v (s.partition_of tag)).changed ≡ false
  -- the view names no pair in change, of any partition
  pub no_change : (p : ℕ) → (hold v p).change ≡ Stable

-- The view has the shared right on the size of the tag's fork, and found the block below it
pub record HoldsSizeAbove (v : View) (tag : ℕ) : Type 0 where
  -- the view has the shared right on the size of the tag's fork
  pub right : (size_hold v (tag_fork tag)).right ≡ size_right.Shared
  -- the tag's block is below the size that the view found
  pub below : tag_block tag < (size_hold v (tag_fork tag)).blocks

-- The map lacks the tag, which is a block's; if forks may grow and shrink, the view keeps the
-- fork at a size above it
pub record MayEnter (s : State) (v : View) (tag : ℕ) : Type 0 where
  -- the view may name a pair of the tag's partition
  pub naming : MayName s v tag
  -- the tag is of a block of the relations
  pub block : is_block s tag ≡ true
  -- if forks may grow and shrink, the view has the shared right on the size of the tag's fork, and
  -- found the block below it
  pub room : s.resizes ≡ true → HoldsSizeAbove v tag
  -- the map gives no frame for the tag
  pub lacking : (s.partition (s.partition_of tag)).map tag ≡ None

-- The map lacks the tag, which is of the block at its fork's size. The view has the exclusive
-- right on that, and has passed no frame for a cut
pub record MayEnterNew (s : State) (v : View) (tag : ℕ) : Type 0 where
  -- the view may name a pair of the tag's partition
  pub naming : MayName s v tag
  -- the view has the exclusive right on the size of the tag's fork, and made no change under it
  pub may : MayResize s v (tag_fork tag)
  -- the view has passed no frame for a cut of the tag's fork
  pub unpassed : (size_hold v (tag_fork tag)).cut_to ≡ None
  -- the tag's block is the first one above the size that the view found
  pub at : tag_block tag ≡ (size_hold v (tag_fork tag)).blocks
  -- the map gives no frame for the tag
  pub lacking : (s.partition (s.partition_of tag)).map tag ≡ None

-- The view has the latch of the tag's partition, whose map gives the frame, and names no pair in
-- change there
pub record IsMapped (s : State) (v : View) (tag f : ℕ) : Type 0 where
  -- the view has the latch of the tag's partition
  pub held : (hold v (s.partition_of tag)).held ≡ true
  -- the view names no pair in change of that partition
  pub no_change : (hold v (s.partition_of tag)).change ≡ Stable
  -- the map gives the frame for the tag
  pub given : (s.partition (s.partition_of tag)).map tag ≡ Some f

-- What a kind at the frame f asks of the whole state and view, beyond the frame
abbrev pub AllowedAround : Kind → State → View → ℕ → Type 0
AllowedAround lock_header s v f = HoldsNoHeader v
AllowedAround pin_victim s v f = HasNoVictim v
AllowedAround (store_tag tag) s v f = MayEnter s v tag
AllowedAround (store_new_tag tag) s v f = MayEnterNew s v tag
AllowedAround erase_tag s v f = MayName s v (s.frame f).tag
AllowedAround (pin_mapped tag ring) s v f = IsMapped s v tag f
AllowedAround _ s v f = Unit {0}

-- What happens: a backend's step at a frame, at a partition's latch, or at the size of a fork, a
-- new backend, or the end of one
pub data Event : Type 0 where
  -- a step at a frame, by the numbers of the backend and of the frame, and the kind
  at : ℕ → ℕ → Kind → Event
  -- a step at a partition's latch, by the numbers of the backend and of the partition, and the kind
  turn : ℕ → ℕ → TurnKind → Event
  -- a step at the size of a fork, by the numbers of the backend and of the fork, and the kind
  size_at : ℕ → ℕ → SizeKind → Event
  -- a new backend starts
  split : Event
  -- the backend of this number ends, and is joined into the first
  join : ℕ → Event

-- The view has nothing at a frame that it must give back
pub record HoldsNothingAt (l : Link) : Type 0 where
  -- the view has no pin there
  pub no_pin : l.role ≡ Absent
  -- the view doesn't hold the header
  pub no_header : l.header ≡ None
  -- the view has no content lock there
  pub no_content : l.content ≡ Unlocked
  -- the view has no input or output right there
  pub no_io : l.io ≡ Quiet
  -- the view doesn't have the page out
  pub page_home : l.out ≡ None
  -- the view doesn't wait there
  pub no_wait : l.waits ≡ None

-- The view holds nothing.
-- A backend starts and ends at any time; the first never ends, and one that ends holds nothing.
pub record HoldsNothing (v : View) : Type 0 where
  -- the view has nothing at any frame that it must give back
  pub frames : (f : ℕ) → HoldsNothingAt (link v f)
  -- the view has the latch of no partition
  pub partitions : (p : ℕ) → (hold v p).held ≡ false
  -- the view has the latch of no lane
  pub lanes : (n : ℕ) → (lane_hold v n).held ≡ false
  -- the view has no right on the size of a fork
  pub sizes : v.sizes ≡ []
  -- the view doesn't have the log's latch
  pub log : v.log.held ≡ false

-- the state after a step of the kind k at the frame f by backend i, whose view is v
abbrev pub state_after : Kind → State → ℕ → ℕ → View → State
state_after k s i f v = record s {
  frame = put s.frame f (frame_after k (s.frame f));
  partition = partitions_owing (named_by k f (s.frame f)) s.partition_of s.partition;
  views = slice_set s.views i (view_after k s.partition_of f (s.frame f) (link v f) v);
}

-- the state after a step of the kind k at the partition p by backend i, whose view is v
abbrev pub state_turned : TurnKind → State → ℕ → ℕ → View → State
state_turned k s i p v = record s {
  partition = put s.partition p (partition_after k (s.partition p) (hold v p));
  views = slice_set s.views i (view_turned k p (hold v p) v);
}

-- One step leads from one state to another
pub data Step : Event → State → State → Type 0 where
  -- a step of the kind k at the frame f by backend i, whose view is v
  touches : {s : State} (i f : ℕ) (k : Kind) (v : View) → get_elem? s.views i ≡ some v
      → v.emptied ≡ false → f < s.frames → Allowed k (s.frame f) (link v f) → AllowedAround k s v f
      → Step (at i f k) s (state_after k s i f v)
  -- a step of the kind k at the latch of the partition p by backend i, whose view is v
  turns : {s : State} (i p : ℕ) (k : TurnKind) (v : View) → get_elem? s.views i ≡ some v
      → v.emptied ≡ false → p < s.partitions → TurnAllowed k (s.partition p) (hold v p)
      → Step (turn i p k) s (state_turned k s i p v)
  -- a step of the kind k at the size of a fork by backend i, whose view is v
  sized : {s : State} (i fork : ℕ) (k : SizeKind) (v : View) → get_elem? s.views i ≡ some v
      → v.emptied ≡ false → SizeAllowed k s v fork
      → Step (size_at i fork k) s (state_sized k s i fork v)
  -- a new backend starts, with the first one's next number
  splits : {s : State} (v : View) → get_elem? s.views 0 ≡ some v → v.next < s.backends
      → Step split s (split_state s v)
  -- backend j, which holds nothing, is joined into the first: its front is taken over, and its
  -- checkpoint under its number; its loads, device calls, counts of latches and steps, and last
  -- ended word aren't
  joins : {s : State} (j : ℕ) (v u : View) → get_elem? s.views 0 ≡ some v → j ≢ 0
      → get_elem? s.views j ≡ some u → u.emptied ≡ false → HoldsNothing u
      → Step (join j) s (joined_state s v j u)

-- The events lead from one state to the other
pub data Run : List Event → State → State → Type 0 where
  -- no event leads from a state to itself
  rests : {s : State} → Run [] s s
  -- one step, and the events after it
  goes : {e : Event} {es : List Event} {s t u : State} → Step e s t → Run es t u → Run (e ∷ es) s u
