-- One step, and lists of steps.
use Rattle.std.specs.Prelude.{◌≡◌, ◌≢◌, ℕ, ◌<◌, true, false, List, [], ◌∷◌, Option, Some, None}
use Rattle.std.specs.Prelude.{if◌then◌else◌}
use mathlib.Core.Option.{some}
use lib.ListN.{get_elem?}
use Rattle.pin_core.specs.declared.view.Io.TheVariants.{Quiet}
use Rattle.pin_core.specs.declared.view.LaneChange.{LaneChange}
use Rattle.pin_core.specs.declared.view.LaneChange.TheVariants.{Written, WriteFailed}
use Rattle.pin_core.specs.declared.view.View.{View}
use Rattle.pin_core.specs.State.{link, lane_hold, local, is_block, is_cut}
use Rattle.pin_core.specs.State as pins
use Rattle.pin_core.specs.Sizes.{SizeKind, enter_extension, enter_cut}
use Rattle.pin_core.specs.Steps as pin_steps
use Rattle.page_core.specs.State.{State, block_of, zero_page}
use Rattle.page_core.specs.Kinds.{Kind, make_entry, start_input, start_output, end_io, set_waiter}
use Rattle.page_core.specs.Kinds.{Allowed, frame_after, block_after, view_after}
use Rattle.grid.specs.Shape.{put}

-- the view has no input or output right
abbrev pub HasNoIo : View → Type 0
HasNoIo v = (f : ℕ) → (link v f).io ≡ Quiet

-- no entry of the view is unapplied, at any frame
abbrev pub HasNoneUnapplied : View → Type 0
HasNoneUnapplied v = (f : ℕ) → (link v f).unapplied ≡ false

-- the one change of a lane was a write of the frame f, done or failed
abbrev pub IsWriteOf : ℕ → LaneChange → Type 0
IsWriteOf f (Written g tag page) = g ≡ f
IsWriteOf f (WriteFailed g tag) = g ≡ f
IsWriteOf f _ = ⊥

-- no lane is out with a write of the frame f
abbrev pub HasNoWriteOut : View → ℕ → Type 0
HasNoWriteOut v f = (n : ℕ) → (lane_hold v n).out ≢ None → ¬ IsWriteOf f (lane_hold v n).change

-- The number is the view's own, and the view waits nowhere
pub record MayWait (number : ℕ) (v : View) : Type 0 where
  -- the number is the view's own
  pub own : number ≡ v.number
  -- the view waits nowhere
  pub nowhere : (f : ℕ) → (link v f).waits ≡ None

-- The block of the frame's tag is there, and no entry of the view is unapplied
pub record MayMakeEntry (s : State) (v : View) (f : ℕ) : Type 0 where
  -- the frame's tag is of a block of the relations
  pub block : is_block s.core (s.core.frame f).tag ≡ true
  -- no entry of the view is unapplied, at any frame
  pub none : HasNoneUnapplied v

-- The view has no input or output right; the frame's block is there, or is new and noted by it
pub record MayStartInput (s : State) (v : View) (f : ℕ) : Type 0 where
  -- the frame's tag is of a block of the relations, unless the view notes it as new
  pub block : (link v f).noted ≡ false → is_block s.core (s.core.frame f).tag ≡ true
  -- the view has no input or output right, at any frame
  pub none : HasNoIo v

-- What a kind at the frame f asks of the whole state and view, beyond the frame
abbrev pub AllowedAround : Kind → State → View → ℕ → Type 0
AllowedAround (make_entry p) s v f = MayMakeEntry s v f
AllowedAround start_input s v f = MayStartInput s v f
AllowedAround start_output s v f = HasNoIo v
AllowedAround (end_io end) s v f = HasNoWriteOut v f
AllowedAround (set_waiter number) s v f = MayWait number v
AllowedAround _ s v f = Unit {0}

-- What happens: an event of `pin_core`, or a step of this crate's kinds at a frame
pub data Event : Type 0 where
  -- an event of `pin_core`: of pins, headers, tags, maps, sizes or backends
  pins_and_maps : pin_steps.Event → Event
  -- a step at a frame, by the numbers of the backend and of the frame, and the kind
  at : ℕ → ℕ → Kind → Event

-- the pages of the blocks after a kind at a frame with this tag
abbrev pub logged_after : Kind → (ℕ → Option pins.Page) → ℕ → ℕ → Option pins.Page
logged_after k logged tag = put logged tag (block_after k (block_of logged tag)).logged

-- the state after a step of the kind k at the frame f by backend i, whose view is v
abbrev pub state_after : Kind → State → ℕ → ℕ → View → State
state_after k s i f v = let fr = s.core.frame f in let b = block_of s.logged fr.tag in record {
  core = local s.core i f (frame_after k b fr) (view_after k f b fr (link v f) v);
  logged = logged_after k s.logged fr.tag;
}

-- the pages of the blocks after a change of a fork's size: an added block is all zero, and a
-- block that is cut away has none
abbrev pub logged_sized : SizeKind → ℕ → State → ℕ → Option pins.Page
logged_sized (enter_extension f end) fork s = put s.logged (s.core.frame f).tag (Some zero_page)
logged_sized (enter_cut n end) fork s = λ tag. if is_cut fork n tag then None else s.logged tag
logged_sized _ fork s = s.logged

-- the pages of the blocks after an event of `pin_core`
abbrev pub logged_by : pin_steps.Event → State → ℕ → Option pins.Page
logged_by (pin_steps.size_at i fork k) s = logged_sized k fork s
logged_by _ s = s.logged

-- One step leads from one state to another
pub data Step : Event → State → State → Type 0 where
  -- an event of `pin_core`
  cores : {s : State} {e : pin_steps.Event} {core' : pins.State} → pin_steps.Step e s.core core'
      → Step (pins_and_maps e) s (record s { core = core'; logged = logged_by e s })
  -- a step of the kind k at the frame f by backend i, whose view is v
  touches : {s : State} (i f : ℕ) (k : Kind) (v : View) → get_elem? s.core.views i ≡ some v
      → v.emptied ≡ false → f < s.core.frames
      → Allowed k (block_of s.logged (s.core.frame f).tag) (s.core.frame f) (link v f)
      → AllowedAround k s v f
      → Step (at i f k) s (state_after k s i f v)

-- The events lead from one state to the other
pub data Run : List Event → State → State → Type 0 where
  -- no event leads from a state to itself
  rests : {s : State} → Run [] s s
  -- one step, and the events after it
  goes : {e : Event} {es : List Event} {s t u : State} → Step e s t → Run es t u → Run (e ∷ es) s u
