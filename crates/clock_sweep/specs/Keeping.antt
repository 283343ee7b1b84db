-- What a choice leaves of the view.
use Rattle.std.specs.Prelude.{◌≡◌, ◌≢◌, ℕ, []}
use Rattle.pin_core.specs.declared.view.View.{View}
use Rattle.pin_core.specs.State.{link}
use Rattle.frame_table.specs.Seats.{Grows, Looked, locked_link}

-- What a choice leaves of a view: all but its links, and what it lists and counts of steps, loads,
-- changed words and moves of the hand
abbrev pub aside_of : View → View
aside_of v = record v { links = []; steps = 0; ticks = 0; loads = []; changes = []; residents = [] }

-- the view has all that it had apart from frames: no partition is another, and no mark
abbrev pub SameAside : View → View → Type 0
SameAside v w = aside_of w ≡ aside_of v

-- The view has at each frame what it had, but for what loads note, and lists and counts no less
pub record KeepsFrames (v w : View) : Type 0 where
  pub aside : SameAside v w
  pub grows : Grows v w
  pub links : (g : ℕ) → Looked (link v g) (link w g)

-- the view keeps frames so, and has got the header of the frame f, with this word
pub record GetsHeader (f word : ℕ) (v w : View) : Type 0 where
  pub aside : SameAside v w
  pub grows : Grows v w
  pub here : Looked (locked_link word (link v f)) (link w f)
  pub others : (g : ℕ) → g ≢ f → Looked (link v g) (link w g)

-- The view pins the frames that it pinned, and in the same way
abbrev pub SamePins : View → View → Type 0
SamePins v w = (g : ℕ) → (link w g).role ≡ (link v g).role
