-- What is summed over the views at a frame.
use Rattle.std.specs.Prelude.{ℕ, Bool, true, false, Option, Some, None}
use Rattle.pin_core.specs.declared.view.Role.{Role}
use Rattle.pin_core.specs.declared.view.Role.TheVariants.{Absent, HandedOut, Victim}
use Rattle.pin_core.specs.declared.view.Link.{Link}
use Rattle.pin_core.specs.declared.view.View.{View}
use Rattle.pin_core.specs.State.{Frame, link}
use Rattle.grid.specs.Shape.{Shape}

-- What is summed over the views at a frame
pub data Tally : Type 0 where
  -- the views that pin the frame
  pins : Tally
  -- the views that hold the frame's header
  headers : Tally
  -- the views that stored the frame's tag word, and have neither assigned nor cleared the frame yet
  pendings : Tally
  -- the views that pin the frame, without those that have still to assign or clear it
  settled_pins : Tally
  -- the views that hold the frame's header, without those that have still to assign or clear it
  settled_headers : Tally

-- 1 for a pin
abbrev pub pin_weight : Role → ℕ
pin_weight Absent = 0
pin_weight HandedOut = 1
pin_weight Victim = 1

-- 1 for something, and 0 for nothing
abbrev pub some_weight : {A : Type 0} → Option A → ℕ
some_weight None = 0
some_weight (Some x) = 1

-- 1 for a flag that is set
abbrev pub flag_weight : Bool → ℕ
flag_weight true = 1
flag_weight false = 0

-- n, but 0 if the flag is set
abbrev pub unless_flag : Bool → ℕ → ℕ
unless_flag true n = 0
unless_flag false n = n

-- what a view adds to a sum by what it has at the frame
abbrev pub weigh : Tally → Link → ℕ
weigh pins l = pin_weight l.role
weigh headers l = some_weight l.header
weigh pendings l = flag_weight l.pending
weigh settled_pins l = unless_flag l.pending (pin_weight l.role)
weigh settled_headers l = unless_flag l.pending (some_weight l.header)

-- the grid of views and frames; this law needs nothing of a block, nor of a view besides its links
abbrev pub frame_shape : Shape
frame_shape = record {
  Column = Frame;
  Link = Link;
  View = View;
  Tally = Tally;
  Block = Unit {0};
  Own = Unit {0};
  weigh = weigh;
  link = link;
  own = λ _. tt;
  spot = λ _. 0;
}
