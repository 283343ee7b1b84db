-- What is summed over the views at a frame, besides what `pin_core` sums.
use Rattle.std.specs.Prelude.{ℕ, Option, Some, None, nat_eq}
use Rattle.pin_core.specs.declared.view.Content.{Content}
use Rattle.pin_core.specs.declared.view.Content.TheVariants.{Unlocked, Shared, Exclusive}
use Rattle.pin_core.specs.declared.view.Io.{Io}
use Rattle.pin_core.specs.declared.view.Io.TheVariants.{Quiet, Input, Output}
use Rattle.pin_core.specs.declared.view.Link.{Link}
use Rattle.pin_core.specs.declared.view.View.{View}
use Rattle.pin_core.specs.State.{Frame, link}
use Rattle.pin_core.specs.Tallies.{flag_weight, some_weight, unless_flag}
use Rattle.pin_core.specs.Tallies as pins
use Rattle.page_core.specs.State.{Block}
use Rattle.grid.specs.Shape.{Shape}

-- What is summed over the views at a frame
pub data Tally : Type 0 where
  -- what is summed for pins, headers and tags
  pin : pins.Tally → Tally
  -- the views that share the content lock
  sharers : Tally
  -- the views that have the content lock exclusively, with no entry to apply
  applied_locks : Tally
  -- the views whose entry is in the log, and not yet applied to the page
  unapplied_locks : Tally
  -- the views that have the copy latch
  copies : Tally
  -- the views that have an input or output right
  works : Tally
  -- the views that have the page out
  outs : Tally
  -- the views that wait under the number
  waits_as : ℕ → Tally

-- 1 for a shared content lock
abbrev pub share_weight : Content → ℕ
share_weight Unlocked = 0
share_weight Shared = 1
share_weight Exclusive = 0

-- 1 for an exclusive content lock
abbrev pub exclusive_weight : Content → ℕ
exclusive_weight Unlocked = 0
exclusive_weight Shared = 0
exclusive_weight Exclusive = 1

-- 1 for an input or output right
abbrev pub work_weight : Io → ℕ
work_weight Quiet = 0
work_weight Input = 1
work_weight Output = 1

-- 1 for a wait under the number
abbrev pub wait_weight : ℕ → Option ℕ → ℕ
wait_weight number None = 0
wait_weight number (Some own) = flag_weight (nat_eq number own)

-- what a view adds to a sum by what it has at the frame
abbrev pub weigh : Tally → Link → ℕ
weigh (pin k) l = pins.weigh k l
weigh sharers l = share_weight l.content
weigh applied_locks l = unless_flag l.unapplied (exclusive_weight l.content)
weigh unapplied_locks l = flag_weight l.unapplied
weigh copies l = flag_weight l.copying
weigh works l = work_weight l.io
weigh outs l = some_weight l.out
weigh (waits_as number) l = wait_weight number l.waits

-- the grid of views and frames, in which a frame names the block of its tag word
abbrev pub page_shape : Shape
page_shape = record {
  Column = Frame;
  Link = Link;
  View = View;
  Tally = Tally;
  Block = Block;
  Own = Unit {0};
  weigh = weigh;
  link = link;
  own = λ _. tt;
  spot = λ fr. fr.tag;
}
