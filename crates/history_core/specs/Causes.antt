-- What must have happened before there can be a fault of writing: some backend marked a frame
-- dirty, or synced a lane.
use Rattle.std.specs.Prelude.{◌≡◌, ℕ, ◌<◌, false, List}
use mathlib.Core.Option.{some}
use lib.ListN.{get_elem?}
use Rattle.pin_core.specs.declared.view.View.{View}
use Rattle.pin_core.specs.State.{lane_hold}
use Rattle.pin_core.specs.Tallies.{flag_weight}
use Rattle.history_core.specs.State.{State, failed}
use Rattle.history_core.specs.Lanes.{is_failed_write}
use Rattle.grid.specs.Shape.{total}

-- 1 for a view that has marked a frame dirty or called a lane's sync, else 0
abbrev pub mark_weight : View → ℕ
mark_weight v = flag_weight v.dirtied_or_synced

-- no view has marked a frame dirty or called a lane's sync
abbrev pub NoneMarked : List View → Type 0
NoneMarked views = total mark_weight views ≡ 0

-- A view has had no output right, and knows of no failed write or sync of a lane
pub record KnowsNoOutput (v : View) : Type 0 where
  -- the view has had no output right
  pub output : v.had_output ≡ false
  -- the view counts no failed write or sync
  pub met : v.met.writes ≡ 0
  -- no lane is out with the view after a write or sync that failed
  pub out : (n : ℕ) → is_failed_write (lane_hold v n).change ≡ false

-- No frame is dirty, no block's last write failed, and no view knows of output
pub record AllQuiet (s : State) : Type 0 where
  -- no frame is dirty
  pub frames : (f : ℕ) → f < s.pool.core.frames → (s.pool.core.frame f).word.dirty ≡ false
  -- no block's last write failed
  pub blocks : (tag : ℕ) → failed s tag ≡ false
  -- no view has had an output right, or knows of a failed write or sync of a lane
  pub views : (i : ℕ) (v : View) → get_elem? s.pool.core.views i ≡ some v → KnowsNoOutput v

-- if no view has marked a frame dirty or called a lane's sync, no frame is dirty, no block's last
-- write failed, and no view knows of output.
-- This is as strong as a law about marks that are there, and each step shows it from what it
-- changes. Faults are a sum over all views, which a join doesn't change.
abbrev pub MarksLaw : State → Type 0
MarksLaw s = NoneMarked s.pool.core.views → AllQuiet s
