-- Each step that a call tells of is an event of the protocol: it leads from the state that the call was at, which events lead to, to a next one, in which the backend has the view that the call leaves.
use Rattle.std.proofs.Common.{◌≡◌, ℕ, List, sym, ap, ◌∙◌}
use mathlib.Core.Option.{some}
use lib.ListN.{get_elem?}
use Rattle.pin_core.specs.declared.view.View.{View}
use Rattle.history_core.specs.State.{State}
use Rattle.history_core.specs.Steps.{Event, Step}
use Rattle.history_core.specs.Histories.{IsReached}
use Rattle.history_core.proofs.Laws.{laws_kept}
use Rattle.grid.proofs.Lists.{set_here}
use Rattle.frame_table.specs.Kinds.{FrameKind, view_after, state_after, event_of}
use Rattle.frame_table.specs.FrameSteps.{Did}
use Rattle.frame_table.proofs.Frames.{views_are}
use Rattle.frame_table.proofs.Kept.{frame_step}

-- The event by which backend i, whose view was v, came to w
pub record IsEvent (event : ℕ → Event) (v w : View) : Type 0 where
  pub state : State
  pub next : State
  pub seat : ℕ
  pub step : Step (event seat) state next
  pub before : get_elem? state.pool.core.views seat ≡ some v
  pub after : get_elem? next.pool.core.views seat ≡ some w
  pub reached : IsReached state
  pub next_reached : IsReached next

pub did_event : (k : FrameKind) (f found : ℕ) (v w : View) → Did k f v w found → IsEvent (λ i. event_of k i f) v w
did_event k f found v w d = let step : Step (event_of k d.seat f) d.state (state_after k d.state d.seat f v) = frame_step k d.state d.seat f v d.there d.live d.inside d.allowed d.around in record {
  state = d.state;
  next = state_after k d.state d.seat f v;
  seat = d.seat;
  step = step;
  before = d.there;
  after = ap (λ (l : List View). get_elem? l d.seat) (views_are k d.state d.seat f v) ∙ set_here d.state.pool.core.views d.seat v (view_after k d.state f v) d.there ∙ ap (λ (x : View). some x) (sym d.after);
  reached = d.laws.reached;
  next_reached = (laws_kept step d.laws).reached;
}
