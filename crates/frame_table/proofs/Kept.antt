-- Each kind at a frame is a step of the protocol.
use Rattle.std.proofs.Common.{◌≡◌, ℕ, ◌<◌, false}
use mathlib.Core.Option.{some}
use lib.ListN.{get_elem?}
use Rattle.pin_core.specs.declared.view.View.{View}
use Rattle.pin_core.specs.Steps as pin_steps
use Rattle.page_core.specs.Steps as page_steps
use Rattle.history_core.specs.State.{State}
use Rattle.history_core.specs.Steps.{Step, pools}
use Rattle.frame_table.specs.Kinds.{FrameKind, pins, pages, IsAllowed, IsAllowedAround, state_after, event_of}

-- a kind at a frame is a step
pub frame_step : (k : FrameKind) (s : State) (i f : ℕ) (v : View) → get_elem? s.pool.core.views i ≡ some v → v.emptied ≡ false → f < s.pool.core.frames → IsAllowed k s f v → IsAllowedAround k s f v → Step (event_of k i f) s (state_after k s i f v)
frame_step (pins k) s i f v there live inside allowed around = pools (page_steps.cores (pin_steps.touches i f k v there live inside allowed around)) tt
frame_step (pages k) s i f v there live inside allowed around = pools (page_steps.touches i f k v there live inside allowed.1 around) allowed.0
