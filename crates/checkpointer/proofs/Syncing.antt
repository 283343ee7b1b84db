-- The syncs of lanes.
use Rattle.std.proofs.Common.{◌≡◌, ◌≢◌, ℕ, ◌+◌, ◌<◌, ◌≤◌, Bool, true, List, [], ◌∷◌, length, get_or, add-one, sym, ap, ◌∙◌, subst, arith}
use mathlib.Core.Logic.{dite}
use native.Mathlib.Decide.{ℕ_discrete}
use Rattle.pin_core.specs.declared.view.DeviceCall.TheVariants.{LaneSync}
use Rattle.pin_core.specs.declared.view.Link.{Link}
use Rattle.pin_core.specs.declared.view.View.{View}
use Rattle.pin_core.specs.State.{idle, lane_hold, link}
use Rattle.history_core.specs.Lanes.{swept_by}
use Rattle.frame_table.specs.Latches.{work_of}
use Rattle.frame_table.specs.Seats.{OnlyRises}
use Rattle.buffer_frames.specs.Working.{Made}
use Rattle.buffer_frames.proofs.WorkSteps.{made_on}
use Rattle.buffer_frames.specs.Syncs.{synced_work}
use Rattle.checkpointer.specs.Marked.{HasNoneLeft}
use Rattle.checkpointer.specs.Stages.{syncs_below}
use Rattle.checkpointer.proofs.Ended.{swept_to}

-- a view with the same links
pub written_same : (frames : ℕ) (v w : View) → w.links ≡ v.links → HasNoneLeft frames v → HasNoneLeft frames w
written_same frames v w same h f low = let e : link w f ≡ link v f = ap (λ (l : List Link). get_or l f idle) same in (ap (λ (l : Link). l.visited) e ∙ (h f low).0, ap (λ (l : Link). l.left_to_write) e ∙ (h f low).1)

-- what the sync of a lane makes of a view
pub synced_links : (lane : ℕ) (done : Bool) (v w : View) → work_of w ≡ synced_work lane done v → w.links ≡ v.links
synced_links lane done v w e = ap (λ (x : View). x.links) e

pub synced_calls : (lane : ℕ) (done : Bool) (v w : View) → work_of w ≡ synced_work lane done v → Made (LaneSync lane done ∷ []) v w
synced_calls lane done v w e = ap (λ (x : View). x.device_calls) e

-- one more lane is synced
pub calls_more : (lane : ℕ) (u v w : View) → Made (syncs_below lane) u v → Made (LaneSync lane true ∷ []) v w → Made (syncs_below (lane + 1)) u w
calls_more lane u v w a b = subst (λ (n : ℕ). Made (syncs_below n) u w) (sym (add-one lane)) (made_on (syncs_below lane) (LaneSync lane true ∷ []) u v w a b)

-- and swept
pub swept_more : (frames lane upto : ℕ) (v w : View) → length v.links ≡ frames → HasNoneLeft frames v → v.upto ≡ upto → swept_by v ≤ (lane_hold w lane).swept → OnlyRises v w
    → ((q : ℕ) → q < lane → upto ≤ (lane_hold v q).swept) → (q : ℕ) → q < lane + 1 → upto ≤ (lane_hold w q).swept
swept_more frames lane upto v w wide written is here rises before q low = dite (ℕ_discrete q lane)
    (λ (e : q ≡ lane). subst (λ (x : ℕ). upto ≤ (lane_hold w x).swept) (sym e) (let s = swept_to frames v wide written in omega arith))
    (λ (n : q ≢ lane). let x = before q (omega arith) in let y = rises.swept q in omega arith)
