-- What was logged up to where a checkpoint began is stored at its end.
use Rattle.std.proofs.Common.{◌≡◌, ◌≢◌, inl, ℕ, ◌<◌, ◌≤◌, sym, ap, subst, arith}
use mathlib.Core.Logic.{dite}
use native.Mathlib.Decide.{ℕ_discrete}
use Rattle.pin_core.specs.declared.view.LaneHold.{LaneHold}
use Rattle.pin_core.specs.declared.view.View.{View}
use Rattle.pin_core.specs.State.{lane_hold}
use Rattle.history_core.specs.Promises.{AreDurable, AreStored, AreSynced}
use Rattle.history_core.specs.State.{State}
use Rattle.history_core.proofs.EntryBlocks.{entries_of_blocks}
use Rattle.history_core.proofs.Promises.{seen_durable, sweeps}
use Rattle.buffer_frames.specs.Syncs.{LeavesLane}
use Rattle.backend_pass.specs.Closing.{HasSwept}
use Rattle.checkpointer.specs.Checkpoints.{StoresUpTo}

module _ (lanes lane : ℕ) (w : View) (l : LeavesLane lanes lane w) where
  abbrev s : State
  s = l.did.state

  -- what was swept, and flushed, as the latch was left
  swept_as : (q : ℕ) → (lane_hold w q).swept ≡ (lane_hold l.before q).swept
  swept_as q = dite (ℕ_discrete q lane)
      (λ (e : q ≡ lane). subst (λ (x : ℕ). (lane_hold w x).swept ≡ (lane_hold l.before x).swept) (sym e) (ap (λ (h : LaneHold). h.swept) l.turned.0))
      (λ (n : q ≢ lane). ap (λ (h : LaneHold). h.swept) (l.turned.1 q n))

  flushed_as : w.flushed ≡ l.before.flushed
  flushed_as = ap (λ (v : View). v.flushed) l.did.after

  -- the view had swept each lane that there is
  swept_there : (upto : ℕ) → HasSwept lanes upto w → (q : ℕ) → q < s.lanes → upto ≤ (lane_hold l.before q).swept
  swept_there upto swept q low = let wide = l.did.laws.invariant.wide l.did.seat l.before l.did.there l.did.live in let counted = l.wide in let x = swept q (omega arith) in let y = swept_as q in omega arith

  pub stores : (upto : ℕ) → upto ≤ w.flushed → HasSwept lanes upto w → StoresUpTo lanes upto w
  stores upto flushed swept = record { lane = lane; left = l; durable = are_durable; synced = both.0; stored = both.1 }
    where
      are_durable : AreDurable s upto
      are_durable = seen_durable s l.did.laws.invariant l.did.seat upto l.before l.did.there (let x = flushed_as in omega arith)

      both : AreSynced s upto × AreStored s upto
      both = sweeps s l.did.laws.invariant l.did.laws.debts (entries_of_blocks s l.did.laws) l.did.laws.swept l.did.seat upto l.before l.did.there (inl (swept_there upto swept))
