use Rattle.std.proofs.Common.{arith, refl, sym, subst, ◌∙◌}
use Rattle.frame_table.proofs.SameSeats.{same_seat_none, same_seat_on}
use Rattle.clock_sweep.specs.Choosing.{Sweeps, starts, passes}
use Rattle.clock_sweep.proofs.Keeping.{headless_on, keeps_on, next_keeps, passes_few, sweeps_keep}
use Rattle.clock_sweep.proofs.clock.from_clock.Goals as goal

pub loop-init : goal.loop-init
loop-init g c = record { seat = same_seat_none _; sweeps = subst (Sweeps _ _ _) (sym c.frames-tries.ensures) starts; few = (let e = c.frames-tries.ensures in omega arith); empty = refl }

pub treat-requires-clause-headless : goal.treat-requires-clause-headless
treat-requires-clause-headless g c = headless_on _ _ (keeps_on _ _ _ (sweeps_keep _ _ _ _ c.loop.invariant.sweeps c.requires.headless) (next_keeps _ _ _ _ _ _ c.in-Some-next_frame.ensures.next)) c.requires.headless

pub loop-preserved : goal.loop-preserved
loop-preserved g c = let i = c.loop.invariant in let n = c.in-Some-next_frame.ensures in record {
  seat = same_seat_on _ _ _ i.seat (same_seat_on _ _ _ n.seat c.treat.ensures.seat);
  sweeps = passes _ i.sweeps n.next c.in-Passed.ensures.treats;
  few = passes_few _ _ _ _ _ _ n.inside.2 c.in-Passed.ensures.treats;
  empty = n.cleared ∙ i.empty;
}
