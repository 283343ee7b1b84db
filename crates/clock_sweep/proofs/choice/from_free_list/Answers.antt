use Rattle.frame_table.proofs.SameSeats.{same_seat_none, same_seat_on}
use Rattle.clock_sweep.specs.Choosing.{still, again, LeavesFree}
use Rattle.clock_sweep.proofs.Keeping.{headless_on, list_keeps, seat_on}
use Rattle.std.proofs.Common.{◌∙◌, refl, sym, subst}
use Rattle.clock_sweep.proofs.FreeLists.{of_same}
use Rattle.clock_sweep.proofs.choice.from_free_list.Goals as goal

pub loop-init : goal.loop-init
loop-init g c = record { seat = same_seat_none _; queue = refl; leaves = still }

pub take-requires : goal.take-requires
take-requires g c = of_same _ _ _ c.requires.queue c.loop.invariant.queue

pub try_frame-requires-clause-headless : goal.try_frame-requires-clause-headless
try_frame-requires-clause-headless g c = headless_on _ _ (list_keeps _ _ _ _ _ c.loop.invariant.leaves c.requires.headless) c.requires.headless

pub try_frame-requires-clause-seat : goal.try_frame-requires-clause-seat
try_frame-requires-clause-seat g c = let i = c.loop.invariant in seat_on _ _ _ c.requires.seat i.seat (list_keeps _ _ _ _ _ i.leaves c.requires.headless)

pub loop-preserved : goal.loop-preserved
loop-preserved g c = let i = c.loop.invariant in let t = c.in_ok-frame.ensures in record {
  seat = same_seat_on _ _ _ i.seat c.try_frame.ensures.seat;
  queue = t.same ∙ i.queue;
  leaves = subst (LeavesFree _ _ _ _) (sym t.took.1) (again c.in_ok-frame.frame i.leaves t.took.0 c.in_default.ensures.skips);
}
