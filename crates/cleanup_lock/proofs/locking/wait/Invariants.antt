use Rattle.frame_table.specs.Seats.{SameSeat}
use Rattle.frame_table.specs.FrameSteps.{Looks}
use Rattle.cleanup_lock.proofs.locking.wait.Given as goal

abbrev pub invariant-loop : goal.invariant-loop
invariant-loop g l = record {
  seat : SameSeat l.fn.seat l.seat;
  looked : Looks l.fn.frame l.fn.seat.me.0 l.seat.me.0;
}
