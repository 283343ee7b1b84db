use Rattle.pin_core.specs.State.{link}
use Rattle.frame_table.specs.Seats.{Looked, SameMarks, SameSeat, Touches}
use Rattle.cleanup_lock.specs.Cleanup.{Retried}
use Rattle.cleanup_lock.proofs.locking.lock.Given as goal

abbrev pub invariant-loop : goal.invariant-loop
invariant-loop g l = record {
  seat : SameSeat l.fn.seat l.seat;
  touches : Touches l.fn.frame l.fn.seat.me.0 l.seat.me.0;
  marks : SameMarks l.fn.seat.me.0 l.seat.me.0;
  looked : Looked (link l.fn.seat.me.0 l.fn.frame) (link l.seat.me.0 l.fn.frame);
  turns : Retried l.fn.number l.fn.frame l.fn.seat.me.0 l.seat.me.0;
}
