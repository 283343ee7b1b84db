use Rattle.frame_table.specs.Seats.{SameSeat}
use Rattle.content_locks.specs.Locks.{LooksAtContent}
use Rattle.content_locks.proofs.locks.share.Given as goal

abbrev pub invariant-loop : goal.invariant-loop
invariant-loop g l = record {
  seat : SameSeat l.fn.seat l.seat;
  looked : LooksAtContent l.fn.frame l.fn.seat.me.0 l.seat.me.0;
}
