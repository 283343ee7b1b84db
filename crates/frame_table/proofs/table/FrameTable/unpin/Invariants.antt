use Rattle.frame_table.specs.Seats.{SameSeat}
use Rattle.frame_table.specs.FrameSteps.{Looks}
use Rattle.frame_table.proofs.table.FrameTable.unpin.Given as goal

abbrev pub invariant-loop : goal.invariant-loop
invariant-loop g l = record {
  seat : SameSeat l.initial.seat l.seat;
  looked : Looks l.frame l.initial.seat.me.0 l.seat.me.0;
}
