use Rattle.std.proofs.Common.{◌≡◌}
use Rattle.frame_table.specs.Seats.{SameSeat}
use Rattle.clock_sweep.specs.Choosing.{Counts}
use Rattle.clock_sweep.proofs.clock.take_census.Given as goal

abbrev pub invariant-loop-frame : goal.invariant-loop-frame
invariant-loop-frame g l = record {
  seat : SameSeat l.fn.seat l.seat;
  counts : Counts l.fn.seat.me.0 l.fn.seat.me.0 l.frame l.seat.me.0 l.census.words;
  room : l.census.frames ≡ l.fn.census.frames;
}
