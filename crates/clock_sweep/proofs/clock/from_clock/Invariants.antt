use Rattle.std.proofs.Common.{◌≡◌, ◌≤◌}
use Rattle.frame_table.specs.Seats.{SameSeat, frames_of}
use Rattle.clock_sweep.specs.Choosing.{Sweeps}
use Rattle.clock_sweep.proofs.clock.from_clock.Given as goal

abbrev pub invariant-loop : goal.invariant-loop
invariant-loop g l = record {
  seat : SameSeat l.fn.seat l.seat;
  sweeps : Sweeps (frames_of l.fn.table) l.fn.seat.me.0 l.seat.me.0 l.tries;
  few : l.tries ≤ frames_of l.fn.table;
  empty : l.census ≡ l.fn.census;
}
