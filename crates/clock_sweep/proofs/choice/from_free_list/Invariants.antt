use Rattle.frame_table.specs.Seats.{SameSeat, frames_of}
use Rattle.clock_sweep.specs.Choosing.{LeavesFree}
use Rattle.clock_sweep.specs.FreeFrames.{SameQueue}
use Rattle.clock_sweep.proofs.choice.from_free_list.Given as goal

abbrev pub invariant-loop : goal.invariant-loop
invariant-loop g l = record {
  seat : SameSeat l.fn.seat l.seat;
  queue : SameQueue l.fn.queue l.queue;
  leaves : LeavesFree (frames_of l.fn.table) l.fn.seat.me.0 l.fn.queue l.seat.me.0 l.queue;
}
