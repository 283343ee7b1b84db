use Rattle.std.proofs.Common.{◌≡◌}
use Rattle.frame_table.specs.Seats.{SameSeat}
use Rattle.frame_table.proofs.table.FrameTable.take_turn.Given as goal

-- the latch
abbrev pub ghosts-try_take : goal.ghosts-try_take
ghosts-try_take g a = record { turn = a._turn }

abbrev pub invariant-loop : goal.invariant-loop
invariant-loop g l = record {
  seat : SameSeat l.fn.seat l.seat;
  same : l.seat.me.0 ≡ l.fn.seat.me.0;
}
