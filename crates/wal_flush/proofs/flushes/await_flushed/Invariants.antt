use Rattle.std.proofs.Common.{◌≡◌}
use Rattle.frame_table.specs.Seats.{SameSeat}
use Rattle.wal_flush.specs.Flushes.{LoadsBelow}
use Rattle.wal_flush.proofs.flushes.await_flushed.Given as goal

abbrev pub invariant-loop : goal.invariant-loop
invariant-loop g l = record {
  seat : SameSeat l.fn.seat l.seat;
  live : l.seat.me.0.emptied ≡ l.fn.seat.me.0.emptied;
  looked : LoadsBelow l.fn.lsn l.fn.seat.me.0 l.seat.me.0;
}
