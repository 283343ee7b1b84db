use Rattle.std.proofs.Common.{◌≡◌, reverse}
use Rattle.frame_table.specs.Seats.{SameSeat}
use Rattle.clock_sweep.specs.FreeLists.{IsOfSweep}
use Rattle.backend_pass.specs.Managers.{HaveQueues, AreSpent}
use Rattle.backend_pass.specs.Closing.{joined_queues, joined_views}
use Rattle.backend_pass.proofs.closing.join_all.Given as goal

abbrev pub invariant-loop-pass : goal.invariant-loop-pass
invariant-loop-pass g l = record {
  seat : SameSeat {L = g.row.L.Denot} {G = g.row.G.Denot} l.fn.seat l.seat;
  done : joined_views l.seat.me.0 (reverse l.others.items) ≡ joined_views l.fn.seat.me.0 l.fn.others.items;
  spent : AreSpent l.fn.manager.table.table.shared.table_id (reverse l.others.items);
  queue : IsOfSweep l.fn.manager.sweep l.queue;
  known : joined_queues l.queue (reverse l.others.items) ≡ joined_queues l.fn.queue l.fn.others.items;
  queues : HaveQueues {L = g.row.L.Denot} {G = g.row.G.Denot} l.fn.manager (reverse l.others.items);
}

abbrev pub decreases-loop-pass : goal.decreases-loop-pass
decreases-loop-pass g l = goal.left-loop-pass g l
