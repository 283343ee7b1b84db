use Rattle.std.proofs.Common.{◌≡◌, ◌≤◌, length}
use Rattle.std.specs.Prelude.{vec_capacity, vec_len}
use Rattle.chunk_claims.specs.Claims.{SitsAt}
use Rattle.page_jobs.specs.Dealt.{IsDealing}
use Rattle.page_jobs.proofs.Deals.{Dealing}
use Rattle.page_jobs.proofs.dealing.deal.Given as goal

abbrev pub invariant-loop-pass : goal.invariant-loop-pass
invariant-loop-pass g l = record {
  dealing : Dealing (g.K.JobTask.begins l.fn.task) l.claims l.fn.passes.items l.passes.items l.workers.items;
  room : vec_len l.fn.passes ≤ vec_capacity l.workers;
  capacity : vec_capacity l.passes ≡ vec_capacity l.fn.passes;
  sits : SitsAt l.claims.table.shared.table_id l.seat;
  left : IsDealing l.claims.chunks l.claims.workers (length l.passes.items) l.seat.me.0;
  deals : g.K.JobTask.deals (length l.passes.items) l.task;
  same : (k : g.row.K.Denot) → g.K.JobTask.begins l.task k → g.K.JobTask.begins l.fn.task k;
}

abbrev pub decreases-loop-pass : goal.decreases-loop-pass
decreases-loop-pass g l = length l.passes.items
