use Rattle.std.proofs.Common.{◌≡◌, ℕ, ◌+◌, List, ◌++◌, ◌≤◌, length, map}
use Rattle.std.specs.Prelude.{All, vec_capacity}
use mathlib.Core.List.{reverse}
use Rattle.grid.specs.Shape.{total}
use Rattle.chunk_claims.specs.Claims.{SitsAt}
use Rattle.page_jobs.specs.declared.working.Worker.{Worker}
use Rattle.page_jobs.specs.Dealt.{HasWorkedSeat, HaveJoined, total_drawn}
use Rattle.page_jobs.proofs.dealing.gather.Given as goal

abbrev pub invariant-loop-worker : goal.invariant-loop-worker
invariant-loop-worker g l = record {
  passes : map (λ (w : Worker g.row.K.Denot). w.pass) l.workers.items ++ reverse l.passes.items ≡ map (λ (w : Worker g.row.K.Denot). w.pass) l.fn.workers.items;
  room : length l.passes.items + length l.workers.items ≤ vec_capacity l.passes;
  capacity : vec_capacity l.passes ≡ vec_capacity l.fn.passes;
  sits : SitsAt l.claims.table.shared.table_id l.seat;
  workers : l.seat.me.0.workers ≡ l.claims.workers;
  parts : l.seat.me.0.parts + length l.workers.items ≡ length l.fn.workers.items;
  drawn : (h : ℕ → ℕ) → total h l.seat.me.0.drawn + total_drawn h l.workers.items ≡ total_drawn h l.fn.workers.items;
  rest : All (HasWorkedSeat l.claims) l.workers.items;
  joined : (gone : List (Worker g.row.K.Denot)) × (l.workers.items ++ gone ≡ l.fn.workers.items) × HaveJoined g.K.JobTask.joins gone l.fn.task l.task;
}

abbrev pub decreases-loop-worker : goal.decreases-loop-worker
decreases-loop-worker g l = length l.workers.items
