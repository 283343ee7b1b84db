use Rattle.std.proofs.Common.{◌≡◌, ℕ, ◌+◌, ◌*◌, ◌-◌, ◌≤◌}
use Rattle.page_jobs.specs.JobBlocks.{DoesAt}
use Rattle.page_jobs.specs.Blocks.{blocks_from}
use Rattle.backend_pass.specs.Between.{HasNoTokens}
use Rattle.page_jobs.specs.Working.{CanCount, DoesBlocks}
use Rattle.page_jobs.proofs.working.work_blocks.Given as goal

abbrev pub invariant-loop-place : goal.invariant-loop-place
invariant-loop-place g l = record {
  number : l.worker.number ≡ l.fn.worker.number;
  seat : l.worker.seat ≡ l.fn.worker.seat;
  ordered : 8 * l.chunk ≤ l.place;
  did : DoesBlocks (DoesAt (g.K.BlockTask.does l.manager) l.blocks) (blocks_from (8 * l.chunk) (l.place - 8 * l.chunk)) l.fn.worker.pass l.worker.pass l.fn.worker.task l.worker.task;
  free : HasNoTokens {L = g.row.L.Denot} {G = g.row.G.Denot} g.L.BlockLane.contents l.manager l.worker.pass;
  fits : (n : ℕ) → CanCount g.K.BlockTask.fits l.fn.worker.task (n + (l.place - 8 * l.chunk)) → CanCount g.K.BlockTask.fits l.worker.task n;
}
