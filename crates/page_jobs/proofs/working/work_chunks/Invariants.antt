use Rattle.std.proofs.Common.{◌≡◌, ◌-◌, ◌≤◌, ◌^◌}
use Rattle.grid.specs.Shape.{total}
use Rattle.chunk_claims.specs.Claims.{SitsAt}
use Rattle.page_jobs.specs.JobBlocks.{DoesAt, count_in}
use Rattle.page_jobs.specs.Chunks.{Ascend, chunk_size}
use Rattle.backend_pass.specs.Between.{HasNoTokens}
use Rattle.page_jobs.specs.Working.{CanCount, DoesChunks}
use Rattle.page_jobs.proofs.working.work_chunks.Given as goal

abbrev pub invariant-loop : goal.invariant-loop
invariant-loop g l = record {
  can : (goal.iterator-loop g).can_next l.iterator';
  finite : (goal.iterator-loop g).is_finite l.iterator';
  number : l.worker.number ≡ l.fn.worker.number;
  sits : SitsAt l.claims.table.shared.table_id l.worker.seat;
  part : (l.worker.seat.me.0.parts ≡ 1) × (l.worker.seat.me.0.past ≡ 0);
  known : (l.worker.seat.me.0.chunks ≡ l.claims.chunks) × (l.worker.seat.me.0.workers ≡ l.claims.workers);
  did : DoesChunks (DoesAt (g.K.BlockTask.does l.manager) l.blocks) g.K.BlockTask.closes (count_in l.manager l.blocks) l.worker.seat.me.0.drawn l.fn.worker.pass l.worker.pass l.fn.worker.task l.worker.task;
  ascend : Ascend l.worker.seat.me.0.drawn;
  few : total (chunk_size (count_in l.manager l.blocks)) l.worker.seat.me.0.drawn ≤ count_in l.manager l.blocks;
  free : HasNoTokens {L = g.row.L.Denot} {G = g.row.G.Denot} g.L.BlockLane.contents l.manager l.worker.pass;
  opens : g.K.BlockTask.opens l.manager l.blocks l.worker.task;
  fits : CanCount g.K.BlockTask.fits l.worker.task (2 ^ 32 - total (chunk_size (count_in l.manager l.blocks)) l.worker.seat.me.0.drawn);
}
