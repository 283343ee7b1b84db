use Rattle.std.proofs.Common.{ℕ, subst}
use Rattle.page_jobs.specs.JobBlocks.{DoesAt}
use Rattle.page_jobs.specs.Chunks.{blocks_of}
use Rattle.page_jobs.specs.Working.{DoesBlocks}
use Rattle.page_jobs.proofs.working.work_chunk.Goals as goal

pub end_chunk-requires-clause-worked : goal.end_chunk-requires-clause-worked
end_chunk-requires-clause-worked g c =
    let D = DoesAt (g.K.BlockTask.does c.args.manager.now) c.args.blocks.now in
    record {
      pass = c.args.worker.now.pass;
      task = c.args.worker.now.task;
      free_then = c.requires.free;
      opened = c.requires.opens;
      blocks = subst (λ (n : ℕ). DoesBlocks D (blocks_of n c.args.chunk) c.args.worker.now.pass c.work_blocks.new.worker.pass c.args.worker.now.task c.work_blocks.new.worker.task) c.requires.count c.in_ok-work_blocks.ensures.does;
    }
