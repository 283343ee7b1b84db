use Rattle.std.proofs.Common.{rules}
use Rattle.atomic_table.proofs.Lists.{at_index}
use Rattle.page_jobs.proofs.Texts.{counted_at}
use Rattle.page_jobs.proofs.puts.sum_totals.Goals as goal

pub add-requires-clause-other_within : goal.add-requires-clause-other_within
add-requires-clause-other_within g c =
    let w = c.worker-item.result in
    counted_at c.args.workers.now c.loop-worker.worker-index w c.requires.counts (at_index c.args.workers.now c.loop-worker.worker-index w (search rules) c.worker-item.is)
