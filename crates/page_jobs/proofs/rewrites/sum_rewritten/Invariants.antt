use Rattle.std.proofs.Common.{◌≡◌, drop}
use Rattle.page_layout.specs.Outcomes.{IsRewriteWithin, sum_of_rewrite_totals}
use Rattle.page_jobs.specs.Rewriters.{rewritten_totals}
use Rattle.page_jobs.proofs.rewrites.sum_rewritten.Given as goal

abbrev pub invariant-loop-worker : goal.invariant-loop-worker
invariant-loop-worker l = record {
  sum : sum_of_rewrite_totals l.totals (rewritten_totals (drop l.worker-index l.workers)) ≡ rewritten_totals l.workers;
  within : IsRewriteWithin l.totals l.totals.blocks;
}
