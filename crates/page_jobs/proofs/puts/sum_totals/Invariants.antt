use Rattle.std.proofs.Common.{◌≡◌, drop}
use Rattle.page_layout.specs.Scan.{IsWithin, sum_of_totals}
use Rattle.page_jobs.specs.Dealt.{job_totals}
use Rattle.page_jobs.proofs.puts.sum_totals.Given as goal

abbrev pub invariant-loop-worker : goal.invariant-loop-worker
invariant-loop-worker g l = record {
  sum : sum_of_totals l.totals (job_totals (drop l.worker-index l.workers)) ≡ job_totals l.workers;
  within : IsWithin l.totals l.totals.blocks;
}
