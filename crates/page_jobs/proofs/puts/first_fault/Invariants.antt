use Rattle.std.proofs.Common.{drop}
use Rattle.page_jobs.specs.declared.ending.JobError.{JobError}
use Rattle.page_jobs.specs.Dealt.{AllDone, EndsFirst}
use Rattle.page_jobs.proofs.puts.first_fault.Given as goal

abbrev pub invariant-loop-worker : goal.invariant-loop-worker
invariant-loop-worker g l = record {
  done : AllDone (drop l.worker-index l.workers) → AllDone l.workers;
  first : (e : JobError) → EndsFirst e (drop l.worker-index l.workers) → EndsFirst e l.workers;
}
