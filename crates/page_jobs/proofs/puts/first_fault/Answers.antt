use Rattle.std.proofs.Common.{rules}
use Rattle.std.proofs.lemmas.Result.{err_from_is_err_and}
use Rattle.atomic_table.proofs.Lists.{at_index}
use Rattle.page_jobs.proofs.Texts.{done_next, first_here, first_next}
use Rattle.page_jobs.proofs.puts.first_fault.Goals as goal

pub loop-worker-preserved : goal.loop-worker-preserved
loop-worker-preserved g c =
    let w = c.worker-item.result in
    let at = at_index c.args.workers.now c.loop-worker.worker-index w (search rules) c.worker-item.is in
    record {
      done = done_next c.args.workers.now c.loop-worker.worker-index w at c.in_ok-worker.was c.loop-worker.invariant.done;
      first = first_next c.args.workers.now c.loop-worker.worker-index w at c.in_ok-worker.was c.loop-worker.invariant.first;
    }

pub returns-in_err-worker-clause-cause : goal.returns-in_err-worker-clause-cause
returns-in_err-worker-clause-cause g c =
    let p = err_from_is_err_and c.from_residual.result c.from_residual.ensures.1 in
    let w = c.worker-item.result in
    let at = at_index c.args.workers.now c.loop-worker.worker-index w (search rules) c.worker-item.is in
    rw (p.1, p.2) (c.loop-worker.invariant.first c.in_err-worker.field-0.0 (first_here c.args.workers.now c.loop-worker.worker-index w c.in_err-worker.field-0.0 at c.in_err-worker.was))
