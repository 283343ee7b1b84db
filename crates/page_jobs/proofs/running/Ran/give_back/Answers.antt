use Rattle.std.proofs.Common.{sym, ◌∙◌, arith}
use Rattle.page_jobs.proofs.running.Ran.give_back.Goals as goal

pub returns-clause-once : goal.returns-clause-once
returns-clause-once g c =
    let p = c.gather.ensures.parts in
    let r = c.requires.seats in
    let parts = p.0 in
    let workers = p.1 in
    let many = r.1 in
    let some_workers = r.2 in
    (c.claimed-drawn.result, λ h. sym (c.gather.ensures.drawn h) ∙ c.claimed-drawn.ensures.each (omega (arith, parts, some_workers)) (omega (arith, parts, workers, many)) h)
