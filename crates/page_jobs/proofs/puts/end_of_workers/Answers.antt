use Rattle.std.proofs.lemmas.Result.{IfErr-weaker}
use Rattle.page_jobs.specs.Dealt.{AnyEnds, EndsFirst}
use Rattle.page_jobs.proofs.Texts.{any_first}
use Rattle.page_jobs.proofs.puts.end_of_workers.Goals as goal

pub returns-clause-cause : goal.returns-clause-cause
returns-clause-cause g c =
    IfErr-weaker c.first_fault.result (λ e. EndsFirst e c.args.workers.now) (λ e. AnyEnds e c.args.workers.now) (λ e. any_first e c.args.workers.now) c.first_fault.ensures.cause
