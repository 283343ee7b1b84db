use Rattle.page_jobs.proofs.RewriteClosed.{has_rewrites}
use Rattle.page_jobs.proofs.RewriteLanes.{finishes, lanes_hold_either}
use Rattle.page_jobs.proofs.laws.rewrite_ends.Goals as goal

pub returns-clause-any : goal.returns-clause-any
returns-clause-any c = λ r n s calls ps laws history w. let has = has_rewrites history w in (has, lanes_hold_either s r n laws has)

pub returns-clause-all : goal.returns-clause-all
returns-clause-all c = finishes
