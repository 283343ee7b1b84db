use Rattle.backend_pass.proofs.Keeping.{callers_none}
use Rattle.write_back_tests.proofs.rewrite_tests.MeetWorkerBeside.work.Goals as goal

pub returns-clause-callers : goal.returns-clause-callers
returns-clause-callers g c = callers_none _
