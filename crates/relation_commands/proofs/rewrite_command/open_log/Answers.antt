use Rattle.std.proofs.Common.{arith}
use Rattle.relation_commands.proofs.GivenFiles.{head_begun}
use Rattle.relation_commands.proofs.rewrite_command.open_log.Goals as goal

pub returns-in-Err-begin_log-clause-head : goal.returns-in-Err-begin_log-clause-head
returns-in-Err-begin_log-clause-head g c = (
  (let none = c.in-Ok.ensures.opened.faults_are in let rose = c.in-Err-begin_log.ensures.faults.failed in omega (arith, none, rose)),
  head_begun c.args.base _ _ _ c.in-Ok.ensures.opened.empty c.in-Err-begin_log.ensures.unknown c.in-Err-begin_log.ensures.bytes,
)
