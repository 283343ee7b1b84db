use Rattle.relation_commands.proofs.ToldLogs.{logs_told, rewritten_told}
use Rattle.relation_commands.proofs.laws.logs_are_told.Goals as goal

pub returns-clause-written : goal.returns-clause-written
returns-clause-written c = logs_told

pub returns-clause-rewritten : goal.returns-clause-rewritten
returns-clause-rewritten c = rewritten_told
