use Rattle.relation_commands.proofs.RecoveredPages.{completes, recovers_again}
use Rattle.relation_commands.proofs.laws.recoveries_are_repeated.Goals as goal

pub returns-clause-again : goal.returns-clause-again
returns-clause-again c = recovers_again

pub returns-clause-completed : goal.returns-clause-completed
returns-clause-completed c = completes
