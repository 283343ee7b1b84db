use Rattle.log_recovery.proofs.Twice as twice
use Rattle.log_recovery.proofs.laws.recovered_twice.Goals as goal

pub returns-clause-settled : goal.returns-clause-settled
returns-clause-settled c = twice.settled

pub returns-clause-same : goal.returns-clause-same
returns-clause-same c = twice.redone_once

pub returns-clause-completed : goal.returns-clause-completed
returns-clause-completed c = twice.completed
