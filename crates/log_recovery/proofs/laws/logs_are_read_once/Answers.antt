use Rattle.log_recovery.proofs.ReadLogs as logs
use Rattle.log_recovery.proofs.Same as same
use Rattle.log_recovery.proofs.laws.logs_are_read_once.Goals as goal

pub returns-clause-once : goal.returns-clause-once
returns-clause-once c = same.read_once

pub returns-clause-one : goal.returns-clause-one
returns-clause-one c = logs.one_log

pub returns-clause-logs : goal.returns-clause-logs
returns-clause-logs c = logs.is_log
