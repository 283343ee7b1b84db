use Rattle.log_recovery.proofs.Back as back
use Rattle.log_recovery.proofs.ReadLogs as logs
use Rattle.log_recovery.proofs.laws.written_logs_are_read.Goals as goal

pub returns-clause-entries : goal.returns-clause-entries
returns-clause-entries c = back.read_back

pub returns-clause-logs : goal.returns-clause-logs
returns-clause-logs c = logs.log_read
