use Rattle.log_recovery.proofs.Crash as crash
use Rattle.log_recovery.proofs.Left as left
use Rattle.log_recovery.proofs.LeftLogs as logs
use Rattle.log_recovery.proofs.laws.crashes_leave_logs.Goals as goal

pub returns-clause-entries : goal.returns-clause-entries
returns-clause-entries c = λ relations catalogue from before es rest bytes lost ds chained written short is reads. left.left_read relations catalogue rest lost short from before es bytes ds chained written is reads

pub returns-clause-logs : goal.returns-clause-logs
returns-clause-logs c = logs.logs_left

pub returns-clause-survive : goal.returns-clause-survive
returns-clause-survive c = crash.survivors_read
