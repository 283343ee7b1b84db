use Rattle.log_recovery.proofs.Crash as crash
use Rattle.log_recovery.proofs.laws.crashes_are_recovered.Goals as goal

pub returns : goal.returns
returns c = crash.crashes_recover
