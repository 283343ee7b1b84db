use Rattle.log_recovery.proofs.Decided as decided
use Rattle.log_recovery.proofs.laws.any_bytes_are_read.Goals as goal

pub returns : goal.returns
returns c = decided.read_somehow
