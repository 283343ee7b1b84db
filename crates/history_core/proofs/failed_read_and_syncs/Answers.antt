use Rattle.history_core.proofs.Faults.{faults}
use Rattle.history_core.proofs.failed_read_and_syncs.Goals as goal

pub returns : goal.returns
returns c = faults
