use Rattle.history_core.proofs.Evictions.{waited}
use Rattle.history_core.proofs.cleanup_wait.Goals as goal

pub returns : goal.returns
returns c = waited
