use Rattle.history_core.proofs.Checkpoints.{checkpoints}
use Rattle.history_core.proofs.checkpoint_and_join.Goals as goal

pub returns : goal.returns
returns c = checkpoints
