use Rattle.history_core.proofs.Put.{puts}
use Rattle.history_core.proofs.put_and_flush.Goals as goal

pub returns : goal.returns
returns c = puts
