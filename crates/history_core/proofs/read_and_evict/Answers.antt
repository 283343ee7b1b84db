use Rattle.history_core.proofs.Evictions.{evictions}
use Rattle.history_core.proofs.read_and_evict.Goals as goal

pub returns : goal.returns
returns c = evictions
