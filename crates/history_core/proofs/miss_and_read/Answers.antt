use Rattle.history_core.proofs.Miss.{misses}
use Rattle.history_core.proofs.miss_and_read.Goals as goal

pub returns : goal.returns
returns c = misses
