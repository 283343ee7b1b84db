use Rattle.pin_core.proofs.Sample.{sample}
use Rattle.pin_core.proofs.miss_and_hit.Goals as goal

pub returns : goal.returns
returns c = sample
