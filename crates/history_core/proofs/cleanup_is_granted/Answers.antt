use Rattle.history_core.proofs.Promises.{grants_alone}
use Rattle.history_core.proofs.cleanup_is_granted.Goals as goal

pub returns : goal.returns
returns c = λ s r. grants_alone s r.invariant
