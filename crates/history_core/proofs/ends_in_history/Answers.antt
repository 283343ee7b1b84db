use Rattle.history_core.proofs.History.{ends_in_history}
use Rattle.history_core.proofs.ends_in_history.Goals as goal

pub returns : goal.returns
returns c = λ s r. ends_in_history s r.invariant r.spent
