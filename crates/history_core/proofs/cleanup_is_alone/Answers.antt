use Rattle.page_core.proofs.Histories.{cleanup_alone}
use Rattle.history_core.proofs.cleanup_is_alone.Goals as goal

pub returns : goal.returns
returns c = λ s f r below. cleanup_alone s.pool r.invariant.pool f below
