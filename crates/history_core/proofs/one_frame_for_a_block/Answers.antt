use Rattle.pin_core.proofs.Schedules.{unique}
use Rattle.history_core.proofs.one_frame_for_a_block.Goals as goal

pub returns : goal.returns
returns c = λ s r. unique s.pool.core r.invariant.pool.core
