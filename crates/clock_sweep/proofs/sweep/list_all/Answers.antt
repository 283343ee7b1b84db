use Rattle.std.proofs.Common.{ap}
use Rattle.clock_sweep.specs.declared.free_list.QueueView.{QueueView}
use Rattle.clock_sweep.proofs.FreeFrames.{list_keeps_rule}
use Rattle.clock_sweep.proofs.sweep.list_all.Goals as goal

pub try_push_as-requires-clause-rule : goal.try_push_as-requires-clause-rule
try_push_as-requires-clause-rule c = let k = c.loop-frame.invariant.known in list_keeps_rule _ _ _ _ (ap (λ (v : QueueView). v.parts) k) (ap (λ (v : QueueView). v.frames) k)
