use Rattle.clock_sweep.proofs.FreeFrames.{learns, pop_keeps}
use Rattle.clock_sweep.proofs.sweep.Sweep.take.Goals as goal

pub pop_as-requires-clause-rule : goal.pop_as-requires-clause-rule
pop_as-requires-clause-rule g c = (pop_keeps _ _ c.pass.invariant.1, learns _ _)
