use Rattle.clock_sweep.proofs.FreeFrames.{merges}
use Rattle.clock_sweep.proofs.sweep.Sweep.join.Goals as goal

pub absorb-requires-clause-rule : goal.absorb-requires-clause-rule
absorb-requires-clause-rule c = merges _ _ _ _ c.pass.invariant.1
