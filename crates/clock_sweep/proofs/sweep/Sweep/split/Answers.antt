use Rattle.std.proofs.Common.{◌<◌, sym, subst}
use Rattle.clock_sweep.specs.FreeFrames.{QueueState}
use Rattle.clock_sweep.proofs.FreeFrames.{forks}
use Rattle.clock_sweep.proofs.sweep.Sweep.split.Goals as goal

pub another-requires-clause-rule : goal.another-requires-clause-rule
another-requires-clause-rule c = forks _ _ (subst (λ (q : QueueState). 1 < q.known.parts) (sym c.pass.view_is) c.requires.parts)
