use Rattle.clock_sweep.proofs.FreeFrames.{begins}
use Rattle.clock_sweep.proofs.sweep.Sweep.build.Goals as goal

pub ruled-requires-clause-rule : goal.ruled-requires-clause-rule
ruled-requires-clause-rule c = begins
