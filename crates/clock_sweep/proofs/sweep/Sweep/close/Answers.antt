use Rattle.std.proofs.Common.{subst}
use Rattle.clock_sweep.specs.FreeFrames.{IsAmong, QueueState}
use Rattle.clock_sweep.proofs.FreeFrames.{settles}
use Rattle.clock_sweep.proofs.sweep.Sweep.close.Goals as goal

pub returns : goal.returns
returns c = settles c.args.pass.known _ c.requires.whole (subst (λ (q : QueueState). IsAmong q.known c.learn_as.ensures.rule.0) c.pass.view_is c.learn_as.ensures.rule.1)
