use Rattle.std.proofs.Common.{◌<◌, sym, subst}
use Rattle.clock_sweep.specs.FreeFrames.{QueueState}
use Rattle.clock_sweep.proofs.FreeFrames.{learns, push_keeps}
use Rattle.clock_sweep.proofs.sweep.Sweep.free.Goals as goal

pub push_as-answer-requires-clause-rule : goal.push_as-answer-requires-clause-rule
push_as-answer-requires-clause-rule g c = (push_keeps _ _ _ _ c.pass.invariant.1 (subst (λ (q : QueueState). c.args.frame < q.known.frames) (sym c.pass.view_is) c.requires.inside), learns _ _)
