use Rattle.backend_pass.proofs.SummingUp.{SumsUp}
use Rattle.backend_pass.proofs.manager.Manager.close_counted.Given as goal

abbrev pub invariant-loop-pass : goal.invariant-loop-pass
invariant-loop-pass g l = SumsUp l.pass-index l.fn.passes.items l.pass-items l.io
