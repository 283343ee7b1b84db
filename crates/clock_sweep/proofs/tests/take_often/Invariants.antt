use Rattle.clock_sweep.specs.FreeLists.{IsOfSweep}
use Rattle.clock_sweep.proofs.tests.take_often.Given as goal

abbrev pub invariant-loop-turn : goal.invariant-loop-turn
invariant-loop-turn g l = record { pass : IsOfSweep l.sweep l.pass }
