use Rattle.manager_bench.specs.Bench.{IsFreeIn}
use Rattle.write_back_tests.proofs.sharing.use_often.Given as goal

abbrev pub invariant-loop-time : goal.invariant-loop-time
invariant-loop-time g l = IsFreeIn l.fn.manager l.fn._number l.pass
