use Rattle.manager_bench.specs.Bench.{IsFreeIn}
use Rattle.write_back_tests.proofs.sharing.sync_often.Given as goal

abbrev pub invariant-loop : goal.invariant-loop
invariant-loop g l = IsFreeIn l.fn.manager l.fn._number l.pass
