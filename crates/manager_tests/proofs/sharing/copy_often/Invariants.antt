use Rattle.std.proofs.Common.{◌≤◌}
use Rattle.manager_bench.specs.Bench.{IsFreeIn}
use Rattle.manager_tests.proofs.sharing.copy_often.Given as goal

abbrev pub invariant-loop : goal.invariant-loop
invariant-loop g l = record { free : IsFreeIn l.fn.manager l.fn._number l.pass; few : l.torn ≤ l.counter }
