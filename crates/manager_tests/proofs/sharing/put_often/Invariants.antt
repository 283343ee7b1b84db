use Rattle.std.proofs.Common.{◌≤◌}
use Rattle.manager_bench.specs.Bench.{IsFreeIn}
use Rattle.manager_tests.proofs.sharing.put_often.Given as goal

abbrev pub invariant-loop-time : goal.invariant-loop-time
invariant-loop-time g l = record { free : IsFreeIn l.fn.manager l.fn._number l.pass; few : l.entries ≤ l.time }
