use Rattle.std.proofs.Common.{◌≤◌}
use Rattle.manager_bench.specs.Bench.{IsFree}
use Rattle.manager_tests.proofs.copying.copy_all.Given as goal

abbrev pub invariant-loop-number : goal.invariant-loop-number
invariant-loop-number g l = record { free : IsFree {L = g.row.L.Denot} {G = g.row.G.Denot} g.L.BlockLane.contents l.fn.manager l.fn._number l.pass; few : l.wrong ≤ l.number }
