use Rattle.manager_bench.specs.Bench.{IsFree}
use Rattle.list_tests.proofs.resident_tests.read_all.Given as goal

abbrev pub invariant-loop-number : goal.invariant-loop-number
invariant-loop-number g l = IsFree {L = g.row.L.Denot} {G = g.row.G.Denot} g.L.BlockLane.contents l.fn.manager l.fn._number l.pass
