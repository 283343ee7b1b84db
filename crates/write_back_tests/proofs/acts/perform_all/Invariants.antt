use Rattle.manager_bench.specs.Bench.{IsFree}
use Rattle.write_back_tests.proofs.acts.perform_all.Given as goal

abbrev pub invariant-loop-next : goal.invariant-loop-next
invariant-loop-next g l = record {
  first : IsFree {L = g.row.L.Denot} {G = g.row.G.Denot} g.L.BlockLane.contents l.fn.manager 0 l.first;
  second : IsFree {L = g.row.L.Denot} {G = g.row.G.Denot} g.L.BlockLane.contents l.fn.manager 1 l.second;
  third : IsFree {L = g.row.L.Denot} {G = g.row.G.Denot} g.L.BlockLane.contents l.fn.manager 2 l.third;
}
