use Rattle.std.proofs.Common.{◌≡◌}
use Rattle.page_jobs.specs.Beside.{WorksBeside}
use Rattle.relation_commands.specs.Rounds.{MadeRounds}
use Rattle.relation_commands.proofs.beside.RoundsBeside.work.Given as goal

abbrev pub invariant-loop : goal.invariant-loop
invariant-loop g l = record {
  works : WorksBeside {L = g.row.L.Denot} {G = g.row.G.Denot} g.L.BlockLane.contents l.manager l.fn.pass l.pass;
  met : l.pass.view.met ≡ l.fn.pass.view.met;
  count : l.self.count ≡ l.fn.self.count;
  made : MadeRounds {L = g.row.L.Denot} {G = g.row.G.Denot} g.L.BlockLane.contents l.manager l.counter l.fn.pass l.pass;
}
