use Rattle.std.proofs.Common.{◌≤◌}
use Rattle.bg_writer.proofs.Going.{Going}
use Rattle.bg_writer.proofs.rounds.round.Given as goal

abbrev pub invariant-loop-looked : goal.invariant-loop-looked
invariant-loop-looked g l = record {
  few : l.written ≤ 100;
  going : Going {L = g.row.L.Denot} {G = g.row.G.Denot} g.L.BlockLane.contents l.manager l.fn.pass l.pass l.hand l.looked l.written;
}
