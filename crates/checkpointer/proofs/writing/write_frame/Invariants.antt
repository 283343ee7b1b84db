use Rattle.std.proofs.Common.{◌≡◌}
use Rattle.checkpointer.specs.Marked.{KeepsEachNote}
use Rattle.checkpointer.specs.Stages.{WritesMarked}
use Rattle.checkpointer.specs.Writes.{SyncsWhileNeeded}
use Rattle.checkpointer.proofs.writing.write_frame.Given as goal

abbrev pub invariant-loop : goal.invariant-loop
invariant-loop g l = record {
  writes : WritesMarked {L = g.row.L.Denot} {G = g.row.G.Denot} g.L.BlockLane.contents l.manager l.written l.fn.pass l.pass;
  notes : KeepsEachNote l.fn.pass.view l.pass.view;
  marked : l.pass.marked ≡ l.fn.pass.marked;
  needed : SyncsWhileNeeded {L = g.row.L.Denot} {G = g.row.G.Denot} g.L.BlockLane.contents l.manager.table l.frame l.fn.pass.view l.pass.view;
}
