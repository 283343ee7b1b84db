use Rattle.std.proofs.Common.{◌≤◌, length}
use Rattle.frame_table.specs.Seats.{frames_of}
use Rattle.checkpointer.specs.Marked.{AreInside, AreMarked, HasVisited, NotesInOrder}
use Rattle.checkpointer.specs.Stages.{MarksFrames}
use Rattle.checkpointer.proofs.marking.mark_frames.Given as goal

abbrev pub invariant-loop-frame : goal.invariant-loop-frame
invariant-loop-frame g l = record {
  marks : MarksFrames {L = g.row.L.Denot} {G = g.row.G.Denot} g.L.BlockLane.contents l.manager l.fn.pass l.pass;
  visited : HasVisited l.frame l.pass.view;
  marked : AreMarked l.pass.marked l.pass.view;
  inside : AreInside (frames_of l.manager.table) l.pass.marked;
  room : length l.pass.marked ≤ l.frame;
  notes : NotesInOrder l.fn.pass.view l.frame l.pass.view l.pass.marked;
}
