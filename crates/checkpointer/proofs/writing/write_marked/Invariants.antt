use Rattle.std.proofs.Common.{◌≡◌, ◌<◌, ℕ, false, slice_index_or, take}
use Rattle.pin_core.specs.State.{link}
use Rattle.backend_pass.specs.declared.marked.MarkedFrame.{MarkedFrame}
use Rattle.checkpointer.specs.Marked.{KeepsEachNote}
use Rattle.checkpointer.specs.Stages.{WritesMarked}
use Rattle.checkpointer.specs.Writes.{WritesInOrder}
use Rattle.checkpointer.proofs.writing.write_marked.Given as goal

abbrev pub invariant-loop-place : goal.invariant-loop-place
invariant-loop-place g l = record {
  writes : WritesMarked {L = g.row.L.Denot} {G = g.row.G.Denot} g.L.BlockLane.contents l.manager l.written l.fn.pass l.pass;
  notes : KeepsEachNote l.fn.pass.view l.pass.view;
  marked : l.pass.marked ≡ l.fn.pass.marked;
  order : WritesInOrder {L = g.row.L.Denot} {G = g.row.G.Denot} g.L.BlockLane.contents l.manager.table l.fn.pass.view (take l.place l.fn.pass.marked) l.pass.view;
  done : (k : ℕ) (d : MarkedFrame) → k < l.place → (link l.pass.view (slice_index_or l.fn.pass.marked k d).frame).left_to_write ≡ false;
}
