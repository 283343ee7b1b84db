use Rattle.backend_pass.specs.Passes.{KeepsPass}
use Rattle.backend_pass.specs.Between.{IsIdlePass}
use Rattle.library_example.specs.Passes.{NotesNone}
use Rattle.library_example.proofs.backends.count_blocks.Given as goal

abbrev pub invariant-loop-number : goal.invariant-loop-number
invariant-loop-number g l = record {
  same : KeepsPass l.fn.pass l.pass;
  idle : IsIdlePass {L = g.row.L.Denot} {G = g.row.G.Denot} g.L.BlockLane.contents l.fn.manager l.pass;
  unentered : NotesNone l.fn.pass l.pass;
}
