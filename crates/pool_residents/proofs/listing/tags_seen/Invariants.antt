use Rattle.std.proofs.Common.{◌≤◌, All, vec_len}
use Rattle.std.specs.Prelude.{vec_capacity}
use Rattle.frame_table.specs.Seats.{frames_of, relations_of}
use Rattle.pool_residents.specs.Residents.{IsBlockIn, LooksOnly, NotesFrames}
use Rattle.pool_residents.proofs.listing.tags_seen.Given as goal

abbrev pub invariant-loop-frame : goal.invariant-loop-frame
invariant-loop-frame g l = record {
  looks : LooksOnly {L = g.row.L.Denot} {G = g.row.G.Denot} g.L.BlockLane.contents l.manager l.fn.pass l.pass;
  notes : NotesFrames l.fn.pass.view l.frame l.pass.view l.tags.items;
  blocks : All (IsBlockIn (relations_of l.manager.table)) l.tags.items;
  few : vec_len l.tags ≤ l.frame;
  room : frames_of l.manager.table ≤ vec_capacity l.tags;
}
