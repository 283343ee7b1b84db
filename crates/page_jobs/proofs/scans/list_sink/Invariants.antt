use Rattle.std.specs.Prelude.{◌-◌, vec_len}
use Rattle.page_jobs.specs.ChunkTexts.{IsChunkText, job_of}
use Rattle.page_jobs.specs.Parts.{blocks_in}
use Rattle.page_jobs.proofs.scans.list_sink.Given as goal

abbrev pub ghosts-list_over-N-Naming : goal.ghosts-list_over-N-Naming
ghosts-list_over-N-Naming g a = record {
  texts = IsChunkText {L = g.row.L.Denot} {G = g.row.G.Denot} g.L.BlockLane.contents a.manager.now a.blocks.rel.0 a.blocks.fork a.lines;
  job = job_of (blocks_in a.manager.now a.blocks.rel.0 a.blocks.fork) (vec_len a.passes - 1) a.base (g.O.Sink.bytes a.sink) (g.O.Sink.faults a.sink);
}

abbrev pub ghosts-list_over-N-Ledger : goal.ghosts-list_over-N-Ledger
ghosts-list_over-N-Ledger g a = record { name = a.delivered.name; parts = a.delivered.parts }

abbrev pub ghosts-list_over-A-Ledger : goal.ghosts-list_over-A-Ledger
ghosts-list_over-A-Ledger g a = record { name = a.above.name; parts = a.above.parts }
