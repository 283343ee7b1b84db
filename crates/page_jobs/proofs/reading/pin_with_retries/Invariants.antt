use Rattle.std.proofs.Common.{◌≡◌}
use Rattle.buffer_frames.specs.Tokens.{no_tokens}
use Rattle.io_counts.specs.Found.{FoundMore}
use Rattle.backend_pass.specs.Passes.{KeepsCalls}
use Rattle.page_jobs.specs.Reads.{Stays}
use Rattle.page_jobs.proofs.reading.pin_with_retries.Given as goal

abbrev pub invariant-loop : goal.invariant-loop
invariant-loop g l = record {
  stays : Stays {L = g.row.L.Denot} {G = g.row.G.Denot} g.L.BlockLane.contents l.manager l.fn.pass l.pass;
  spent : l.pass.tokens ≡ no_tokens;
  calls : KeepsCalls l.fn.pass l.pass;
  met : l.pass.view.met ≡ l.fn.pass.view.met;
  found : FoundMore 0 l.fn.pass.io l.pass.io;
}
