use Rattle.std.proofs.Common.{◌≡◌, ◌≤◌, ◌+◌, [], vec_len}
use Rattle.std.specs.Prelude.{vec_capacity}
use Rattle.clock_sweep.specs.CensusList.{new_census}
use Rattle.clock_sweep.specs.FreeLists.{IsFreeList}
use Rattle.frame_table.specs.Seats.{frames_of}
use Rattle.io_counts.specs.Counts.{no_io}
use Rattle.buffer_frames.specs.Tokens.{no_tokens}
use Rattle.buffer_frames.specs.declared.hinting.HintSeen.TheVariants.{Unused}
use Rattle.backend_pass.specs.PassMemories.{AreForFrames}
use Rattle.backend_pass.proofs.Starting.{OthersAreNew, first_at}
use Rattle.backend_pass.proofs.seating.seat_passes.Given as goal

abbrev pub invariant-loop-number : goal.invariant-loop-number
invariant-loop-number g l = record {
  memories : vec_len l.memories + l.number ≡ l.fn.count;
  fresh : AreForFrames (frames_of l.fn.manager.table) l.memories.items;
  table : l.first.table ≡ l.fn.manager.table.table.shared.table_id;
  id : l.first.id ≡ 0;
  view : l.first.view ≡ first_at l.fn.base l.fn.manager.table.table.shared.key.config.frames 128 l.fn.manager.table.table.shared.key.config.lanes l.number;
  tokens : l.first.tokens ≡ no_tokens;
  census : l.first.census ≡ new_census (frames_of l.fn.manager.table);
  hint : l.first.hint ≡ Unused;
  io : l.first.io ≡ no_io;
  list : IsFreeList {L = g.row.L.Denot} {G = g.row.G.Denot} l.fn.manager.table l.fn.manager.sweep l.first.queue;
  parts : l.first.queue.known.parts + l.number ≡ 65;
  pushed : l.first.queue.known.pushed ≡ [];
  taken : l.first.queue.known.taken ≡ [];
  counted : vec_len l.passes + 1 ≡ l.number;
  each : OthersAreNew {L = g.row.L.Denot} {G = g.row.G.Denot} g.L.BlockLane.contents l.fn.manager l.fn.count l.passes.items;
  wide : l.fn.count ≤ vec_capacity l.passes;
}
