use Rattle.std.proofs.Common.{◌≡◌, ◌≤◌, None}
use Rattle.buffer_frames.specs.Rests.{LinksRest}
use Rattle.buffer_frames.specs.Keeps.{Keeps}
use Rattle.buffer_frames.specs.Outside.{kept_by_block_reads, ring_shape}
use Rattle.buffer_frames.specs.Backends.{KeepsOwn}
use Rattle.buffer_frames.specs.Bringing.{PushesNone}
use Rattle.io_counts.specs.Counts.{context_of}
use Rattle.buffer_frames.specs.VictimChoices.{choice_state}
use Rattle.buffer_frames.specs.Working.{Calls, IsFlushCall}
use Rattle.buffer_frames.proofs.Trying.{TriesAndCounts}
use Rattle.buffer_frames.proofs.victims.bring_in.Given as goal

abbrev pub invariant-loop : goal.invariant-loop
invariant-loop g l = record {
  own : KeepsOwn l.fn.table l.fn.sweep l.fn.backend l.backend l.seat.me.0;
  keeps : Keeps kept_by_block_reads None l.fn.table l.fn.seat l.seat;
  unpushed : PushesNone l.fn.backend.queue l.backend.queue;
  rests : LinksRest l.fn.held l.seat.me.0;
  ring : ring_shape l.ring ≡ ring_shape l.fn.ring;
  met : l.seat.me.0.met ≡ l.fn.seat.me.0.met;
  calls : Calls IsFlushCall l.fn.seat.me.0 l.seat.me.0;
  turns : l.fn.seat.me.0.turns ≤ l.seat.me.0.turns;
  hints : l.seat.me.0.hints ≡ l.fn.seat.me.0.hints;
  tries : TriesAndCounts {L = g.row.L.Denot} {G = g.row.G.Denot} g.L.BlockLane.contents l.fn.table (context_of l.fn.ring) l.fn.seat.me.0 (choice_state l.fn.backend.queue l.fn.ring l.fn.backend.census) l.seat.me.0 (choice_state l.backend.queue l.ring l.backend.census) l.fn.backend.io.counted l.backend.io.counted;
}
