use Rattle.std.proofs.Common.{◌≡◌}
use Rattle.segment_store.specs.Lanes.{own_room}
use Rattle.segment_store.specs.MemoryLane.{marks_of, pages_of, plan_of, room_of}
use Rattle.segment_store.proofs.memory_host.reserve_past.Given as goal

abbrev pub invariant-loop-block : goal.invariant-loop-block
invariant-loop-block l = record {
  room : room_of l.lane ≡ own_room l.fork l.block l.lanes l.number;
  pages : pages_of l.lane ≡ pages_of l.initial.lane;
  failed : marks_of l.lane ≡ marks_of l.initial.lane;
  reads : l.lane.read_faults ≡ l.initial.lane.read_faults;
  writes : l.lane.write_faults ≡ l.initial.lane.write_faults;
  plan : plan_of l.lane ≡ plan_of l.initial.lane;
  history : l.lane.history ≡ l.initial.lane.history;
}
