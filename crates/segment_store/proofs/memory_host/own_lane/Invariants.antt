use Rattle.std.proofs.Common.{◌≡◌, take}
use Rattle.segment_store.specs.Contents.{no_marks}
use Rattle.segment_store.specs.Lanes.{own_pages, own_room}
use Rattle.segment_store.specs.MemoryLane.{marks_of, pages_of, plan_of, room_of, unsynced_of}
use Rattle.segment_store.proofs.memory_host.own_lane.Given as goal

abbrev pub invariant-loop-block : goal.invariant-loop-block
invariant-loop-block l = record {
  pages : pages_of l.lane ≡ own_pages l.fork (take l.block l.pages) l.lanes l.number;
  room : room_of l.lane ≡ own_room l.fork l.block l.lanes l.number;
  failed : marks_of l.lane ≡ no_marks;
  reads : l.lane.read_faults.count ≡ 0;
  writes : l.lane.write_faults.count ≡ 0;
  plan : plan_of l.lane ≡ l.fn.plan;
  synced : unsynced_of l.lane ≡ no_marks;
}
