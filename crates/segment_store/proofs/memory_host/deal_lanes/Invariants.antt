use Rattle.std.proofs.Common.{◌≡◌, Some, map}
use Rattle.std.specs.Prelude.{All, sum_by}
use Rattle.std.specs.List.{range_with_len}
use Rattle.segment_store.specs.Contents.{no_marks}
use Rattle.segment_store.specs.Lanes.{own_pages, own_room}
use Rattle.segment_store.specs.MemoryLane.{fresh_lane_plan, marks_of, pages_of, plan_of, room_of, unsynced_of}
use Rattle.segment_store.proofs.memory_host.deal_lanes.Given as goal

abbrev pub invariant-loop-number : goal.invariant-loop-number
invariant-loop-number l = record {
  contents : map (λ lane. Some (pages_of lane)) l.lanes.items ≡ map (λ number. Some (own_pages l.fork l.pages l.count number)) (range_with_len 0 l.number);
  rooms : map (λ lane. room_of lane) l.lanes.items ≡ map (own_room l.fork l.room l.count) (range_with_len 0 l.number);
  failed : All (λ lane. marks_of lane ≡ no_marks) l.lanes.items;
  reads : sum_by (λ lane. lane.read_faults.count) l.lanes.items ≡ 0;
  writes : sum_by (λ lane. lane.write_faults.count) l.lanes.items ≡ 0;
  plan : All (λ lane. plan_of lane ≡ fresh_lane_plan l.plan) l.lanes.items;
  synced : All (λ lane. unsynced_of lane ≡ no_marks) l.lanes.items;
}
