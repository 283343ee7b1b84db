use Rattle.std.proofs.Common.{◌≡◌, length}
use Rattle.std.specs.Prelude.{All}
use Rattle.segment_store.specs.Contents.{no_marks}
use Rattle.segment_store.specs.MemoryLane.{calls_of, unsynced_of}
use Rattle.sample_relation.proofs.lanes.empty_lanes.Given as goal

abbrev pub invariant-loop : goal.invariant-loop
invariant-loop l = record {
  count : length l.made.items ≡ l.counter;
  synced : All (λ lane. unsynced_of lane.lane ≡ no_marks) l.made.items;
  calls : All (λ lane. calls_of lane.lane ≡ 0) l.made.items;
  faults : All (λ lane. lane.lane.write_faults.count ≡ 0) l.made.items;
}
