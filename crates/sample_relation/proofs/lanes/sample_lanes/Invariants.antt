use Rattle.std.proofs.Common.{◌≡◌, Some, length, map}
use Rattle.std.specs.Prelude.{All}
use Rattle.block_tag.specs.declared.tag.Fork.TheVariants.{Main}
use Rattle.segment_store.specs.Contents.{no_marks}
use Rattle.segment_store.specs.Lanes.{HoldPages}
use Rattle.segment_store.specs.MemoryLane.{calls_of, pages_of, unsynced_of}
use Rattle.sample_relation.specs.Relations.{sample_relation}
use Rattle.sample_relation.proofs.lanes.sample_lanes.Given as goal

abbrev pub invariant-loop-block : goal.invariant-loop-block
invariant-loop-block l = record {
  count : length l.made.items ≡ l.lanes;
  held : HoldPages Main (sample_relation l.seed l.block) (map (λ lane. Some (pages_of lane.lane)) l.made.items);
  synced : All (λ lane. unsynced_of lane.lane ≡ no_marks) l.made.items;
  calls : All (λ lane. calls_of lane.lane ≡ 0) l.made.items;
  faults : All (λ lane. lane.lane.write_faults.count ≡ 0) l.made.items;
}
