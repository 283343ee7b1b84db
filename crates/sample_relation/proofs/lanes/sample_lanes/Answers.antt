use Rattle.std.proofs.Common.{◌≡◌, ◌+◌, List, length, drop, map, Some, ap, sym, ◌∙◌, subst, arith}
use Rattle.std.specs.Prelude.{All}
use Rattle.block_tag.specs.declared.tag.Fork.TheVariants.{Main}
use Rattle.segment_store.specs.Contents.{no_marks}
use Rattle.segment_store.specs.Lanes.{HoldPages}
use Rattle.segment_store.specs.MemoryLane.{calls_of, pages_of, unsynced_of}
use Rattle.segment_store.proofs.PutBlocks.{take_prefix}
use Rattle.sample_relation.specs.Relations.{sample_relation}
use Rattle.sample_relation.specs.declared.lane.SampleLane.{SampleLane}
use Rattle.sample_relation.proofs.lanes.sample_lanes.Goals as goal

pub loop-block-preserved : goal.loop-block-preserved
loop-block-preserved c =
    let size : length c.add_block.new.lanes ≡ c.loop-block.made.len = omega arith in
    let written = c.add_block.new.lanes in
    let whole = sym (take_prefix written (drop (length written) c.loop-block.made.items) c.loop-block.made.len size) in
    let count : length c.add_block.new.lanes ≡ c.args.lanes = omega arith in
    record {
      count = ap (λ (lanes : List SampleLane). length lanes) (sym whole) ∙ count;
      held = subst (λ (lanes : List SampleLane). HoldPages Main (sample_relation c.args.seed (c.loop-block.block + 1)) (map (λ lane. Some (pages_of lane.lane)) lanes)) whole c.in_ok-add_block.ensures.held;
      synced = subst (λ (lanes : List SampleLane). All (λ lane. unsynced_of lane.lane ≡ no_marks) lanes) whole c.add_block.ensures.synced;
      calls = subst (λ (lanes : List SampleLane). All (λ lane. calls_of lane.lane ≡ 0) lanes) whole c.add_block.ensures.calls;
      faults = subst (λ (lanes : List SampleLane). All (λ lane. lane.lane.write_faults.count ≡ 0) lanes) whole c.add_block.ensures.faults;
    }
