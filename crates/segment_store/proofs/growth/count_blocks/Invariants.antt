use Rattle.std.proofs.Common.{◌≡◌, ◌+◌, ◌-◌, ◌^◌, ◌≤◌, length, min}
use Rattle.segment_store.specs.MemoryHost.{bytes_of}
use Rattle.segment_store.specs.Relation.{relation_of, segment_pages}
use Rattle.segment_store.proofs.growth.count_blocks.Given as goal

abbrev pub invariant-loop-rest : goal.invariant-loop-rest
invariant-loop-rest l = record {
  counted : min (2 ^ 32 - 1) (l.count + length (segment_pages l.seg_blocks (bytes_of l.rest)))
      ≡ length (relation_of l.seg_blocks (bytes_of l.segments));
  fits : l.count ≤ 2 ^ 32 - 1;
}

abbrev pub decreases-loop-rest : goal.decreases-loop-rest
decreases-loop-rest l = length l.rest
