use Rattle.std.proofs.Common.{◌≡◌, Some, map}
use Rattle.segment_store.specs.MemoryHost.{bytes_of}
use Rattle.segment_store.specs.MemoryLane.{pages_of}
use Rattle.segment_store.proofs.PutSegments.{IsUnderway}
use Rattle.segment_store.proofs.Space.{capacities}
use Rattle.segment_store.proofs.restore.give_blocks_back.Given as goal

abbrev pub invariant-loop-index : goal.invariant-loop-index
invariant-loop-index l = record {
  bytes : IsUnderway l.fork (map (λ lane. Some (pages_of lane)) l.lanes) l.seg_blocks (bytes_of l.initial.segments) (bytes_of l.segments) l.index l.first;
  capacities : capacities l.segments ≡ capacities l.initial.segments;
}
