use Rattle.std.proofs.Common.{◌≡◌, Some, map}
use Rattle.segment_store.specs.Growth.{last_held}
use Rattle.segment_store.specs.MemoryLane.{pages_of}
use Rattle.segment_store.proofs.growth.last_held.Given as goal

abbrev pub invariant-loop-end : goal.invariant-loop-end
invariant-loop-end l =
    let held = map (λ lane. Some (pages_of lane)) l.lanes in
    last_held l.fork held l.end ≡ last_held l.fork held l.fn.room

abbrev pub decreases-loop-end : goal.decreases-loop-end
decreases-loop-end l = l.end
