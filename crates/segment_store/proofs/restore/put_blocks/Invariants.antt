use Rattle.std.proofs.Common.{◌≡◌, Some, map}
use Rattle.segment_store.specs.MemoryLane.{pages_of}
use Rattle.segment_store.specs.Relation.{first_blocks}
use Rattle.segment_store.specs.Restored.{pages_in, with_pages}
use Rattle.segment_store.proofs.restore.put_blocks.Given as goal

abbrev pub invariant-loop-place : goal.invariant-loop-place
invariant-loop-place l = l.bytes ≡ with_pages (pages_in l.fork (map (λ lane. Some (pages_of lane)) l.lanes) l.first (first_blocks l.initial.bytes l.place)) l.initial.bytes
