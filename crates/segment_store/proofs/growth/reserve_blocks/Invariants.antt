use Rattle.std.proofs.Common.{◌≡◌, ◌*◌, ◌≤◌, vec_capacity}
use Rattle.std.specs.List.{AllWithin}
use Rattle.segment_store.specs.MemoryHost.{bytes_of}
use Rattle.segment_store.proofs.growth.reserve_blocks.Given as goal

abbrev pub invariant-loop-index : goal.invariant-loop-index
invariant-loop-index l = record {
  bytes : bytes_of l.segments ≡ bytes_of l.initial.segments;
  room : AllWithin (λ segment. 8192 * l.blocks ≤ vec_capacity segment) l.segments 0 l.index;
}
