use Rattle.std.proofs.Common.{◌≡◌, ◌*◌, ◌≤◌, vec_capacity, vec_len}
use Rattle.std.specs.Prelude.{All}
use Rattle.segment_store.proofs.growth.empty_segments.Given as goal

abbrev pub invariant-loop-made : goal.invariant-loop-made
invariant-loop-made l = record {
  count : vec_len l.spare ≡ l._made;
  room : All (λ segment. 8192 * l.blocks ≤ vec_capacity segment) l.spare.items;
  empty : All (λ segment. vec_len segment ≡ 0) l.spare.items;
}
