use Rattle.std.proofs.Common.{◌*◌, ◌<◌, ◌≤◌, length, ◌∙◌, arith, vec_capacity}
use Rattle.std.proofs.lemmas.List.Elements.{AllWithin-more_set}
use Rattle.segment_store.proofs.Space.{bytes_stay}
use Rattle.segment_store.proofs.growth.reserve_blocks.Goals as goal

pub loop-index-preserved : goal.loop-index-preserved
loop-index-preserved c =
    let segments = c.loop-index.segments in
    let index = c.loop-index.index in
    let was = c.index-segments-index.result in
    let now = c.reserve.new.self in
    let within : index < length segments = omega arith in
    let room : 8192 * c.args.blocks ≤ vec_capacity now = omega (arith, c.in_ok-reserve.ensures.ok) in
    record {
      bytes = bytes_stay segments index was now within c.in_ok-reserve.ensures.items
          ∙ c.loop-index.invariant.bytes;
      room = AllWithin-more_set segments index now within (λ segment. 8192 * c.args.blocks ≤ vec_capacity segment)
          c.loop-index.invariant.room room;
    }
