use Rattle.std.proofs.Common.{◌≡◌, ◌+◌, ◌-◌, ◌*◌, ◌≤◌, ℕ, List, Some, map, length, sym, ◌∙◌, ap, ap₂, arith}
use borrow.Rule.Slice.PartMut.{put_mid}
use Rattle.segment_store.specs.MemoryLane.{pages_of}
use Rattle.segment_store.proofs.PutBlocks.{block_put, block_stays}
use Rattle.segment_store.proofs.restore.put_blocks.Goals as goal
use Rattle.segment_store.proofs.restore.put_blocks.Goals.{in-Some, in_default}

pub loop-place-preserved : goal.loop-place-preserved
loop-place-preserved c =
    let lanes = map (λ lane. Some (pages_of lane)) c.args.lanes.now in
    let bytes = c.args.bytes.now in
    let place = c.loop-place.place in
    elim c.match-page_in.branch [
      | in-Some w ↦
          let within : 8192 * place + 8192 ≤ length bytes = omega arith in
          let size : 8192 * place + 8192 - 8192 * place ≡ 8192 = omega arith in
          w.bytes-is
          ∙ ap (λ (n : ℕ). put_mid (8192 * place) n c.loop-place.bytes w.copy_from_slice.new.self) size
          ∙ ap₂ (λ (all page : List ℕ). put_mid (8192 * place) 8192 all page) c.loop-place.invariant (w.copy_from_slice.ensures.after ∙ w.bytes.ensures.bytes)
          ∙ sym (block_put c.args.fork lanes c.args.first bytes place w.in-Some.page.now w.in-Some.ensures (ap (λ (l : List ℕ). length l) (sym c.loop-place.invariant) ∙ c.loop-place.auto.bytes) within)
      | in_default w ↦ w.bytes-is ∙ c.loop-place.invariant ∙ sym (block_stays c.args.fork lanes c.args.first bytes place w.in_default.ensures)
    ]
