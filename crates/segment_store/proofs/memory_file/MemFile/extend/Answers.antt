use Rattle.std.proofs.Common.{rules, ◌≡◌, ◌+◌, ◌-◌, ℕ, List, sym, ◌∙◌, ap, arith}
use Rattle.segment_store.specs.Growth.{extended, with_new_page}
use Rattle.segment_store.specs.MemoryHost.{bytes_of}
use Rattle.segment_store.proofs.FileRoom.{room_stays}
use Rattle.segment_store.proofs.Growing.{extended_more, extended_none}
use Rattle.segment_store.proofs.memory_file.MemFile.extend.Goals as goal

pub loop-block-init : goal.loop-block-init
loop-block-init c =
    let from = c.args.from in
    let segments = bytes_of c.args.self.now.segments.items in
    let none : 0 ≡ from - from = omega arith in
    record {
      segments = sym (extended_none c.args.seg_blocks from segments) ∙ ap (λ (n : ℕ). extended c.args.seg_blocks from n segments) none;
      next = c.requires.next;
      within = omega arith;
      same = search rules;
    }

pub add_page-requires-clause-room : goal.add_page-requires-clause-room
add_page-requires-clause-room c =
    let same = c.loop-block.invariant.same in
    let room = room_stays c.args.self.now c.loop-block.self c.args.seg_blocks same.count same.blocks in
    omega arith

pub loop-block-preserved : goal.loop-block-preserved
loop-block-preserved c =
    let from = c.args.from in
    let block = c.loop-block.block in
    let was = c.loop-block.invariant in
    let same = c.add_page.ensures.same in
    let more : block + 1 - from ≡ block - from + 1 = omega arith in
    let at : block ≡ from + (block - from) = omega arith in
    record {
      segments = c.add_page.ensures.segments
          ∙ ap (λ (l : List (List ℕ)). with_new_page c.args.seg_blocks block l) was.segments
          ∙ sym (extended_more c.args.seg_blocks from block (block - from) (block + 1 - from) (bytes_of c.args.self.now.segments.items) more at);
      next = omega (arith, c.add_page.ensures.there);
      within = omega arith;
      same = record {
        path = same.path ∙ was.same.path;
        returned = same.returned ∙ was.same.returned;
        count = same.count ∙ was.same.count;
        blocks = same.blocks ∙ was.same.blocks;
      };
    }

pub returns-clause-segments : goal.returns-clause-segments
returns-clause-segments c =
    let done : c.loop-block.block - c.args.from ≡ c.args.upto - c.args.from = omega arith in
    c.loop-block.invariant.segments
    ∙ ap (λ (n : ℕ). extended c.args.seg_blocks c.args.from n (bytes_of c.args.self.now.segments.items)) done
