use Rattle.std.proofs.Common.{◌==◌, true, cond, sym, ap, ◌∙◌}
use Rattle.block_tag.specs.Names.{lane_number}
use Rattle.segment_store.specs.Contents.{Marks, with_mark}
use Rattle.segment_store.specs.Lanes.{tag_at}
use Rattle.segment_store.proofs.DealtRooms.{room_more}
use Rattle.segment_store.proofs.memory_host.reserve_past.Goals as goal

pub loop-block-preserved : goal.loop-block-preserved
loop-block-preserved c =
    let block = c.loop-block.block in
    let was = c.loop-block.invariant in
    let own = c.in_ok-reserve_own.ensures in
    record {
      room = own.room
          ∙ ap (λ (room : Marks). cond (lane_number (tag_at c.args.fork block) c.args.lanes == c.args.number) (with_mark (tag_at c.args.fork block) true room) room) was.room
          ∙ sym (room_more c.args.fork c.args.lanes c.args.number block);
      pages = own.pages ∙ was.pages;
      failed = own.failed ∙ was.failed;
      reads = own.reads ∙ was.reads;
      writes = own.writes ∙ was.writes;
      plan = own.plan ∙ was.plan;
      history = own.history ∙ was.history;
    }
