use Rattle.std.proofs.Common.{◌≡◌, ◌==◌, true, cond, get_or, [], sym, ap, ◌∙◌}
use Rattle.std.proofs.lemmas.List.{get_or_default}
use Rattle.block_tag.specs.Names.{lane_number}
use Rattle.segment_store.specs.Contents.{Marks, Pages, with_mark, with_page}
use Rattle.segment_store.specs.History.{unsynced_in}
use Rattle.segment_store.specs.Lanes.{tag_at}
use Rattle.segment_store.proofs.Dealing.{own-nil, own_more}
use Rattle.segment_store.proofs.DealtRooms.{room_more, room_none}
use Rattle.segment_store.proofs.memory_host.own_lane.Goals as goal

pub loop-block-init : goal.loop-block-init
loop-block-init c = record {
  pages = c.new-lane.ensures.pages ∙ sym (own-nil c.args.fork c.args.lanes c.args.number);
  room = c.new-lane.ensures.room ∙ sym (room_none c.args.fork c.args.lanes c.args.number);
  failed = c.new-lane.ensures.failed;
  reads = c.new-lane.ensures.reads;
  writes = c.new-lane.ensures.writes;
  plan = c.new-lane.ensures.plan;
  synced = c.new-lane.ensures.unsynced;
}

pub loop-block-preserved : goal.loop-block-preserved
loop-block-preserved c =
    let block = c.loop-block.block in
    let page = c.index-pages-block.result in
    let page_is : page ≡ get_or c.args.pages.now block [] = c.index-pages-block.is ∙ get_or_default c.args.pages.now block page [] c.loop-block-test.true in
    record {
      pages = c.in_ok-hold_own.ensures.pages
          ∙ ap (λ (contents : Pages). cond (lane_number (tag_at c.args.fork block) c.args.lanes == c.args.number) (with_page (tag_at c.args.fork block) page contents) contents) c.loop-block.invariant.pages
          ∙ sym (own_more c.args.fork c.args.pages.now c.args.lanes c.args.number block page c.loop-block-test.true page_is);
      room = c.in_ok-hold_own.ensures.room
          ∙ ap (λ (room : Marks). cond (lane_number (tag_at c.args.fork block) c.args.lanes == c.args.number) (with_mark (tag_at c.args.fork block) true room) room) c.loop-block.invariant.room
          ∙ sym (room_more c.args.fork c.args.lanes c.args.number block);
      failed = c.in_ok-hold_own.ensures.failed;
      reads = ap (λ count. count.count) c.in_ok-hold_own.ensures.reads ∙ c.loop-block.invariant.reads;
      writes = ap (λ count. count.count) c.in_ok-hold_own.ensures.writes ∙ c.loop-block.invariant.writes;
      plan = c.in_ok-hold_own.ensures.plan ∙ c.loop-block.invariant.plan;
      synced = ap unsynced_in c.in_ok-hold_own.ensures.history ∙ c.loop-block.invariant.synced;
    }
