use Rattle.std.proofs.Common.{◌∙◌, true, false, ap, length, length-set}
use Rattle.pin_core.specs.declared.view.View.{View}
use Rattle.table_rule.specs.declared.turn.Turn.TheVariants.{Lane}
use Rattle.table_rule.specs.LaneCalls.{lane_devices}
use Rattle.frame_table.proofs.Rising.{rises_back, rises_on, rises_out, rises_turned}
use Rattle.buffer_frames.proofs.Latching.{may_take_lane}
use Rattle.buffer_frames.proofs.lanes.sync_lane.Goals as goal

pub take_turn-requires-clause-free : goal.take_turn-requires-clause-free
take_turn-requires-clause-free g c = may_take_lane _ c.requires.stands.quiet

pub returns-clause-left : goal.returns-clause-left
returns-clause-left g c = record {
  before = c.lane_back.new.seat.me.0;
  did = c.leave_turn.ensures.did;
  turned = c.leave_turn.ensures.turned;
  wide = ap (λ (v : View). length v.lanes) c.lane_back.ensures.view ∙ length-set _ c.args.lane _ ∙ ap (λ (v : View). length v.lanes) c.lane_out-out.ensures.view ∙ length-set _ c.args.lane _ ∙ c.lane_out-out.ensures.wide.1;
}

pub returns-clause-rises : goal.returns-clause-rises
returns-clause-rises g c = let t = c.take_turn.ensures in let l = c.leave_turn.ensures in
    rises_on _ c.take_turn.new.seat.me.0 _ (rises_turned true (Lane c.args.lane) _ _ t.work t.turned t.did)
    (rises_on _ c.lane_out-out.new.seat.me.0 _ (rises_out c.args.lane _ _ _ c.lane_out-out.ensures.view c.lane_out-out.ensures.out)
    (rises_on _ c.lane_back.new.seat.me.0 _ (rises_back {L = g.row.L.Denot} (lane_devices g.L.BlockLane) c.args.lane c.sync-result.new.self.device c.sync-result.new.self.call _ _ c.lane_back.ensures.view c.lane_back.ensures.back) (rises_turned false (Lane c.args.lane) _ _ l.work l.turned l.did)))
