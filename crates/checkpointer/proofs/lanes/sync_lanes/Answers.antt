use Rattle.std.proofs.Common.{◌≡◌, ◌≢◌, ℕ, [], ◌∷◌, refl, sym, ap, ◌∙◌, subst, true, false, arith}
use Rattle.pin_core.specs.declared.view.View.{View}
use Rattle.pin_core.specs.declared.view.DeviceCall.TheVariants.{LaneSync}
use Rattle.pin_core.specs.declared.view.FailedCalls.{FailedCalls}
use Rattle.frame_table.specs.Seats.{frames_of, lanes_in}
use Rattle.buffer_frames.specs.Working.{Made, met_write}
use Rattle.buffer_frames.proofs.WorkSteps.{made_none, made_on}
use Rattle.checkpointer.specs.Stages.{syncs_below}
use Rattle.checkpointer.proofs.Keeping.{keeps_none, keeps_on}
use Rattle.checkpointer.proofs.Syncing.{calls_more, swept_more, synced_calls, synced_links, written_same}
use Rattle.checkpointer.proofs.lanes.sync_lanes.Goals as goal

one_more : (m : FailedCalls) → met_write m ≢ m
one_more m e = let w = ap (λ (x : FailedCalls). x.writes) e in omega arith

pub loop-lane-init : goal.loop-lane-init
loop-lane-init g c = record {
  keeps = keeps_none {L = g.row.L.Denot} {G = g.row.G.Denot} g.L.BlockLane.contents c.args.manager.now c.args.pass.now c.requires.belongs;
  links = refl;
  calls = made_none c.args.pass.now.view c.args.pass.now.view refl;
  met = refl;
  swept = λ q low. absurd (omega arith);
  left = λ some. absurd (omega arith);
}

pub sync_lane-requires-clause-belongs : goal.sync_lane-requires-clause-belongs
sync_lane-requires-clause-belongs g c = c.loop-lane.invariant.keeps.belongs

pub loop-lane-preserved : goal.loop-lane-preserved
loop-lane-preserved g c =
    let i = c.loop-lane.invariant in
    let e = c.sync_lane.ensures in
    let ok = c.in-Ok.ensures in
    let lane = c.loop-lane.lane in
    let frames = frames_of c.args.manager.now.table in record {
      keeps = keeps_on {L = g.row.L.Denot} {G = g.row.G.Denot} g.L.BlockLane.contents c.args.manager.now c.args.pass.now c.loop-lane.pass c.sync_lane.new.self i.keeps record { belongs = e.belongs; same = e.same; callers = e.callers };
      links = synced_links lane true c.loop-lane.pass.view c.sync_lane.new.self.view ok.view ∙ i.links;
      calls = calls_more lane c.args.pass.now.view c.loop-lane.pass.view c.sync_lane.new.self.view i.calls (synced_calls lane true c.loop-lane.pass.view c.sync_lane.new.self.view ok.view);
      met = ap (λ (v : View). v.met) ok.view ∙ i.met;
      swept = swept_more frames lane c.args.pass.now.view.upto c.loop-lane.pass.view c.sync_lane.new.self.view e.wide (written_same frames c.args.pass.now.view c.loop-lane.pass.view i.links c.requires.none_left) i.keeps.same.upto ok.swept e.same.keeps.advances i.swept;
      left = λ some. (lane, e.left);
    }

pub returns-in-Err-clause-stops : goal.returns-in-Err-clause-stops
returns-in-Err-clause-stops g c =
    let i = c.loop-lane.invariant in
    let e = c.sync_lane.ensures in
    let err = c.in-Err.ensures in
    let lane = c.loop-lane.lane in record {
      keeps = keeps_on {L = g.row.L.Denot} {G = g.row.G.Denot} g.L.BlockLane.contents c.args.manager.now c.args.pass.now c.loop-lane.pass c.sync_lane.new.self i.keeps record { belongs = e.belongs; same = e.same; callers = e.callers };
      inside = omega arith;
      calls = made_on _ (LaneSync lane false ∷ []) c.args.pass.now.view c.loop-lane.pass.view c.sync_lane.new.self.view i.calls (synced_calls lane false c.loop-lane.pass.view c.sync_lane.new.self.view err.view);
      met = ap (λ (v : View). v.met) err.view ∙ ap met_write i.met;
    }

pub returns-in-Err-clause-complete : goal.returns-in-Err-clause-complete
returns-in-Err-clause-complete g c same = absurd (one_more c.args.pass.now.view.met (sym (returns-in-Err-clause-stops g c).met ∙ same))

pub returns-clause-syncs : goal.returns-clause-syncs
returns-clause-syncs g c =
    let i = c.loop-lane.invariant in
    let all : c.loop-lane.lane ≡ lanes_in c.args.manager.now.table = omega arith in
    record {
      keeps = i.keeps;
      calls = subst (λ (n : ℕ). Made (syncs_below n) c.args.pass.now.view c.loop-lane.pass.view) all i.calls;
      met = i.met;
      swept = λ q low. i.swept q (omega arith);
      left = i.left (let some = c.args.manager.now.table.some in omega arith);
    }
