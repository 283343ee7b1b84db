use Rattle.std.proofs.Common.{◌∙◌, ℕ, refl, sym, ap, subst}
use Rattle.pin_core.specs.declared.view.View.{View}
use Rattle.buffer_frames.proofs.Keeping.{same_locks_linked}
use Rattle.backend_pass.specs.Managers.{Belongs}
use Rattle.backend_pass.specs.Passes.{IsNumbered, IsShown, PassState, view_in}
use Rattle.backend_pass.proofs.Counted.{counted_kept, told_of}
use Rattle.backend_pass.proofs.Releasing.{belongs_held}
use Rattle.backend_pass.proofs.Seated.{same_from}
use Rattle.backend_pass.specs.PassSyncs.{shown_lane_synced}
use Rattle.backend_pass.proofs.PassSyncing.{callers_from, callers_synced, same_synced, shown_lane}
use Rattle.buffer_frames.specs.Rests.{HasNoDevice}
use Rattle.frame_table.specs.Seats.{frames_of, lanes_in}
use Rattle.backend_pass.proofs.SeatWork.{lane_synced}
use Rattle.backend_pass.proofs.pass.Pass.sync_lane.Goals as goal

pub sync_lane-answer-requires-clause-stands : goal.sync_lane-answer-requires-clause-stands
sync_lane-answer-requires-clause-stands g c =
    record {
      fits = c.take_seat-seat.ensures.table ∙ ap (λ (p : PassState). p.table) c.self.view_is ∙ c.requires.belongs.table;
      hand = c.take_seat-seat.ensures.hand;
      quiet = subst HasNoDevice c.take_seat-seat.ensures.view c.self.invariant.1.quiet;
    }

pub invariant_of-self : goal.invariant_of-self
invariant_of-self g c =
    let i = c.self.invariant in
    let e = lane_synced {L = g.row.L.Denot} {G = g.row.G.Denot} c.self.inside.held _ _ _ _ c.take_seat-seat.ensures c.sync_lane-answer.ensures.seat c.return_seat.ensures c.self.invariant.1 (frames_of c.args.manager.now.table) (lanes_in c.args.manager.now.table) c.args.lane c.sync_lane-answer.result c.sync_lane-answer.ensures.stands.quiet c.sync_lane-answer.ensures.partitions record { rises = c.sync_lane-answer.ensures.rises; view = c.sync_lane-answer.ensures.view; swept = c.sync_lane-answer.ensures.swept; wide = c.sync_lane-answer.ensures.wide; left = c.sync_lane-answer.ensures.left } in
    let v = (view_in c.self.inside.seat.views) in
    let w = (view_in c.return_seat.new.badge.views) in (
      e.badge.one,
      e.rests,
      subst (λ (id : ℕ). IsNumbered c.self.inside.number id w) (sym e.badge.id) (record { number_is = ap (λ (x : View). x.number) e.did.view ∙ i.2.number_is; first = i.2.first }),
      subst (IsShown w) (sym (c.new-self-inside.ensures ∙ c.after_lane_sync-shown.ensures ∙ ap (shown_lane_synced c.sync_lane-answer.result) c.deref.ensures)) (shown_lane c.args.lane v w _ c.sync_lane-answer.result e.did.view i.3),
      i.4,
      counted_kept _ _ _ _ (ap told_of e.did.view) i.5,
    )

pub returns-clause-belongs : goal.returns-clause-belongs
returns-clause-belongs g c =
    let e = lane_synced {L = g.row.L.Denot} {G = g.row.G.Denot} c.self.inside.held _ _ _ _ c.take_seat-seat.ensures c.sync_lane-answer.ensures.seat c.return_seat.ensures c.self.invariant.1 (frames_of c.args.manager.now.table) (lanes_in c.args.manager.now.table) c.args.lane c.sync_lane-answer.result c.sync_lane-answer.ensures.stands.quiet c.sync_lane-answer.ensures.partitions record { rises = c.sync_lane-answer.ensures.rises; view = c.sync_lane-answer.ensures.view; swept = c.sync_lane-answer.ensures.swept; wide = c.sync_lane-answer.ensures.wide; left = c.sync_lane-answer.ensures.left } in
    belongs_held {L = g.row.L.Denot} {G = g.row.G.Denot} g.L.BlockLane.contents c.args.manager.now _ _ e.badge.table refl (ap (λ (x : View). x.calls) e.did.view) (ap (λ (x : View). x.front) e.did.view) (e.did.rises.end_seen) (λ f h at. (h, at, refl))
    (subst (Belongs {L = g.row.L.Denot} {G = g.row.G.Denot} g.L.BlockLane.contents c.args.manager.now) (sym c.self.view_is) c.requires.belongs)

pub returns-clause-same : goal.returns-clause-same
returns-clause-same g c =
    let e = lane_synced {L = g.row.L.Denot} {G = g.row.G.Denot} c.self.inside.held _ _ _ _ c.take_seat-seat.ensures c.sync_lane-answer.ensures.seat c.return_seat.ensures c.self.invariant.1 (frames_of c.args.manager.now.table) (lanes_in c.args.manager.now.table) c.args.lane c.sync_lane-answer.result c.sync_lane-answer.ensures.stands.quiet c.sync_lane-answer.ensures.partitions record { rises = c.sync_lane-answer.ensures.rises; view = c.sync_lane-answer.ensures.view; swept = c.sync_lane-answer.ensures.swept; wide = c.sync_lane-answer.ensures.wide; left = c.sync_lane-answer.ensures.left } in same_from _ _ _ c.self.view_is (same_synced c.args.lane _ _ _ e.badge.table e.badge.id refl refl refl refl e.did.view e.did.rises (same_locks_linked (view_in c.self.inside.seat.views) (view_in c.return_seat.new.badge.views) (ap (λ (x : View). x.links) e.did.view)))

pub returns-clause-callers : goal.returns-clause-callers
returns-clause-callers g c =
    let e = lane_synced {L = g.row.L.Denot} {G = g.row.G.Denot} c.self.inside.held _ _ _ _ c.take_seat-seat.ensures c.sync_lane-answer.ensures.seat c.return_seat.ensures c.self.invariant.1 (frames_of c.args.manager.now.table) (lanes_in c.args.manager.now.table) c.args.lane c.sync_lane-answer.result c.sync_lane-answer.ensures.stands.quiet c.sync_lane-answer.ensures.partitions record { rises = c.sync_lane-answer.ensures.rises; view = c.sync_lane-answer.ensures.view; swept = c.sync_lane-answer.ensures.swept; wide = c.sync_lane-answer.ensures.wide; left = c.sync_lane-answer.ensures.left } in callers_from _ _ _ c.self.view_is (callers_synced c.args.lane _ _ _ e.badge.table e.badge.id refl refl refl refl e.did.view e.did.rises (same_locks_linked (view_in c.self.inside.seat.views) (view_in c.return_seat.new.badge.views) (ap (λ (x : View). x.links) e.did.view)))
