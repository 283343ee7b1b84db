use Rattle.std.proofs.Common.{◌∙◌, ℕ, refl, sym, ap, subst}
use Rattle.pin_core.specs.declared.view.View.{View}
use Rattle.backend_pass.specs.Managers.{Belongs}
use Rattle.backend_pass.specs.Passes.{IsNumbered, PassState, view_in}
use Rattle.backend_pass.proofs.Counted.{counted_kept, told_of}
use Rattle.backend_pass.proofs.Releasing.{belongs_held}
use Rattle.backend_pass.proofs.Seated.{Worked}
use Rattle.frame_table.specs.WordSteps.{DidWord, begin_checkpoint}
use Rattle.backend_pass.proofs.BlockReads.{shown_met}
use Rattle.backend_pass.proofs.PassSyncing.{callers_begun, callers_from, locks_unmarked, rises_begun}
use Rattle.buffer_frames.specs.Rests.{HasNoDevice}
use Rattle.backend_pass.proofs.SeatWork.{BeginsCheckpoint, checkpoint_begun}
use Rattle.backend_pass.proofs.pass.Pass.begin_checkpoint.Goals as goal

-- what the call did
begun : (g : _) (c : goal.After-return_seat g) → Worked (λ v w. BeginsCheckpoint v w c.load_log_end-upto.result) c.self.inside.held c.self.inside.seat c.return_seat.new.badge
begun g c = checkpoint_begun {L = g.row.L.Denot} {G = g.row.G.Denot} c.self.inside.held _ _ _ _ c.take_seat-seat.ensures c.load_log_end-upto.ensures.seat c.return_seat.ensures c.self.invariant.1 c.load_log_end-upto.result record { view = c.load_log_end-upto.ensures.view; unmarked = c.load_log_end-upto.ensures.unmarked refl; seen = (c.load_log_end-upto.ensures.later, c.load_log_end-upto.ensures.seen); did = c.load_log_end-upto.ensures.did }

pub load_log_end-upto-requires-clause-seat : goal.load_log_end-upto-requires-clause-seat
load_log_end-upto-requires-clause-seat g c =
    record {
      fits = c.take_seat-seat.ensures.table ∙ ap (λ (p : PassState). p.table) c.self.view_is ∙ c.requires.belongs.table;
      live = (subst HasNoDevice c.take_seat-seat.ensures.view c.self.invariant.1.quiet).live;
    }

pub invariant_of-self : goal.invariant_of-self
invariant_of-self g c =
    let i = c.self.invariant in
    let e = begun g c in
    let v = (view_in c.self.inside.seat.views) in
    let w = (view_in c.return_seat.new.badge.views) in (
      e.badge.one,
      e.rests,
      subst (λ (id : ℕ). IsNumbered c.self.inside.number id w) (sym e.badge.id) (record { number_is = ap (λ (x : View). x.number) e.did.view ∙ i.2.number_is; first = i.2.first }),
      shown_met v w _ (ap (λ (x : View). x.front) e.did.view) (ap (λ (x : View). x.met) e.did.view) i.3,
      i.4,
      counted_kept _ _ _ _ (ap told_of e.did.view) i.5,
    )

pub returns-clause-belongs : goal.returns-clause-belongs
returns-clause-belongs g c =
    let e = begun g c in
    belongs_held {L = g.row.L.Denot} {G = g.row.G.Denot} g.L.BlockLane.contents c.args.manager.now _ _ e.badge.table refl (ap (λ (x : View). x.calls) e.did.view) (ap (λ (x : View). x.front) e.did.view) ((rises_begun c.load_log_end-upto.result (view_in c.self.inside.seat.views) (view_in c.return_seat.new.badge.views) e.did.view).end_seen) (λ f h at. (h, at, refl))
    (subst (Belongs {L = g.row.L.Denot} {G = g.row.G.Denot} g.L.BlockLane.contents c.args.manager.now) (sym c.self.view_is) c.requires.belongs)

pub returns-clause-callers : goal.returns-clause-callers
returns-clause-callers g c =
    let e = begun g c in callers_from _ _ _ c.self.view_is (callers_begun c.load_log_end-upto.result _ _ e.badge.table e.badge.id refl refl refl refl e.did.view (locks_unmarked (view_in c.self.inside.seat.views) (view_in c.return_seat.new.badge.views) e.did.unmarked))

pub returns-clause-did : goal.returns-clause-did
returns-clause-did g c =
    let e = begun g c in
    subst (λ (p : PassState). DidWord begin_checkpoint p.view (view_in c.return_seat.new.badge.views) c.load_log_end-upto.result) c.self.view_is (e.did.did)
