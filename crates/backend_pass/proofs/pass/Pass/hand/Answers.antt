use Rattle.std.proofs.Common.{◌∙◌, ℕ, refl, sym, ap, subst}
use Rattle.pin_core.specs.declared.view.View.{View}
use Rattle.buffer_frames.proofs.Keeping.{same_locks_linked}
use Rattle.backend_pass.specs.Managers.{Belongs}
use Rattle.backend_pass.specs.Passes.{IsNumbered, PassState, view_in}
use Rattle.backend_pass.proofs.Counted.{counted_kept, told_of}
use Rattle.backend_pass.proofs.CountedWrites.{counted_none}
use Rattle.backend_pass.proofs.BlockReads.{numbered_kept}
use Rattle.backend_pass.proofs.Releasing.{belongs_held}
use Rattle.backend_pass.proofs.Seated.{Worked}
use Rattle.frame_table.specs.WordSteps.{DidWord, load_hand}
use Rattle.buffer_frames.specs.Rests.{kept_by_calls}
use Rattle.backend_pass.proofs.BlockReads.{shown_met}
use Rattle.backend_pass.proofs.PassSyncing.{callers_from, callers_kept, rises_hand}
use Rattle.buffer_frames.specs.Rests.{HasNoDevice}
use Rattle.backend_pass.proofs.SeatWork.{hand_loaded, LoadsHand}
use Rattle.backend_pass.proofs.pass.Pass.hand.Goals as goal

-- what the call did
loaded : (g : _) (c : goal.After-return_seat g) → Worked (λ v w. LoadsHand v w c.hand-answer.result) c.self.inside.held c.self.inside.seat c.return_seat.new.badge
loaded g c = hand_loaded {L = g.row.L.Denot} {G = g.row.G.Denot} c.self.inside.held _ _ _ _ c.take_seat-seat.ensures c.hand-answer.ensures.seat c.return_seat.ensures c.self.invariant.1 c.hand-answer.result record { view = c.hand-answer.ensures.view; did = c.hand-answer.ensures.did }

pub hand-answer-requires : goal.hand-answer-requires
hand-answer-requires g c =
    record {
      fits = c.take_seat-seat.ensures.table ∙ ap (λ (p : PassState). p.table) c.self.view_is ∙ c.requires.belongs.table;
      live = (subst HasNoDevice c.take_seat-seat.ensures.view c.self.invariant.1.quiet).live;
    }

pub invariant_of-self : goal.invariant_of-self
invariant_of-self g c =
    let i = c.self.invariant in
    let e = loaded g c in
    let v = (view_in c.self.inside.seat.views) in
    let w = (view_in c.return_seat.new.badge.views) in (
      e.badge.one,
      e.rests,
      subst (λ (id : ℕ). IsNumbered c.self.inside.number id w) (sym e.badge.id) (numbered_kept c.self.inside.number c.self.inside.seat.id v w (ap (λ (x : View). x.number) e.did.view) i.2),
      shown_met v w _ (ap (λ (x : View). x.front) e.did.view) (ap (λ (x : View). x.met) e.did.view) i.3,
      i.4,
      counted_kept _ _ _ _ (ap told_of e.did.view) i.5,
    )

pub returns-clause-belongs : goal.returns-clause-belongs
returns-clause-belongs g c =
    let e = loaded g c in
    belongs_held {L = g.row.L.Denot} {G = g.row.G.Denot} g.L.BlockLane.contents c.args.manager.now _ _ e.badge.table refl (ap (λ (x : View). x.calls) e.did.view) (ap (λ (x : View). x.front) e.did.view) ((rises_hand c.hand-answer.result (view_in c.self.inside.seat.views) (view_in c.return_seat.new.badge.views) e.did.view).end_seen) (λ f h at. (h, at, refl))
    (subst (Belongs {L = g.row.L.Denot} {G = g.row.G.Denot} g.L.BlockLane.contents c.args.manager.now) (sym c.self.view_is) c.requires.belongs)

pub returns-clause-callers : goal.returns-clause-callers
returns-clause-callers g c =
    let e = loaded g c in callers_from _ _ _ c.self.view_is (callers_kept _ _ e.badge.table e.badge.id refl refl refl (ap kept_by_calls e.did.view) (rises_hand c.hand-answer.result (view_in c.self.inside.seat.views) (view_in c.return_seat.new.badge.views) e.did.view) (same_locks_linked (view_in c.self.inside.seat.views) (view_in c.return_seat.new.badge.views) (ap (λ (x : View). x.links) e.did.view)) (counted_none _ _ (ap (λ (x : View). x.device_calls) e.did.view) (ap (λ (x : View). x.cleared) e.did.view) refl))

pub returns-clause-did : goal.returns-clause-did
returns-clause-did g c =
    let e = loaded g c in
    subst (λ (p : PassState). DidWord load_hand p.view (view_in c.return_seat.new.badge.views) c.hand-answer.result) c.self.view_is (e.did.did)
