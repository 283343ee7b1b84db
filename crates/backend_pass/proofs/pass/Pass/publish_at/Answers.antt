use Rattle.std.proofs.Common.{◌≡◌, ◌∙◌, ℕ, refl, sym, ap, subst}
use Rattle.pin_core.specs.declared.view.View.{View}
use Rattle.io_counts.specs.Additions.{additions, io_added, view_adding}
use Rattle.io_counts.specs.Tallies.{TallyState}
use Rattle.buffer_frames.specs.Rests.{HasNoDevice}
use Rattle.backend_pass.specs.Passes.{IsNumbered, PassState, view_in}
use Rattle.backend_pass.proofs.BlockReads.{numbered_kept, shown_met}
use Rattle.backend_pass.proofs.Counted.{counted_told}
use Rattle.backend_pass.proofs.Publishing.{published_pass}
use Rattle.backend_pass.proofs.SeatWork.{but_counters, counters_worked}
use Rattle.backend_pass.proofs.Seated.{Worked}
use Rattle.backend_pass.proofs.pass.Pass.publish_at.Goals as goal

-- what the call did
added : (g : _) (c : goal.After-return_seat g) → Worked (λ v w. w ≡ view_adding (additions c.self.inside.backend.io.published c.self.inside.backend.io.counted) v) c.self.inside.held c.self.inside.seat c.return_seat.new.badge
added g c = counters_worked {L = g.row.L.Denot} {G = g.row.G.Denot} c.self.inside.held _ _ _ _ c.take_seat-seat.ensures c.publish.ensures.seat c.return_seat.ensures c.self.invariant.1 (λ v w. w ≡ view_adding (additions c.self.inside.backend.io.published c.self.inside.backend.io.counted) v) (ap but_counters c.publish.ensures.view) c.publish.ensures.view

-- what was added by then
told : (g : _) (c : goal.After-return_seat g) → io_added (view_in c.return_seat.new.badge.views) ≡ c.self.inside.backend.io.counted
told g c = ap io_added c.return_seat.ensures.view ∙ c.publish.ensures.told

pub publish-requires-clause-seat : goal.publish-requires-clause-seat
publish-requires-clause-seat g c =
    record {
      fits = c.take_seat-seat.ensures.table ∙ ap (λ (p : PassState). p.table) c.self.view_is ∙ c.requires.table;
      live = (subst HasNoDevice c.take_seat-seat.ensures.view c.self.invariant.1.quiet).live;
    }

pub publish-requires-clause-told : goal.publish-requires-clause-told
publish-requires-clause-told g c = ap io_added (sym c.take_seat-seat.ensures.view) ∙ c.self.invariant.5.published

pub invariant_of-self : goal.invariant_of-self
invariant_of-self g c =
    let i = c.self.invariant in
    let e = added g c in
    let v = view_in c.self.inside.seat.views in
    let w = view_in c.return_seat.new.badge.views in (
      e.badge.one,
      e.rests,
      subst (λ (id : ℕ). IsNumbered c.self.inside.number id w) (sym e.badge.id) (numbered_kept c.self.inside.number c.self.inside.seat.id v w (ap (λ (x : View). x.number) e.did) i.2),
      shown_met v w _ (ap (λ (x : View). x.front) e.did) (ap (λ (x : View). x.met) e.did) i.3,
      i.4,
      counted_told _ _ _ v w (ap (λ (x : View). x.turns) e.did) (ap (λ (x : View). x.cleared) e.did) (told g c) c.publish.ensures.tally i.5,
    )

pub returns-clause-new : goal.returns-clause-new
returns-clause-new g c =
    let e = added g c in
    published_pass _ _ _ c.self.view_is e.badge.table e.badge.id (ap (λ (t : TallyState). t.counted) c.publish.ensures.tally) refl c.self.inside.backend.io.published c.self.invariant.5.published e.did

pub returns-clause-published : goal.returns-clause-published
returns-clause-published g c = told g c ∙ ap (λ (t : TallyState). t.counted) (sym c.publish.ensures.tally)
