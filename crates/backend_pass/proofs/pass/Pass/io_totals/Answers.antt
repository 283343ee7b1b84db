use Rattle.std.proofs.Common.{◌≡◌, ◌∙◌, ℕ, refl, sym, ap, subst}
use Rattle.pin_core.specs.declared.view.View.{View}
use Rattle.io_counts.specs.Additions.{io_added}
use Rattle.io_counts.specs.Tallies.{AreAllAtMost}
use Rattle.io_counts.specs.Totals.{LoadsCounters, loads_of, view_loading}
use Rattle.buffer_frames.specs.Rests.{HasNoDevice}
use Rattle.backend_pass.specs.Managers.{Belongs}
use Rattle.backend_pass.specs.Passes.{IsNumbered, KeepsCallers, PassState, view_in}
use Rattle.backend_pass.proofs.BlockReads.{numbered_kept, shown_met}
use Rattle.backend_pass.proofs.Counted.{counted_kept, told_of}
use Rattle.backend_pass.proofs.Publishing.{belongs_told, callers_told, loading_pass, rises_loading}
use Rattle.backend_pass.proofs.SeatWork.{but_counters, counters_worked}
use Rattle.backend_pass.proofs.Seated.{Worked, moved}
use Rattle.backend_pass.proofs.pass.Pass.io_totals.Goals.{After-return_seat}
use Rattle.backend_pass.proofs.pass.Pass.io_totals.Goals as goal

-- what the call did
loaded : (g : _) (c : goal.After-return_seat g) → Worked (λ v w. w ≡ view_loading (loads_of c.load_totals-totals.result) v) c.self.inside.held c.self.inside.seat c.return_seat.new.badge
loaded g c = counters_worked {L = g.row.L.Denot} {G = g.row.G.Denot} c.self.inside.held _ _ _ _ c.take_seat-seat.ensures c.load_totals-totals.ensures.seat c.return_seat.ensures c.self.invariant.1 (λ v w. w ≡ view_loading (loads_of c.load_totals-totals.result) v) (ap but_counters c.load_totals-totals.ensures.view) c.load_totals-totals.ensures.view

pub load_totals-totals-requires : goal.load_totals-totals-requires
load_totals-totals-requires g c =
    record {
      seat = record {
        fits = c.take_seat-seat.ensures.table ∙ ap (λ (p : PassState). p.table) c.self.view_is ∙ c.requires.belongs.table;
        live = (subst HasNoDevice c.take_seat-seat.ensures.view c.self.invariant.1.quiet).live;
      };
    }

pub invariant_of-self : goal.invariant_of-self
invariant_of-self g c =
    let i = c.self.invariant in
    let e = loaded g (goal.at.invariant_of-self g c).After-return_seat in
    let v = view_in c.self.inside.seat.views in
    let w = view_in c.return_seat.new.badge.views in (
      e.badge.one,
      e.rests,
      subst (λ (id : ℕ). IsNumbered c.self.inside.number id w) (sym e.badge.id) (numbered_kept c.self.inside.number c.self.inside.seat.id v w (ap (λ (x : View). x.number) e.did) i.2),
      shown_met v w _ (ap (λ (x : View). x.front) e.did) (ap (λ (x : View). x.met) e.did) i.3,
      i.4,
      counted_kept _ _ _ _ (ap told_of e.did) i.5,
    )

pub returns-clause-new : goal.returns-clause-new
returns-clause-new g c =
    let e = loaded g (goal.at.returns-clause-new g c).After-return_seat in (
      c.load_totals-totals.result,
      c.shown.ensures,
      loading_pass _ _ _ c.self.view_is e.badge.table e.badge.id refl refl (loads_of c.load_totals-totals.result) e.did,
      subst (λ (v : View). AreAllAtMost (io_added v) c.load_totals-totals.result) (sym c.take_seat-seat.ensures.view ∙ ap (λ (p : PassState). p.view) c.self.view_is) c.load_totals-totals.ensures.least,
      c.load_totals-totals.ensures.most,
    )

pub returns-clause-belongs : goal.returns-clause-belongs
returns-clause-belongs g c =
    let new = returns-clause-new g c in
    let old = c.args.self.now in
    subst (λ (q : PassState). Belongs {L = g.row.L.Denot} {G = g.row.G.Denot} g.L.BlockLane.contents c.args.manager.now q) (sym new.2)
    (belongs_told old (record old { view = view_loading (loads_of new.0) old.view }) refl refl (rises_loading (loads_of new.0) old.view) {L = g.row.L.Denot} {G = g.row.G.Denot} g.L.BlockLane.contents c.args.manager.now c.requires.belongs)

pub returns-clause-callers : goal.returns-clause-callers
returns-clause-callers g c =
    let new = returns-clause-new g c in
    let old = c.args.self.now in
    subst (KeepsCallers old) (sym new.2)
    (callers_told old (record old { view = view_loading (loads_of new.0) old.view }) refl refl (rises_loading (loads_of new.0) old.view))

pub returns-clause-did : goal.returns-clause-did
returns-clause-did g c =
    let v = view_in c.self.inside.seat.views in
    let w = view_in c.return_seat.new.badge.views in (
      c.load_totals-totals.result,
      c.shown.ensures,
      subst (λ (p : PassState). LoadsCounters c.load_totals-totals.result p.view w) c.self.view_is
          (moved (LoadsCounters c.load_totals-totals.result) v w c.take_seat-seat.result.me.0 c.load_totals-totals.new.seat.me.0 c.take_seat-seat.ensures.view c.return_seat.ensures.view c.load_totals-totals.ensures.did),
    )
