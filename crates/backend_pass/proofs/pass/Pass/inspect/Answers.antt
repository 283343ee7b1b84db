use Rattle.std.proofs.Common.{◌≡◌, ◌∙◌, ℕ, refl, sym, ap, subst}
use Rattle.state_word.specs.Fields.{fields}
use Rattle.pin_core.specs.declared.view.View.{View}
use Rattle.pin_core.specs.State.{link}
use Rattle.frame_table.specs.Seats.{IsWordOf, Touches, ViewMarks}
use Rattle.frame_table.proofs.Rising.{rises_touched}
use Rattle.buffer_frames.specs.Inspections.{Inspects}
use Rattle.buffer_frames.specs.Rests.{HasNoDevice, LinksRest}
use Rattle.buffer_frames.proofs.Keeping.{kept_self, same_locks_at}
use Rattle.backend_pass.specs.Managers.{Belongs}
use Rattle.backend_pass.specs.Passes.{IsNumbered, PassState, view_in}
use Rattle.backend_pass.proofs.Counted.{counted_kept, told_of}
use Rattle.backend_pass.proofs.CountedWrites.{counted_none}
use Rattle.backend_pass.proofs.PassSyncing.{callers_from, callers_kept}
use Rattle.backend_pass.proofs.Releasing.{belongs_touched, devices_from, devices_self, numbered_self, same_touched, shown_self}
use Rattle.backend_pass.proofs.SeatWork.{InspectsOne, frame_worked}
use Rattle.backend_pass.proofs.Seated.{Worked, same_from}
use Rattle.backend_pass.proofs.pass.Pass.inspect.Goals as goal

-- what the call did
inspected : (g : _) (c : goal.After-return_seat g) → Worked (λ v w. InspectsOne c.args.frame c.inspect-seen.result v w) c.self.inside.held c.self.inside.seat c.return_seat.new.badge
inspected g c = frame_worked {L = g.row.L.Denot} {G = g.row.G.Denot} c.self.inside.held _ _ _ _ c.take_seat-seat.ensures c.inspect-seen.ensures.seat c.return_seat.ensures c.self.invariant.1 (λ v w. InspectsOne c.args.frame c.inspect-seen.result v w) c.inspect-seen.ensures.stands.quiet c.inspect-seen.ensures.rests c.inspect-seen.ensures.touches.partitions record { touches = c.inspect-seen.ensures.touches; marks = c.inspect-seen.ensures.marks; lock = c.inspect-seen.ensures.lock; inspects = c.inspect-seen.ensures.inspects; word = c.inspect-seen.ensures.word }

pub inspect-seen-requires-clause-stands : goal.inspect-seen-requires-clause-stands
inspect-seen-requires-clause-stands g c =
    record {
      fits = c.take_seat-seat.ensures.table ∙ ap (λ (p : PassState). p.table) c.self.view_is ∙ c.requires.belongs.table;
      hand = c.take_seat-seat.ensures.hand;
      quiet = subst HasNoDevice c.take_seat-seat.ensures.view c.self.invariant.1.quiet;
    }

pub inspect-seen-requires-clause-rests : goal.inspect-seen-requires-clause-rests
inspect-seen-requires-clause-rests g c = subst (LinksRest c.self.inside.held) c.take_seat-seat.ensures.view c.self.invariant.1.links

pub invariant_of-self : goal.invariant_of-self
invariant_of-self g c =
    let i = c.self.invariant in
    let e = inspected g c in
    let v = view_in c.self.inside.seat.views in
    let w = view_in c.return_seat.new.badge.views in (
      e.badge.one,
      e.rests,
      subst (λ (id : ℕ). IsNumbered c.self.inside.number id w) (sym e.badge.id) (numbered_self c.self.inside.number c.self.inside.seat.id v w e.did.touches.self i.2),
      shown_self v w _ e.did.touches.self i.3,
      i.4,
      counted_kept _ _ _ _ (ap told_of e.did.touches.self) i.5,
    )

pub returns-clause-belongs : goal.returns-clause-belongs
returns-clause-belongs g c =
    let e = inspected g c in
    belongs_touched {L = g.row.L.Denot} {G = g.row.G.Denot} g.L.BlockLane.contents c.args.manager.now _ _ c.args.frame e.badge.table refl e.did.touches (λ f h at. (h, at, refl))
    (subst (Belongs {L = g.row.L.Denot} {G = g.row.G.Denot} g.L.BlockLane.contents c.args.manager.now) (sym c.self.view_is) c.requires.belongs)

pub returns-clause-same : goal.returns-clause-same
returns-clause-same g c =
    let e = inspected g c in same_from _ _ _ c.self.view_is (same_touched _ _ c.args.frame e.badge.table e.badge.id refl e.did.touches)

pub returns-clause-callers : goal.returns-clause-callers
returns-clause-callers g c =
    let e = inspected g c in callers_from _ _ _ c.self.view_is (callers_kept _ _ e.badge.table e.badge.id refl refl refl (kept_self (view_in c.self.inside.seat.views) (view_in c.return_seat.new.badge.views) e.did.touches.self (ap (λ (x : ViewMarks). x.dirtied_or_synced) e.did.marks)) (rises_touched c.args.frame (view_in c.self.inside.seat.views) (view_in c.return_seat.new.badge.views) e.did.touches) (same_locks_at c.args.frame (view_in c.self.inside.seat.views) (view_in c.return_seat.new.badge.views) e.did.touches.others e.did.lock) (counted_none _ _ (ap (λ (x : View). x.device_calls) e.did.touches.self) (ap (λ (x : View). x.cleared) e.did.touches.self) refl))

pub returns-clause-mark : goal.returns-clause-mark
returns-clause-mark g c =
    let e = inspected g c in
    subst (λ (p : PassState). (view_in c.return_seat.new.badge.views).dirtied_or_synced ≡ p.view.dirtied_or_synced) c.self.view_is (ap (λ (x : ViewMarks). x.dirtied_or_synced) e.did.marks)

pub returns-clause-devices : goal.returns-clause-devices
returns-clause-devices g c =
    let e = inspected g c in devices_from _ _ _ c.self.view_is (devices_self _ _ e.did.touches.self refl)

pub returns-clause-touches : goal.returns-clause-touches
returns-clause-touches g c =
    let e = inspected g c in
    subst (λ (p : PassState). Touches c.args.frame p.view (view_in c.return_seat.new.badge.views)) c.self.view_is e.did.touches

pub returns-clause-inspects : goal.returns-clause-inspects
returns-clause-inspects g c =
    let e = inspected g c in
    subst (λ (p : PassState). Inspects c.args.frame c.inspect-seen.result p.view (view_in c.return_seat.new.badge.views)) c.self.view_is e.did.inspects

pub returns-clause-word : goal.returns-clause-word
returns-clause-word g c =
    let e = inspected g c in
    subst (λ (p : PassState). IsWordOf (link p.view c.args.frame) (fields c.inspect-seen.result.word)) c.self.view_is e.did.word
