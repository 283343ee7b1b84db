use Rattle.std.proofs.Common.{◌∙◌, ℕ, refl, sym, ap, subst}
use Rattle.pin_core.specs.declared.view.View.{View}
use Rattle.buffer_frames.proofs.Keeping.{same_locks_at}
use Rattle.backend_pass.specs.Managers.{Belongs}
use Rattle.backend_pass.specs.Passes.{IsNumbered, PassState, view_in}
use Rattle.backend_pass.proofs.Counted.{counted_kept, told_of}
use Rattle.backend_pass.proofs.CountedWrites.{counted_none}
use Rattle.backend_pass.proofs.Releasing.{belongs_held}
use Rattle.backend_pass.proofs.Seated.{Worked, same_from}
use Rattle.std.specs.Prelude.{IfSome}
use Rattle.page_core.specs.Kinds as kinds
use Rattle.frame_table.specs.FrameSteps.{Did}
use Rattle.frame_table.specs.Kinds.{pages}
use Rattle.buffer_frames.specs.Working.{Within}
use Rattle.buffer_frames.specs.Syncs.{NotesBlock}
use Rattle.frame_table.specs.Seats.{Touches}
use Rattle.frame_table.proofs.Rising.{rises_touched}
use Rattle.buffer_frames.proofs.Keeping.{kept_self}
use Rattle.frame_table.specs.Seats.{ViewMarks}
use Rattle.backend_pass.proofs.Releasing.{numbered_self, shown_self, same_touched}
use Rattle.backend_pass.proofs.PassSyncing.{callers_from, callers_kept}
use Rattle.buffer_frames.specs.Rests.{HasNoDevice, LinksRest}
use Rattle.backend_pass.proofs.SeatWork.{frame_worked, NeedsOne}
use Rattle.backend_pass.proofs.pass.Pass.need_checkpoint.Goals as goal

-- what the call did
noted : (g : _) (c : goal.After-return_seat g) → Worked (λ v w. NeedsOne c.args.frame v w c.need_checkpoint-answer.result) c.self.inside.held c.self.inside.seat c.return_seat.new.badge
noted g c = frame_worked {L = g.row.L.Denot} {G = g.row.G.Denot} c.self.inside.held _ _ _ _ c.take_seat-seat.ensures c.need_checkpoint-answer.ensures.seat c.return_seat.ensures c.self.invariant.1 (λ v w. NeedsOne c.args.frame v w c.need_checkpoint-answer.result) c.need_checkpoint-answer.ensures.stands.quiet c.need_checkpoint-answer.ensures.rests c.need_checkpoint-answer.ensures.touches.partitions record { touches = c.need_checkpoint-answer.ensures.touches; marks = c.need_checkpoint-answer.ensures.marks; lock = c.need_checkpoint-answer.ensures.lock; visited = c.need_checkpoint-answer.ensures.visited; clean = c.need_checkpoint-answer.ensures.clean; not_left_to_write = c.need_checkpoint-answer.ensures.not_left_to_write; needed = c.need_checkpoint-answer.ensures.needed; noted = c.need_checkpoint-answer.ensures.noted; named = c.need_checkpoint-answer.ensures.named }

pub need_checkpoint-answer-requires-clause-stands : goal.need_checkpoint-answer-requires-clause-stands
need_checkpoint-answer-requires-clause-stands g c =
    record {
      fits = c.take_seat-seat.ensures.table ∙ ap (λ (p : PassState). p.table) c.self.view_is ∙ c.requires.belongs.table;
      hand = c.take_seat-seat.ensures.hand;
      quiet = subst HasNoDevice c.take_seat-seat.ensures.view c.self.invariant.1.quiet;
    }

pub need_checkpoint-answer-requires-clause-rests : goal.need_checkpoint-answer-requires-clause-rests
need_checkpoint-answer-requires-clause-rests g c = subst (LinksRest c.self.inside.held) c.take_seat-seat.ensures.view c.self.invariant.1.links

pub invariant_of-self : goal.invariant_of-self
invariant_of-self g c =
    let i = c.self.invariant in
    let e = noted g c in
    let v = (view_in c.self.inside.seat.views) in
    let w = (view_in c.return_seat.new.badge.views) in (
      e.badge.one,
      e.rests,
      subst (λ (id : ℕ). IsNumbered c.self.inside.number id w) (sym e.badge.id) (numbered_self c.self.inside.number c.self.inside.seat.id v w e.did.touches.self i.2),
      shown_self v w _ e.did.touches.self i.3,
      i.4,
      counted_kept _ _ _ _ (ap told_of e.did.touches.self) i.5,
    )

pub returns-clause-belongs : goal.returns-clause-belongs
returns-clause-belongs g c =
    let e = noted g c in
    belongs_held {L = g.row.L.Denot} {G = g.row.G.Denot} g.L.BlockLane.contents c.args.manager.now _ _ e.badge.table refl (ap (λ (x : View). x.calls) e.did.touches.self) (ap (λ (x : View). x.front) e.did.touches.self) ((rises_touched c.args.frame (view_in c.self.inside.seat.views) (view_in c.return_seat.new.badge.views) e.did.touches).end_seen) (λ f h at. (h, at, refl))
    (subst (Belongs {L = g.row.L.Denot} {G = g.row.G.Denot} g.L.BlockLane.contents c.args.manager.now) (sym c.self.view_is) c.requires.belongs)

pub returns-clause-same : goal.returns-clause-same
returns-clause-same g c =
    let e = noted g c in same_from _ _ _ c.self.view_is (same_touched _ _ c.args.frame e.badge.table e.badge.id refl e.did.touches)

pub returns-clause-callers : goal.returns-clause-callers
returns-clause-callers g c =
    let e = noted g c in callers_from _ _ _ c.self.view_is (callers_kept _ _ e.badge.table e.badge.id refl refl refl (kept_self (view_in c.self.inside.seat.views) (view_in c.return_seat.new.badge.views) e.did.touches.self (ap (λ (x : ViewMarks). x.dirtied_or_synced) e.did.marks)) (rises_touched c.args.frame (view_in c.self.inside.seat.views) (view_in c.return_seat.new.badge.views) e.did.touches) (same_locks_at c.args.frame (view_in c.self.inside.seat.views) (view_in c.return_seat.new.badge.views) e.did.touches.others e.did.lock) (counted_none _ _ (ap (λ (x : View). x.device_calls) e.did.touches.self) (ap (λ (x : View). x.cleared) e.did.touches.self) refl))

pub returns-clause-touches : goal.returns-clause-touches
returns-clause-touches g c =
    let e = noted g c in
    subst (λ (p : PassState). Touches c.args.frame p.view (view_in c.return_seat.new.badge.views)) c.self.view_is (e.did.touches)

pub returns-clause-needed : goal.returns-clause-needed
returns-clause-needed g c =
    let e = noted g c in
    subst (λ (p : PassState). IfSome c.need_checkpoint-answer.result (λ _. Within (λ a b. (word : ℕ) × Did (pages kinds.need_checkpoint) c.args.frame a b word) p.view (view_in c.return_seat.new.badge.views))) c.self.view_is (e.did.needed)

pub returns-clause-noted : goal.returns-clause-noted
returns-clause-noted g c =
    let e = noted g c in
    subst (λ (p : PassState). IfSome c.need_checkpoint-answer.result (λ tag. NotesBlock c.args.frame tag p.view (view_in c.return_seat.new.badge.views))) c.self.view_is (e.did.noted)
