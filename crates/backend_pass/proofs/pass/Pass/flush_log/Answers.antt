use Rattle.std.proofs.Common.{◌≡◌, ◌∙◌, ℕ, false, refl, sym, ap, subst}
use Rattle.pin_core.specs.declared.view.View.{View}
use Rattle.buffer_frames.proofs.Keeping.{same_locks_linked}
use Rattle.backend_pass.specs.Managers.{Belongs}
use Rattle.backend_pass.specs.Passes.{IsNumbered, IsShown, PassState, view_in}
use Rattle.backend_pass.proofs.Counted.{counted_kept, told_of}
use Rattle.backend_pass.proofs.BlockReads.{numbered_kept, same_kept}
use Rattle.backend_pass.proofs.Releasing.{belongs_held}
use Rattle.backend_pass.proofs.Seated.{same_from}
use Rattle.buffer_frames.specs.Rests.{kept_by_calls}
use Rattle.backend_pass.specs.PassSyncs.{shown_log_flushed}
use Rattle.backend_pass.proofs.PassSyncing.{callers_from, callers_kept, shown_flush, counted_flushed}
use Rattle.buffer_frames.specs.Rests.{HasNoDevice}
use Rattle.pin_core.specs.declared.view.LogHold.{LogHold}
use Rattle.backend_pass.proofs.SeatWork.{log_flushed}
use Rattle.backend_pass.proofs.pass.Pass.flush_log.Goals as goal

pub flush_to-answer-requires-clause-seat : goal.flush_to-answer-requires-clause-seat
flush_to-answer-requires-clause-seat g c =
    record {
      fits = c.take_seat-seat.ensures.table ∙ ap (λ (p : PassState). p.table) c.self.view_is ∙ c.requires.belongs.table;
      live = (subst HasNoDevice c.take_seat-seat.ensures.view c.self.invariant.1.quiet).live;
    }

pub flush_to-answer-requires-clause-free : goal.flush_to-answer-requires-clause-free
flush_to-answer-requires-clause-free g c = subst (λ (v : View). v.log.held ≡ false) c.take_seat-seat.ensures.view (ap (λ (h : LogHold). h.held) c.self.invariant.1.quiet.log)

pub invariant_of-self : goal.invariant_of-self
invariant_of-self g c =
    let i = c.self.invariant in
    let e = log_flushed {L = g.row.L.Denot} {G = g.row.G.Denot} c.self.inside.held _ _ _ _ c.take_seat-seat.ensures c.flush_to-answer.ensures.seat c.return_seat.ensures c.self.invariant.1 c.args.lsn c.flush_to-answer.result record { work = c.flush_to-answer.ensures.work; rises = c.flush_to-answer.ensures.rises; flushed = c.flush_to-answer.ensures.flushed; view = c.flush_to-answer.ensures.view; left = c.flush_to-answer.ensures.left; did = c.flush_to-answer.ensures.did; seen = c.flush_to-answer.ensures.seen; cause = c.flush_to-answer.ensures.cause } in
    let v = (view_in c.self.inside.seat.views) in
    let w = (view_in c.return_seat.new.badge.views) in (
      e.badge.one,
      e.rests,
      subst (λ (id : ℕ). IsNumbered c.self.inside.number id w) (sym e.badge.id) (numbered_kept c.self.inside.number c.self.inside.seat.id v w (ap (λ (x : View). x.number) e.did.work) i.2),
      subst (IsShown w) (sym (c.new-self-inside.ensures ∙ c.after_log_flush-shown.ensures ∙ ap (shown_log_flushed c.flush_to-answer.result) c.deref.ensures)) (shown_flush c.args.lsn v w _ c.flush_to-answer.result e.did i.3),
      i.4,
      counted_kept _ _ _ _ (ap told_of e.did.work) i.5,
    )

pub returns-clause-belongs : goal.returns-clause-belongs
returns-clause-belongs g c =
    let e = log_flushed {L = g.row.L.Denot} {G = g.row.G.Denot} c.self.inside.held _ _ _ _ c.take_seat-seat.ensures c.flush_to-answer.ensures.seat c.return_seat.ensures c.self.invariant.1 c.args.lsn c.flush_to-answer.result record { work = c.flush_to-answer.ensures.work; rises = c.flush_to-answer.ensures.rises; flushed = c.flush_to-answer.ensures.flushed; view = c.flush_to-answer.ensures.view; left = c.flush_to-answer.ensures.left; did = c.flush_to-answer.ensures.did; seen = c.flush_to-answer.ensures.seen; cause = c.flush_to-answer.ensures.cause } in
    belongs_held {L = g.row.L.Denot} {G = g.row.G.Denot} g.L.BlockLane.contents c.args.manager.now _ _ e.badge.table refl (ap (λ (x : View). x.calls) e.did.work) (ap (λ (x : View). x.front) e.did.work) (e.did.rises.end_seen) (λ f h at. (h, at, refl))
    (subst (Belongs {L = g.row.L.Denot} {G = g.row.G.Denot} g.L.BlockLane.contents c.args.manager.now) (sym c.self.view_is) c.requires.belongs)

pub returns-clause-same : goal.returns-clause-same
returns-clause-same g c =
    let e = log_flushed {L = g.row.L.Denot} {G = g.row.G.Denot} c.self.inside.held _ _ _ _ c.take_seat-seat.ensures c.flush_to-answer.ensures.seat c.return_seat.ensures c.self.invariant.1 c.args.lsn c.flush_to-answer.result record { work = c.flush_to-answer.ensures.work; rises = c.flush_to-answer.ensures.rises; flushed = c.flush_to-answer.ensures.flushed; view = c.flush_to-answer.ensures.view; left = c.flush_to-answer.ensures.left; did = c.flush_to-answer.ensures.did; seen = c.flush_to-answer.ensures.seen; cause = c.flush_to-answer.ensures.cause } in same_from _ _ _ c.self.view_is (same_kept _ _ e.badge.table e.badge.id refl (ap kept_by_calls e.did.work) e.did.rises)

pub returns-clause-callers : goal.returns-clause-callers
returns-clause-callers g c =
    let e = log_flushed {L = g.row.L.Denot} {G = g.row.G.Denot} c.self.inside.held _ _ _ _ c.take_seat-seat.ensures c.flush_to-answer.ensures.seat c.return_seat.ensures c.self.invariant.1 c.args.lsn c.flush_to-answer.result record { work = c.flush_to-answer.ensures.work; rises = c.flush_to-answer.ensures.rises; flushed = c.flush_to-answer.ensures.flushed; view = c.flush_to-answer.ensures.view; left = c.flush_to-answer.ensures.left; did = c.flush_to-answer.ensures.did; seen = c.flush_to-answer.ensures.seen; cause = c.flush_to-answer.ensures.cause } in callers_from _ _ _ c.self.view_is (callers_kept _ _ e.badge.table e.badge.id refl refl refl (ap kept_by_calls e.did.work) e.did.rises (same_locks_linked (view_in c.self.inside.seat.views) (view_in c.return_seat.new.badge.views) (ap (λ (x : View). x.links) e.did.work)) (counted_flushed c.args.lsn _ _ c.flush_to-answer.result e.did refl))
