use Rattle.std.proofs.Common.{◌≡◌, ◌∙◌, ℕ, false, Some, None, refl, sym, subst, ap}
use Rattle.pin_core.specs.declared.view.Content.TheVariants.{Unlocked}
use Rattle.pin_core.specs.declared.view.View.{View}
use Rattle.pin_core.specs.State.{link}
use Rattle.pin_core.specs.Steps.{HoldsNoHeader}
use Rattle.block_tag.specs.Names.{packed_tag}
use Rattle.cleanup_lock.specs.Waking.{Woken}
use Rattle.cleanup_lock.proofs.Unpins.{woken_lists}
use Rattle.frame_table.specs.Seats.{MayUnpin}
use Rattle.frame_table.proofs.Rising.{rises_none}
use Rattle.buffer_frames.specs.Tokens.{Tokens, held_at, tokens_of}
use Rattle.buffer_frames.specs.Rests.{OnlyTokens, SameLocks}
use Rattle.buffer_frames.proofs.HeldLists.{above_one}
use Rattle.buffer_frames.proofs.Keeping.{same_locks_at, same_locks_none}
use Rattle.backend_pass.specs.Managers.{Belongs}
use Rattle.backend_pass.specs.Passes.{IsNumbered, PassState, view_in}
use Rattle.backend_pass.proofs.Counted.{counted_kept, told_of}
use Rattle.backend_pass.proofs.Releasing.{AreHeld, Unpins, belongs_held, belongs_touched, held_last, held_several, knows_tag, may_unpin, moved_at, numbered_self, rests_fewer, rests_unpinned, same_touched, saw_valid, shown_self, unpins_at}
use Rattle.backend_pass.proofs.BlockReads.{same_kept}
use Rattle.backend_pass.proofs.Seated.{same_from}
use Rattle.backend_pass.proofs.pass.Pass.release.Goals as goal

pub invariant_of-self : goal.invariant_of-self
invariant_of-self g c = let i = c.self.invariant in
    (i.0, subst (λ (t : Tokens). OnlyTokens t (view_in c.self.inside.seat.views)) (sym c.take_token.ensures.tokens) (rests_fewer c.args.pinned.frame c.self.inside.held _ (above_one _ c.in_default.ensures.others.0) i.1), i.2, i.3, i.4, i.5)

pub returns-in_default-clause-belongs : goal.returns-in_default-clause-belongs
returns-in_default-clause-belongs g c =
    belongs_held {L = g.row.L.Denot} {G = g.row.G.Denot} g.L.BlockLane.contents c.args.manager.now _ _ refl refl refl refl (rises_none (view_in c.self.inside.seat.views)).end_seen (subst (λ (t : Tokens). AreHeld c.self.inside.held t) (sym c.take_token.ensures.tokens) (held_several c.args.pinned.frame c.self.inside.held (above_one _ c.in_default.ensures.others.0)))
    (subst (Belongs {L = g.row.L.Denot} {G = g.row.G.Denot} g.L.BlockLane.contents c.args.manager.now) (sym c.self.view_is) c.requires.belongs)

pub unpin_and_wake-requires-clause-pinned : goal.unpin_and_wake-requires-clause-pinned
unpin_and_wake-requires-clause-pinned g c =
    let f = c.args.pinned.frame in
    let before = c.take_seat-seat.ensures.view in
    let last = c.in-Some.ensures.last in
    let there = subst (λ (p : PassState). held_at p.tokens f ≡ Some c.requires.pinned.held) (sym c.self.view_is) c.requires.pinned.there in
    let one = subst (λ (p : PassState). tokens_of (held_at p.tokens f) ≡ 1) c.self.view_is last.1 in
    let unlocked = subst (λ (p : PassState). (link p.view f).content ≡ Unlocked) (sym c.self.view_is) (c.requires.unlocked one) in
    subst (λ (h : ℕ). MayUnpin (link c.take_seat-seat.result.me.0 h)) (sym last.0) (subst (λ (v : View). MayUnpin (link v f)) before
    (may_unpin (held_at c.self.inside.held f) c.requires.pinned.held (link (view_in c.self.inside.seat.views) f) there unlocked (c.self.invariant.1.links f)))

pub invariant_of-self-2 : goal.invariant_of-self-2
invariant_of-self-2 g c =
    let f = c.args.pinned.frame in
    let i = c.self.invariant in
    let before = c.take_seat-seat.ensures.view in
    let after = c.return_seat.ensures.view in
    let last = c.in-Some.ensures.last in
    let u : Unpins f (view_in c.self.inside.seat.views) (view_in c.return_seat.new.badge.views) = unpins_at f c.in-Some.pin.frame _ _ _ _ last.0 before after record { touches = c.unpin_and_wake.ensures.touches; marks = c.unpin_and_wake.ensures.marks; unpinned = c.unpin_and_wake.ensures.unpinned } in
    let one = subst (λ (p : PassState). tokens_of (held_at p.tokens f) ≡ 1) c.self.view_is last.1 in
    let unlocked = subst (λ (p : PassState). (link p.view f).content ≡ Unlocked) (sym c.self.view_is) (c.requires.unlocked one) in
    let none = subst (λ (t : Tokens). held_at t f ≡ None) c.take_token.ensures.tokens last.2 in
    let same = sym c.return_seat.ensures.id ∙ c.unpin_and_wake.ensures.seat.id ∙ c.take_seat-seat.ensures.id in (
      c.return_seat.ensures.one,
      subst (λ (t : Tokens). OnlyTokens t (view_in c.return_seat.new.badge.views)) (sym c.take_token.ensures.tokens) (rests_unpinned f c.self.inside.held _ _ u unlocked none i.1),
      subst (λ (id : ℕ). IsNumbered c.self.inside.number id (view_in c.return_seat.new.badge.views)) (sym same) (numbered_self c.self.inside.number c.self.inside.seat.id _ _ u.touches.self i.2),
      shown_self _ _ _ u.touches.self i.3,
      i.4,
      counted_kept _ _ _ _ (ap told_of u.touches.self) i.5,
    )

pub returns-clause-belongs : goal.returns-clause-belongs
returns-clause-belongs g c =
    let f = c.args.pinned.frame in
    let before = c.take_seat-seat.ensures.view in
    let after = c.return_seat.ensures.view in
    let last = c.in-Some.ensures.last in
    let u : Unpins f (view_in c.self.inside.seat.views) (view_in c.return_seat.new.badge.views) = unpins_at f c.in-Some.pin.frame _ _ _ _ last.0 before after record { touches = c.unpin_and_wake.ensures.touches; marks = c.unpin_and_wake.ensures.marks; unpinned = c.unpin_and_wake.ensures.unpinned } in
    let none = subst (λ (t : Tokens). held_at t f ≡ None) c.take_token.ensures.tokens last.2 in
    let table = sym c.return_seat.ensures.table ∙ c.unpin_and_wake.ensures.seat.table ∙ c.take_seat-seat.ensures.table in
    belongs_touched {L = g.row.L.Denot} {G = g.row.G.Denot} g.L.BlockLane.contents c.args.manager.now _ _ f table refl u.touches (subst (λ (t : Tokens). AreHeld c.self.inside.held t) (sym c.take_token.ensures.tokens) (held_last f c.self.inside.held none))
    (subst (Belongs {L = g.row.L.Denot} {G = g.row.G.Denot} g.L.BlockLane.contents c.args.manager.now) (sym c.self.view_is) c.requires.belongs)

pub returns-clause-same : goal.returns-clause-same
returns-clause-same g c =
    let f = c.args.pinned.frame in
    let before = c.take_seat-seat.ensures.view in
    let after = c.return_seat.ensures.view in
    let u : Unpins f (view_in c.self.inside.seat.views) (view_in c.return_seat.new.badge.views) = unpins_at f c.in-Some.pin.frame _ _ _ _ c.in-Some.ensures.last.0 before after record { touches = c.unpin_and_wake.ensures.touches; marks = c.unpin_and_wake.ensures.marks; unpinned = c.unpin_and_wake.ensures.unpinned } in
    let table = sym c.return_seat.ensures.table ∙ c.unpin_and_wake.ensures.seat.table ∙ c.take_seat-seat.ensures.table in
    let id = sym c.return_seat.ensures.id ∙ c.unpin_and_wake.ensures.seat.id ∙ c.take_seat-seat.ensures.id in
    same_from _ _ _ c.self.view_is (same_touched _ _ f table id refl u.touches)

pub returns-clause-left : goal.returns-clause-left
returns-clause-left g c more = absurd (more (subst (λ (p : PassState). tokens_of (held_at p.tokens c.args.pinned.frame) ≡ 1) c.self.view_is c.in-Some.ensures.last.1))

pub returns-in_default-clause-locks : goal.returns-in_default-clause-locks
returns-in_default-clause-locks g c = subst (λ (p : PassState). SameLocks p.view (view_in c.self.inside.seat.views)) c.self.view_is (same_locks_none (view_in c.self.inside.seat.views))

pub returns-clause-locks : goal.returns-clause-locks
returns-clause-locks g c =
    let f = c.args.pinned.frame in
    let before = c.take_seat-seat.ensures.view in
    let after = c.return_seat.ensures.view in
    let u : Unpins f (view_in c.self.inside.seat.views) (view_in c.return_seat.new.badge.views) = unpins_at f c.in-Some.pin.frame _ _ _ _ c.in-Some.ensures.last.0 before after record { touches = c.unpin_and_wake.ensures.touches; marks = c.unpin_and_wake.ensures.marks; unpinned = c.unpin_and_wake.ensures.unpinned } in
    subst (λ (p : PassState). SameLocks p.view (view_in c.return_seat.new.badge.views)) c.self.view_is (same_locks_at f (view_in c.self.inside.seat.views) (view_in c.return_seat.new.badge.views) u.touches.others u.unpinned.content)

pub unpin_and_wake-requires-clause-headless : goal.unpin_and_wake-requires-clause-headless
unpin_and_wake-requires-clause-headless g c =
    let before = c.take_seat-seat.ensures.view in
    subst HoldsNoHeader before (λ f. (c.self.invariant.1.links f).calm.no_header)

pub unpin_and_wake-requires-clause-settled : goal.unpin_and_wake-requires-clause-settled
unpin_and_wake-requires-clause-settled g c =
    let before = c.take_seat-seat.ensures.view in
    subst (λ (v : View). (link v c.in-Some.pin.frame).pending ≡ false) before (c.self.invariant.1.links c.in-Some.pin.frame).calm.assigned

pub returns-in_default-clause-same : goal.returns-in_default-clause-same
returns-in_default-clause-same g c = same_from _ _ _ c.self.view_is (same_kept _ _ refl refl refl refl (rises_none (view_in c.self.inside.seat.views)))

pub returns-in_default-clause-resident : goal.returns-in_default-clause-resident
returns-in_default-clause-resident g c one = absurd (above_one _ c.in_default.ensures.others.0 (subst (λ (p : PassState). tokens_of (held_at p.tokens c.args.pinned.frame) ≡ 1) (sym c.self.view_is) one))

pub returns-clause-resident : goal.returns-clause-resident
returns-clause-resident g c one =
    let f = c.args.pinned.frame in
    let v = view_in c.self.inside.seat.views in
    let w = view_in c.return_seat.new.badge.views in
    let h = c.requires.pinned.held in
    let o = held_at c.self.inside.held f in
    let there = subst (λ (p : PassState). held_at p.tokens f ≡ Some h) (sym c.self.view_is) c.requires.pinned.there in
    let rests = c.self.invariant.1.links f in
    let woken = moved_at Woken f c.in-Some.pin.frame v w _ _ c.in-Some.ensures.last.0 c.take_seat-seat.ensures.view c.return_seat.ensures.view c.unpin_and_wake.ensures.did in
    woken_lists f (packed_tag c.args.pinned.tag) v w woken (saw_valid o h (link v f) there rests) (knows_tag o h (link v f) there rests ∙ ap Some c.requires.pinned.same)
