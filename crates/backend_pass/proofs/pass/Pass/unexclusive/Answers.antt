use Rattle.std.proofs.Common.{◌≡◌, ◌∙◌, ℕ, [], ◌∷◌, ◌++◌, Some, refl, sym, ap, subst}
use Rattle.block_tag.specs.Names.{packed_tag}
use Rattle.buffer_frames.specs.Tokens.{IsPinnedFor, held_at}
use Rattle.pin_core.specs.declared.view.Content.TheVariants.{Unlocked}
use Rattle.pin_core.specs.declared.view.Link.{Link}
use Rattle.pin_core.specs.declared.view.View.{View}
use Rattle.pin_core.specs.State.{link}
use Rattle.history_core.specs.Unentered.{HoldsUnentered}
use Rattle.frame_table.specs.Content.{HoldsNoUnentered}
use Rattle.backend_pass.specs.Managers.{Belongs}
use Rattle.backend_pass.specs.Passes.{IsNumbered, PassState, view_in}
use Rattle.backend_pass.proofs.Counted.{counted_kept, told_of}
use Rattle.backend_pass.proofs.CleanupLocks.{rests_tagged}
use Rattle.backend_pass.proofs.Relocking.{GivesUp, belongs_given_up, beside_lock, given_up_from, held_same, lock_given_up, noted_given_up, numbered_given_up, rests_given_up, same_given_up, shown_given_up}
use Rattle.backend_pass.proofs.Seated.{moved, moved_one}
use Rattle.backend_pass.proofs.pass.Pass.unexclusive.Given.{Over}
use Rattle.backend_pass.proofs.pass.Pass.unexclusive.Goals as goal

-- what the call did
relocked : (g : Over) (c : goal.After-return_seat g) → GivesUp c.args.exclusive.pinned.frame (view_in c.self.inside.seat.views) (view_in c.return_seat.new.badge.views)
relocked g c = moved (GivesUp c.args.exclusive.pinned.frame) _ _ _ _ c.take_seat-seat.ensures.view c.return_seat.ensures.view record { touches = c.unexclusive.ensures.touches; marks = c.unexclusive.ensures.marks; beside = ap beside_lock c.unexclusive.ensures.unexclusive }

pub invariant_of-self : goal.invariant_of-self
invariant_of-self g c =
    let f = c.args.exclusive.pinned.frame in
    let there = subst (λ (p : PassState). held_at p.tokens f ≡ Some c.requires.pinned.held) (sym c.self.view_is) c.requires.pinned.there in
    let k = relocked g c in
    let i = c.self.invariant in
    let same = sym c.return_seat.ensures.id ∙ c.unexclusive.ensures.seat.id ∙ c.take_seat-seat.ensures.id in (
      c.return_seat.ensures.one,
      rests_given_up f c.requires.pinned.held c.self.inside.held _ _ there k i.1,
      subst (λ (id : ℕ). IsNumbered c.self.inside.number id (view_in c.return_seat.new.badge.views)) (sym same) (numbered_given_up c.self.inside.number c.self.inside.seat.id f _ _ k i.2),
      shown_given_up f _ _ _ k i.3,
      i.4,
      counted_kept _ _ _ _ (ap told_of k.touches.self) i.5,
    )

pub returns-clause-belongs : goal.returns-clause-belongs
returns-clause-belongs g c =
    let f = c.args.exclusive.pinned.frame in
    let k = relocked g c in
    let table = sym c.return_seat.ensures.table ∙ c.unexclusive.ensures.seat.table ∙ c.take_seat-seat.ensures.table in
    belongs_given_up {L = g.row.L.Denot} {G = g.row.G.Denot} g.L.BlockLane.contents c.args.manager.now f _ _ table refl k (held_same c.self.inside.held)
    (subst (Belongs {L = g.row.L.Denot} {G = g.row.G.Denot} g.L.BlockLane.contents c.args.manager.now) (sym c.self.view_is) c.requires.belongs)

pub returns-clause-same : goal.returns-clause-same
returns-clause-same g c =
    let f = c.args.exclusive.pinned.frame in
    let k = relocked g c in
    let table = sym c.return_seat.ensures.table ∙ c.unexclusive.ensures.seat.table ∙ c.take_seat-seat.ensures.table in
    let id = sym c.return_seat.ensures.id ∙ c.unexclusive.ensures.seat.id ∙ c.take_seat-seat.ensures.id in
    given_up_from _ _ _ c.self.view_is (same_given_up f _ _ table id refl k)

pub returns-clause-lock : goal.returns-clause-lock
returns-clause-lock g c = lock_given_up c.args.exclusive.pinned.frame _ _ _ c.self.view_is (relocked g c) (moved_one (λ (w : View). (link w c.args.exclusive.pinned.frame).content ≡ Unlocked) _ _ c.return_seat.ensures.view (ap (λ (l : Link). l.content) c.unexclusive.ensures.unexclusive))

pub returns-clause-noted : goal.returns-clause-noted
returns-clause-noted g c =
    let f = c.args.exclusive.pinned.frame in
    let tag = c.args.exclusive.pinned.tag in
    let did = c.unexclusive.ensures.did in
    let pinned : IsPinnedFor tag f c.self.inside.held =
    subst (λ (p : PassState). IsPinnedFor tag f p.tokens) (sym c.self.view_is) c.requires.pinned in
    let tagged : (link c.take_seat-seat.result.me.0 f).tag ≡ Some (packed_tag tag) =
    subst (λ (v : View). (link v f).tag ≡ Some (packed_tag tag)) c.take_seat-seat.ensures.view
    (rests_tagged tag f c.self.inside.held _ pinned c.self.invariant.1) in
    subst (λ (p : PassState). HoldsUnentered (link p.view f)
    → (view_in c.return_seat.new.badge.views).unentered ≡ p.view.unentered ++ packed_tag tag ∷ [])
    c.self.view_is
    (moved (λ v w. HoldsUnentered (link v f) → w.unentered ≡ v.unentered ++ packed_tag tag ∷ [])
    _ _ _ _ c.take_seat-seat.ensures.view c.return_seat.ensures.view
    (noted_given_up f did.0 (packed_tag tag) c.take_seat-seat.result.me.0
    c.unexclusive.new.seat.me.0 did.1 tagged))

pub returns-clause-unentered : goal.returns-clause-unentered
returns-clause-unentered g c =
    let f = c.args.exclusive.pinned.frame in
    subst (λ (p : PassState). HoldsNoUnentered (link p.view f)
    → (view_in c.return_seat.new.badge.views).unentered ≡ p.view.unentered) c.self.view_is
    (moved (λ v w. HoldsNoUnentered (link v f) → w.unentered ≡ v.unentered) _ _ _ _
    c.take_seat-seat.ensures.view c.return_seat.ensures.view c.unexclusive.ensures.unnoted)
