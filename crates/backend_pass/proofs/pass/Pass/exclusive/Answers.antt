use Rattle.std.proofs.Common.{◌≡◌, ◌∙◌, ℕ, Some, refl, sym, ap, subst}
use Rattle.buffer_frames.specs.Tokens.{held_at}
use Rattle.pin_core.specs.declared.view.Content.TheVariants.{Exclusive, Unlocked}
use Rattle.pin_core.specs.declared.view.Link.{Link}
use Rattle.pin_core.specs.declared.view.View.{View}
use Rattle.pin_core.specs.State.{link}
use Rattle.frame_table.specs.Content.{HoldsNoUnentered}
use Rattle.backend_pass.specs.Locks.{HasLock}
use Rattle.backend_pass.specs.Managers.{Belongs}
use Rattle.backend_pass.specs.Passes.{IsNumbered, PassState, view_in}
use Rattle.backend_pass.proofs.Counted.{counted_kept, told_of}
use Rattle.backend_pass.proofs.Releasing.{belongs_touched, numbered_self, same_touched, shown_self}
use Rattle.backend_pass.proofs.Relocking.{Relocks, beside_lock, changes_lock, held_same, rests_relocked, none_unentered_locked}
use Rattle.backend_pass.proofs.Seated.{moved, moved_one, same_from}
use Rattle.backend_pass.proofs.pass.Pass.exclusive.Given.{Over}
use Rattle.backend_pass.proofs.pass.Pass.exclusive.Goals as goal

-- what the call did
relocked : (g : Over) (c : goal.After-return_seat g) → Relocks c.args.pinned.frame (view_in c.self.inside.seat.views) (view_in c.return_seat.new.badge.views)
relocked g c = moved (Relocks c.args.pinned.frame) _ _ _ _ c.take_seat-seat.ensures.view c.return_seat.ensures.view record { touches = c.exclusive.ensures.touches; marks = c.exclusive.ensures.marks; beside = ap beside_lock c.exclusive.ensures.exclusive }

pub invariant_of-self : goal.invariant_of-self
invariant_of-self g c =
    let f = c.args.pinned.frame in
    let there = subst (λ (p : PassState). held_at p.tokens f ≡ Some c.requires.pinned.held) (sym c.self.view_is) c.requires.pinned.there in
    let k = relocked g c in
    let i = c.self.invariant in
    let same = sym c.return_seat.ensures.id ∙ c.exclusive.ensures.seat.id ∙ c.take_seat-seat.ensures.id in (
      c.return_seat.ensures.one,
      rests_relocked f c.requires.pinned.held c.self.inside.held _ _ there k i.1,
      subst (λ (id : ℕ). IsNumbered c.self.inside.number id (view_in c.return_seat.new.badge.views)) (sym same) (numbered_self c.self.inside.number c.self.inside.seat.id _ _ k.touches.self i.2),
      shown_self _ _ _ k.touches.self i.3,
      i.4,
      counted_kept _ _ _ _ (ap told_of k.touches.self) i.5,
    )

pub returns-clause-belongs : goal.returns-clause-belongs
returns-clause-belongs g c =
    let f = c.args.pinned.frame in
    let k = relocked g c in
    let table = sym c.return_seat.ensures.table ∙ c.exclusive.ensures.seat.table ∙ c.take_seat-seat.ensures.table in
    belongs_touched {L = g.row.L.Denot} {G = g.row.G.Denot} g.L.BlockLane.contents c.args.manager.now _ _ f table refl k.touches (held_same c.self.inside.held)
    (subst (Belongs {L = g.row.L.Denot} {G = g.row.G.Denot} g.L.BlockLane.contents c.args.manager.now) (sym c.self.view_is) c.requires.belongs)

pub returns-clause-same : goal.returns-clause-same
returns-clause-same g c =
    let f = c.args.pinned.frame in
    let k = relocked g c in
    let table = sym c.return_seat.ensures.table ∙ c.exclusive.ensures.seat.table ∙ c.take_seat-seat.ensures.table in
    let id = sym c.return_seat.ensures.id ∙ c.exclusive.ensures.seat.id ∙ c.take_seat-seat.ensures.id in
    same_from _ _ _ c.self.view_is (same_touched _ _ f table id refl k.touches)

pub returns-clause-lock : goal.returns-clause-lock
returns-clause-lock g c = changes_lock Exclusive c.args.pinned.frame _ _ _ c.self.view_is (relocked g c) (moved_one (λ (w : View). (link w c.args.pinned.frame).content ≡ Exclusive) _ _ c.return_seat.ensures.view (ap (λ (l : Link). l.content) c.exclusive.ensures.exclusive))

pub returns-clause-none_unentered : goal.returns-clause-none_unentered
returns-clause-none_unentered g c =
    let f = c.args.pinned.frame in
    let e = c.exclusive.ensures in
    let before = c.take_seat-seat.ensures.view in
    let none : (link c.take_seat-seat.result.me.0 f).content ≡ Unlocked =
    subst (λ (v : View). (link v f).content ≡ Unlocked) before
    (subst (λ (p : PassState). HasLock Unlocked f p) (sym c.self.view_is)
    c.requires.unlocked)
    in
    moved_one (λ (w : View). HoldsNoUnentered (link w f)) _ _ c.return_seat.ensures.view
    (none_unentered_locked f c.take_seat-seat.result.me.0 c.exclusive.new.seat.me.0 e.did none e.exclusive)
