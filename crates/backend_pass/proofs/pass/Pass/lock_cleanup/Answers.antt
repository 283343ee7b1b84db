use Rattle.std.proofs.Common.{◌≡◌, ◌≢◌, ◌∙◌, ℕ, Some, refl, sym, subst, ap}
use Rattle.pin_core.specs.declared.view.Content.TheVariants.{Unlocked}
use Rattle.pin_core.specs.State.{link}
use Rattle.frame_table.specs.Content.{HoldsNoUnentered}
use Rattle.buffer_frames.specs.Rests.{SameLocks}
use Rattle.buffer_frames.specs.Tokens.{IsPinnedFor, held_at}
use Rattle.buffer_frames.proofs.Keeping.{same_locks_at}
use Rattle.pin_core.specs.declared.view.View.{View}
use Rattle.backend_pass.specs.Locks.{HasLock}
use Rattle.backend_pass.specs.Managers.{Belongs}
use Rattle.backend_pass.specs.Passes.{IsNumbered, PassState, view_in}
use Rattle.backend_pass.proofs.Counted.{counted_kept, told_of}
use Rattle.backend_pass.proofs.Releasing.{belongs_touched, numbered_self, same_touched, shown_self}
use Rattle.backend_pass.proofs.CleanupLocks.{Cleans, cleans_tried, rests_cleaned, rests_tagged, none_unentered_cleaned}
use Rattle.backend_pass.proofs.Relocking.{held_same, kept_refused, kept_taken, lock_refused, lock_taken}
use Rattle.backend_pass.proofs.Seated.{moved, moved_one, same_from}
use Rattle.backend_pass.proofs.pass.Pass.lock_cleanup.Goals.{in-Ok, in-Err}
use Rattle.backend_pass.proofs.pass.Pass.lock_cleanup.Goals as goal

pub invariant_of-self : goal.invariant_of-self
invariant_of-self g c =
    let f = c.args.pinned.frame in
    let there = subst (λ (p : PassState). held_at p.tokens f ≡ Some c.requires.pinned.held) (sym c.self.view_is) c.requires.pinned.there in
    let before = c.take_seat-seat.ensures.view in
    let k : Cleans f (view_in c.self.inside.seat.views) (view_in c.return_seat.new.badge.views) = moved (Cleans f) _ _ _ _ before c.return_seat.ensures.view (cleans_tried f _ _ c.lock-answer.result c.lock-answer.ensures.touches c.lock-answer.ensures.marks c.lock-answer.ensures.locked c.lock-answer.ensures.left) in
    let i = c.self.invariant in
    let same = sym c.return_seat.ensures.id ∙ c.lock-answer.ensures.seat.id ∙ c.take_seat-seat.ensures.id in (
      c.return_seat.ensures.one,
      rests_cleaned f c.requires.pinned.held c.self.inside.held _ _ there k i.1,
      subst (λ (id : ℕ). IsNumbered c.self.inside.number id (view_in c.return_seat.new.badge.views)) (sym same) (numbered_self c.self.inside.number c.self.inside.seat.id _ _ k.touches.self i.2),
      shown_self _ _ _ k.touches.self i.3,
      i.4,
      counted_kept _ _ _ _ (ap told_of k.touches.self) i.5,
    )

pub returns-clause-belongs : goal.returns-clause-belongs
returns-clause-belongs g c =
    let f = c.args.pinned.frame in
    let before = c.take_seat-seat.ensures.view in
    let k : Cleans f (view_in c.self.inside.seat.views) (view_in c.return_seat.new.badge.views) = moved (Cleans f) _ _ _ _ before c.return_seat.ensures.view (cleans_tried f _ _ c.lock-answer.result c.lock-answer.ensures.touches c.lock-answer.ensures.marks c.lock-answer.ensures.locked c.lock-answer.ensures.left) in
    let table = sym c.return_seat.ensures.table ∙ c.lock-answer.ensures.seat.table ∙ c.take_seat-seat.ensures.table in
    belongs_touched {L = g.row.L.Denot} {G = g.row.G.Denot} g.L.BlockLane.contents c.args.manager.now _ _ f table refl k.touches (held_same c.self.inside.held)
    (subst (Belongs {L = g.row.L.Denot} {G = g.row.G.Denot} g.L.BlockLane.contents c.args.manager.now) (sym c.self.view_is) c.requires.belongs)

pub returns-clause-same : goal.returns-clause-same
returns-clause-same g c =
    let f = c.args.pinned.frame in
    let before = c.take_seat-seat.ensures.view in
    let k : Cleans f (view_in c.self.inside.seat.views) (view_in c.return_seat.new.badge.views) = moved (Cleans f) _ _ _ _ before c.return_seat.ensures.view (cleans_tried f _ _ c.lock-answer.result c.lock-answer.ensures.touches c.lock-answer.ensures.marks c.lock-answer.ensures.locked c.lock-answer.ensures.left) in
    let table = sym c.return_seat.ensures.table ∙ c.lock-answer.ensures.seat.table ∙ c.take_seat-seat.ensures.table in
    let id = sym c.return_seat.ensures.id ∙ c.lock-answer.ensures.seat.id ∙ c.take_seat-seat.ensures.id in
    same_from _ _ _ c.self.view_is (same_touched _ _ f table id refl k.touches)

pub returns-clause-tagged : goal.returns-clause-tagged
returns-clause-tagged g c =
    let f = c.args.pinned.frame in
    let pinned = subst (λ (p : PassState). IsPinnedFor c.args.pinned.tag f p.tokens) (sym c.self.view_is) c.requires.pinned in
    let before = c.take_seat-seat.ensures.view in
    let k : Cleans f (view_in c.self.inside.seat.views) (view_in c.return_seat.new.badge.views) = moved (Cleans f) _ _ _ _ before c.return_seat.ensures.view (cleans_tried f _ _ c.lock-answer.result c.lock-answer.ensures.touches c.lock-answer.ensures.marks c.lock-answer.ensures.locked c.lock-answer.ensures.left) in
    rests_tagged c.args.pinned.tag f c.self.inside.held _ pinned (rests_cleaned f pinned.held c.self.inside.held (view_in c.self.inside.seat.views) (view_in c.return_seat.new.badge.views) pinned.there k c.self.invariant.1)

pub returns-clause-kept : goal.returns-clause-kept
returns-clause-kept g c =
    let f = c.args.pinned.frame in
    let before = c.take_seat-seat.ensures.view in
    let others = moved (λ v w. (g : ℕ) → g ≢ f → link w g ≡ link v g) (view_in c.self.inside.seat.views) (view_in c.return_seat.new.badge.views) _ _ before c.return_seat.ensures.view c.lock-answer.ensures.touches.others in
    elim c.match-answer.branch [
      | in-Ok w ↦ kept_taken (SameLocks c.args.self.now.view (view_in c.return_seat.new.badge.views)) c.match-answer.result _ w.result-is
      | in-Err w ↦
          let here = moved (λ v w. (link w f).content ≡ (link v f).content) (view_in c.self.inside.seat.views) (view_in c.return_seat.new.badge.views) _ _ before c.return_seat.ensures.view w.in-Err.ensures.left.content in
          kept_refused (SameLocks c.args.self.now.view (view_in c.return_seat.new.badge.views)) c.match-answer.result _ w.result-is (subst (λ (p : PassState). SameLocks p.view (view_in c.return_seat.new.badge.views)) c.self.view_is (same_locks_at f (view_in c.self.inside.seat.views) (view_in c.return_seat.new.badge.views) others here))
    ]

pub returns-clause-none_unentered : goal.returns-clause-none_unentered
returns-clause-none_unentered g c =
    let f = c.args.pinned.frame in
    let none : (link c.take_seat-seat.result.me.0 f).content ≡ Unlocked =
    subst (λ (v : View). (link v f).content ≡ Unlocked) c.take_seat-seat.ensures.view
    (subst (λ (p : PassState). HasLock Unlocked f p) (sym c.self.view_is)
    c.requires.unlocked)
    in
    let NoneUnentered = HoldsNoUnentered (link (view_in c.return_seat.new.badge.views) f) in
    elim c.match-answer.branch [
      | in-Ok w ↦ lock_taken NoneUnentered c.match-answer.result _ w.result-is
          (moved_one (λ (v : View). HoldsNoUnentered (link v f)) _ _ c.return_seat.ensures.view
          (none_unentered_cleaned _ f c.take_seat-seat.result.me.0 c.lock-answer.new.seat.me.0
          w.in-Ok.ensures.granted none w.in-Ok.ensures.locked))
      | in-Err w ↦ lock_refused NoneUnentered c.match-answer.result _ w.result-is
    ]
