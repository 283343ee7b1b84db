use Rattle.std.proofs.Common.{◌≡◌, ◌≢◌, ◌∙◌, ℕ, Some, refl, sym, ap, subst}
use Rattle.block_tag.specs.Names.{packed_tag}
use Rattle.crossbeam_utils.specs.Padded.{padded_value}
use Rattle.pin_core.specs.declared.view.Content.TheVariants.{Unlocked}
use Rattle.pin_core.specs.declared.view.Link.{Link}
use Rattle.pin_core.specs.declared.view.View.{View}
use Rattle.pin_core.specs.State.{link}
use Rattle.frame_table.specs.Content.{CanLock}
use Rattle.buffer_frames.specs.Rests.{HasAtMostLock}
use Rattle.buffer_frames.specs.Tokens.{IsPinnedFor, held_at}
use Rattle.buffer_frames.proofs.Keeping.{same_locks_at}
use Rattle.backend_pass.specs.Managers.{Belongs}
use Rattle.buffer_frames.specs.PageReads.{OnlyReads, ReadsPage, SharesToRead}
use Rattle.backend_pass.specs.Passes.{IsNumbered, PassState, view_in}
use Rattle.backend_pass.proofs.Counted.{counted_kept, told_of}
use Rattle.backend_pass.proofs.PassReading.{belongs_read, numbered_read, rests_read, same_read, shown_read, tag_pinned}
use Rattle.backend_pass.proofs.Relocking.{beside_lock, can_lock}
use Rattle.backend_pass.proofs.Seated.{moved, moved_one, same_from}
use Rattle.backend_pass.proofs.pass.Pass.read_page.Goals as goal

pub share_to_read-place-requires-clause-lock : goal.share_to_read-place-requires-clause-lock
share_to_read-place-requires-clause-lock g c =
    let f = c.args.pinned.now.frame in
    let there = subst (λ (p : PassState). held_at p.tokens f ≡ Some c.requires.pinned.held) (sym c.self.view_is) c.requires.pinned.there in
    let before = c.take_seat-seat.ensures.view in
    let right = subst (λ (p : PassState). (link p.view f).content ≡ Unlocked) (sym c.self.view_is) c.requires.unlocked in
    subst (λ (v : View). CanLock (link v f)) before (can_lock (held_at c.self.inside.held f) c.requires.pinned.held (link (view_in c.self.inside.seat.views) f) there right (c.self.invariant.1.links f))

pub share_to_read-place-requires-clause-calm : goal.share_to_read-place-requires-clause-calm
share_to_read-place-requires-clause-calm g c =
    let f = c.args.pinned.now.frame in
    let before = c.take_seat-seat.ensures.view in
    subst (λ (v : View). HasAtMostLock (link v f)) before (c.self.invariant.1.links f).calm

pub share_to_read-place-requires-clause-tag : goal.share_to_read-place-requires-clause-tag
share_to_read-place-requires-clause-tag g c =
    let f = c.args.pinned.now.frame in
    let before = c.take_seat-seat.ensures.view in
    let pinned = subst (λ (p : PassState). IsPinnedFor c.args.pinned.now.tag f p.tokens) (sym c.self.view_is) c.requires.pinned in
    subst (λ (v : View). (link v f).tag ≡ Some (packed_tag c.args.pinned.now.tag)) before (tag_pinned c.self.inside.held (view_in c.self.inside.seat.views) c.args.pinned.now.tag f pinned (c.self.invariant.1.links f))

pub invariant_of-self : goal.invariant_of-self
invariant_of-self g c =
    let f = c.args.pinned.now.frame in
    let there = subst (λ (p : PassState). held_at p.tokens f ≡ Some c.requires.pinned.held) (sym c.self.view_is) c.requires.pinned.there in
    let before = c.take_seat-seat.ensures.view in
    let after = c.return_seat.ensures.view in
    let only : OnlyReads (view_in c.self.inside.seat.views) (view_in c.return_seat.new.badge.views) = moved OnlyReads _ _ _ _ before after c.share_to_read-place.ensures.only in
    let others : (g : ℕ) → g ≢ f → link (view_in c.return_seat.new.badge.views) g ≡ link (view_in c.self.inside.seat.views) g = moved (λ v w. (g : ℕ) → g ≢ f → link w g ≡ link v g) (view_in c.self.inside.seat.views) (view_in c.return_seat.new.badge.views) _ _ before after c.share_to_read-place.ensures.others in
    let here = moved (λ v w. beside_lock (link w f) ≡ beside_lock (link v f)) (view_in c.self.inside.seat.views) (view_in c.return_seat.new.badge.views) _ _ before after (ap beside_lock c.share_to_read-place.ensures.link) in
    let i = c.self.invariant in
    let same = sym c.return_seat.ensures.id ∙ c.share_to_read-place.ensures.seat.id ∙ c.take_seat-seat.ensures.id in
    let front = moved_one (λ w. w.front ≡ c.share_to_read-place.result) (view_in c.return_seat.new.badge.views) _ after c.share_to_read-place.ensures.reads.front in (
      c.return_seat.ensures.one,
      rests_read f c.requires.pinned.held c.self.inside.held _ _ there only others here i.1,
      subst (λ (id : ℕ). IsNumbered c.self.inside.number id (view_in c.return_seat.new.badge.views)) (sym same) (numbered_read c.self.inside.number c.self.inside.seat.id _ _ only i.2),
      shown_read _ _ (padded_value c.self.inside.shown) c.deref.result.now _ c.share_to_read-place.result only front c.deref.ensures c.new-self-inside.ensures i.3,
      i.4,
      counted_kept _ _ _ _ (ap told_of only.kept) i.5,
    )

pub returns-clause-belongs : goal.returns-clause-belongs
returns-clause-belongs g c =
    let before = c.take_seat-seat.ensures.view in
    let after = c.return_seat.ensures.view in
    let reads = moved (ReadsPage {L = g.row.L.Denot} {G = g.row.G.Denot} g.L.BlockLane.contents c.args.manager.now.table c.args.pinned.now.tag c.share_to_read-place.new.page c.share_to_read-place.result) (view_in c.self.inside.seat.views) (view_in c.return_seat.new.badge.views) _ _ before after c.share_to_read-place.ensures.reads in
    let table = sym c.return_seat.ensures.table ∙ c.share_to_read-place.ensures.seat.table ∙ c.take_seat-seat.ensures.table in
    let only : OnlyReads (view_in c.self.inside.seat.views) (view_in c.return_seat.new.badge.views) = moved OnlyReads _ _ _ _ before after c.share_to_read-place.ensures.only in
    belongs_read {L = g.row.L.Denot} {G = g.row.G.Denot} g.L.BlockLane.contents c.args.manager.now c.args.pinned.now.tag c.share_to_read-place.new.page c.share_to_read-place.result _ _ table refl refl reads only.rises.end_seen
    (subst (Belongs {L = g.row.L.Denot} {G = g.row.G.Denot} g.L.BlockLane.contents c.args.manager.now) (sym c.self.view_is) c.requires.belongs)

pub returns-clause-same : goal.returns-clause-same
returns-clause-same g c =
    let before = c.take_seat-seat.ensures.view in
    let after = c.return_seat.ensures.view in
    let only : OnlyReads (view_in c.self.inside.seat.views) (view_in c.return_seat.new.badge.views) = moved OnlyReads _ _ _ _ before after c.share_to_read-place.ensures.only in
    let table = sym c.return_seat.ensures.table ∙ c.share_to_read-place.ensures.seat.table ∙ c.take_seat-seat.ensures.table in
    let id = sym c.return_seat.ensures.id ∙ c.share_to_read-place.ensures.seat.id ∙ c.take_seat-seat.ensures.id in
    same_from _ _ _ c.self.view_is (same_read _ _ table id refl only)

pub returns-clause-locks : goal.returns-clause-locks
returns-clause-locks g c =
    let f = c.args.pinned.now.frame in
    let before = c.take_seat-seat.ensures.view in
    let after = c.return_seat.ensures.view in
    let others : (g : ℕ) → g ≢ f → link (view_in c.return_seat.new.badge.views) g ≡ link (view_in c.self.inside.seat.views) g = moved (λ v w. (g : ℕ) → g ≢ f → link w g ≡ link v g) (view_in c.self.inside.seat.views) (view_in c.return_seat.new.badge.views) _ _ before after c.share_to_read-place.ensures.others in
    let right = subst (λ (p : PassState). (link p.view f).content ≡ Unlocked) (sym c.self.view_is) c.requires.unlocked in
    let here = moved_one (λ w. (link w f).content ≡ Unlocked) (view_in c.return_seat.new.badge.views) _ after (ap (λ (l : Link). l.content) c.share_to_read-place.ensures.link) ∙ sym right in
    subst (λ (p : PassState). (g : ℕ) → (link (view_in c.return_seat.new.badge.views) g).content ≡ (link p.view g).content) c.self.view_is (same_locks_at f (view_in c.self.inside.seat.views) (view_in c.return_seat.new.badge.views) others here)

pub returns-clause-others : goal.returns-clause-others
returns-clause-others g c =
    let f = c.args.pinned.now.frame in
    let before = c.take_seat-seat.ensures.view in
    let after = c.return_seat.ensures.view in
    let others : (g : ℕ) → g ≢ f → link (view_in c.return_seat.new.badge.views) g ≡ link (view_in c.self.inside.seat.views) g = moved (λ v w. (g : ℕ) → g ≢ f → link w g ≡ link v g) (view_in c.self.inside.seat.views) (view_in c.return_seat.new.badge.views) _ _ before after c.share_to_read-place.ensures.others in
    subst (λ (p : PassState). (g : ℕ) → g ≢ f → link (view_in c.return_seat.new.badge.views) g ≡ link p.view g) c.self.view_is others

pub returns-clause-reads : goal.returns-clause-reads
returns-clause-reads g c =
    let before = c.take_seat-seat.ensures.view in
    let after = c.return_seat.ensures.view in
    subst (λ (p : PassState). ReadsPage {L = g.row.L.Denot} {G = g.row.G.Denot} g.L.BlockLane.contents c.args.manager.now.table c.args.pinned.now.tag c.share_to_read-place.new.page c.share_to_read-place.result p.view (view_in c.return_seat.new.badge.views)) c.self.view_is
    (moved (ReadsPage {L = g.row.L.Denot} {G = g.row.G.Denot} g.L.BlockLane.contents c.args.manager.now.table c.args.pinned.now.tag c.share_to_read-place.new.page c.share_to_read-place.result) (view_in c.self.inside.seat.views) (view_in c.return_seat.new.badge.views) _ _ before after c.share_to_read-place.ensures.reads)

pub returns-clause-did : goal.returns-clause-did
returns-clause-did g c =
    let f = c.args.pinned.now.frame in
    let before = c.take_seat-seat.ensures.view in
    let after = c.return_seat.ensures.view in
    subst (λ (p : PassState). SharesToRead f c.share_to_read-place.new.page c.share_to_read-place.result p.view (view_in c.return_seat.new.badge.views)) c.self.view_is (moved (SharesToRead f c.share_to_read-place.new.page c.share_to_read-place.result) (view_in c.self.inside.seat.views) (view_in c.return_seat.new.badge.views) _ _ before after c.share_to_read-place.ensures.did)
