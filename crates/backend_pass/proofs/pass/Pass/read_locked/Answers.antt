use Rattle.std.proofs.Common.{◌≡◌, ◌≢◌, ◌∙◌, ℕ, Some, refl, sym, ap, subst}
use Rattle.block_tag.specs.Names.{packed_tag}
use Rattle.crossbeam_utils.specs.Padded.{padded_value}
use Rattle.pin_core.specs.declared.view.Content.TheVariants.{Unlocked}
use Rattle.pin_core.specs.declared.view.Link.{Link}
use Rattle.pin_core.specs.declared.view.View.{View}
use Rattle.pin_core.specs.State.{link}
use Rattle.frame_table.specs.Content.{HoldsNoUnentered}
use Rattle.content_locks.specs.Locks.{CanCopy}
use Rattle.buffer_frames.specs.Tokens.{IsPinnedFor, held_at}
use Rattle.buffer_frames.proofs.Keeping.{same_locks_at}
use Rattle.backend_pass.specs.Managers.{Belongs}
use Rattle.buffer_frames.specs.PageReads.{OnlyReads, ReadsPage, ReadsUnder}
use Rattle.backend_pass.specs.Passes.{IsNumbered, PassState, view_in}
use Rattle.buffer_frames.proofs.PageReading.{can_copy_locked}
use Rattle.backend_pass.proofs.Counted.{counted_kept, told_of}
use Rattle.backend_pass.proofs.PassReading.{belongs_read, numbered_read, rests_read, same_read, shown_read, tag_pinned}
use Rattle.backend_pass.proofs.Relocking.{beside_lock, none_unentered_still}
use Rattle.backend_pass.proofs.Seated.{moved, moved_one, same_from}
use Rattle.backend_pass.proofs.pass.Pass.read_locked.Goals as goal

pub read_copy-place-requires-clause-copy : goal.read_copy-place-requires-clause-copy
read_copy-place-requires-clause-copy g c =
    let f = c.args.pinned.now.frame in
    let before = c.take_seat-seat.ensures.view in
    let right = subst (λ (p : PassState). (link p.view f).content ≢ Unlocked) (sym c.self.view_is) c.requires.locked in
    subst (λ (v : View). CanCopy (link v f)) before (can_copy_locked (held_at c.self.inside.held f) (link (view_in c.self.inside.seat.views) f) right (c.self.invariant.1.links f))

pub read_copy-place-requires-clause-tag : goal.read_copy-place-requires-clause-tag
read_copy-place-requires-clause-tag g c =
    let f = c.args.pinned.now.frame in
    let before = c.take_seat-seat.ensures.view in
    let pinned = subst (λ (p : PassState). IsPinnedFor c.args.pinned.now.tag f p.tokens) (sym c.self.view_is) c.requires.pinned in
    subst (λ (v : View). (link v f).tag ≡ Some (packed_tag c.args.pinned.now.tag)) before (tag_pinned c.self.inside.held (view_in c.self.inside.seat.views) c.args.pinned.now.tag f pinned (c.self.invariant.1.links f))

pub invariant_of-self : goal.invariant_of-self
invariant_of-self g c =
    let f = c.args.pinned.now.frame in
    let there = subst (λ (p : PassState). held_at p.tokens f ≡ Some c.requires.pinned.held) (sym c.self.view_is) c.requires.pinned.there in
    let before = c.take_seat-seat.ensures.view in
    let after = c.return_seat.ensures.view in
    let only : OnlyReads (view_in c.self.inside.seat.views) (view_in c.return_seat.new.badge.views) = moved OnlyReads _ _ _ _ before after c.read_copy-place.ensures.only in
    let others : (g : ℕ) → g ≢ f → link (view_in c.return_seat.new.badge.views) g ≡ link (view_in c.self.inside.seat.views) g = moved (λ v w. (g : ℕ) → g ≢ f → link w g ≡ link v g) (view_in c.self.inside.seat.views) (view_in c.return_seat.new.badge.views) _ _ before after c.read_copy-place.ensures.others in
    let here = moved (λ v w. beside_lock (link w f) ≡ beside_lock (link v f)) (view_in c.self.inside.seat.views) (view_in c.return_seat.new.badge.views) _ _ before after (ap beside_lock c.read_copy-place.ensures.link) in
    let i = c.self.invariant in
    let same = sym c.return_seat.ensures.id ∙ c.read_copy-place.ensures.seat.id ∙ c.take_seat-seat.ensures.id in
    let front = moved_one (λ w. w.front ≡ c.read_copy-place.result) (view_in c.return_seat.new.badge.views) _ after c.read_copy-place.ensures.reads.front in (
      c.return_seat.ensures.one,
      rests_read f c.requires.pinned.held c.self.inside.held _ _ there only others here i.1,
      subst (λ (id : ℕ). IsNumbered c.self.inside.number id (view_in c.return_seat.new.badge.views)) (sym same) (numbered_read c.self.inside.number c.self.inside.seat.id _ _ only i.2),
      shown_read _ _ (padded_value c.self.inside.shown) c.deref.result.now _ c.read_copy-place.result only front c.deref.ensures c.new-self-inside.ensures i.3,
      i.4,
      counted_kept _ _ _ _ (ap told_of only.kept) i.5,
    )

pub returns-clause-belongs : goal.returns-clause-belongs
returns-clause-belongs g c =
    let before = c.take_seat-seat.ensures.view in
    let after = c.return_seat.ensures.view in
    let reads = moved (ReadsPage {L = g.row.L.Denot} {G = g.row.G.Denot} g.L.BlockLane.contents c.args.manager.now.table c.args.pinned.now.tag c.read_copy-place.new.page c.read_copy-place.result) (view_in c.self.inside.seat.views) (view_in c.return_seat.new.badge.views) _ _ before after c.read_copy-place.ensures.reads in
    let table = sym c.return_seat.ensures.table ∙ c.read_copy-place.ensures.seat.table ∙ c.take_seat-seat.ensures.table in
    let only : OnlyReads (view_in c.self.inside.seat.views) (view_in c.return_seat.new.badge.views) = moved OnlyReads _ _ _ _ before after c.read_copy-place.ensures.only in
    belongs_read {L = g.row.L.Denot} {G = g.row.G.Denot} g.L.BlockLane.contents c.args.manager.now c.args.pinned.now.tag c.read_copy-place.new.page c.read_copy-place.result _ _ table refl refl reads only.rises.end_seen
    (subst (Belongs {L = g.row.L.Denot} {G = g.row.G.Denot} g.L.BlockLane.contents c.args.manager.now) (sym c.self.view_is) c.requires.belongs)

pub returns-clause-same : goal.returns-clause-same
returns-clause-same g c =
    let before = c.take_seat-seat.ensures.view in
    let after = c.return_seat.ensures.view in
    let only : OnlyReads (view_in c.self.inside.seat.views) (view_in c.return_seat.new.badge.views) = moved OnlyReads _ _ _ _ before after c.read_copy-place.ensures.only in
    let table = sym c.return_seat.ensures.table ∙ c.read_copy-place.ensures.seat.table ∙ c.take_seat-seat.ensures.table in
    let id = sym c.return_seat.ensures.id ∙ c.read_copy-place.ensures.seat.id ∙ c.take_seat-seat.ensures.id in
    same_from _ _ _ c.self.view_is (same_read _ _ table id refl only)

pub returns-clause-locks : goal.returns-clause-locks
returns-clause-locks g c =
    let f = c.args.pinned.now.frame in
    let before = c.take_seat-seat.ensures.view in
    let after = c.return_seat.ensures.view in
    let others : (g : ℕ) → g ≢ f → link (view_in c.return_seat.new.badge.views) g ≡ link (view_in c.self.inside.seat.views) g = moved (λ v w. (g : ℕ) → g ≢ f → link w g ≡ link v g) (view_in c.self.inside.seat.views) (view_in c.return_seat.new.badge.views) _ _ before after c.read_copy-place.ensures.others in
    let here = moved (λ v w. (link w f).content ≡ (link v f).content) (view_in c.self.inside.seat.views) (view_in c.return_seat.new.badge.views) _ _ before after (ap (λ (l : Link). l.content) c.read_copy-place.ensures.link) in
    subst (λ (p : PassState). (g : ℕ) → (link (view_in c.return_seat.new.badge.views) g).content ≡ (link p.view g).content) c.self.view_is (same_locks_at f (view_in c.self.inside.seat.views) (view_in c.return_seat.new.badge.views) others here)

pub returns-clause-others : goal.returns-clause-others
returns-clause-others g c =
    let f = c.args.pinned.now.frame in
    let before = c.take_seat-seat.ensures.view in
    let after = c.return_seat.ensures.view in
    let others : (g : ℕ) → g ≢ f → link (view_in c.return_seat.new.badge.views) g ≡ link (view_in c.self.inside.seat.views) g = moved (λ v w. (g : ℕ) → g ≢ f → link w g ≡ link v g) (view_in c.self.inside.seat.views) (view_in c.return_seat.new.badge.views) _ _ before after c.read_copy-place.ensures.others in
    subst (λ (p : PassState). (g : ℕ) → g ≢ f → link (view_in c.return_seat.new.badge.views) g ≡ link p.view g) c.self.view_is others

pub returns-clause-reads : goal.returns-clause-reads
returns-clause-reads g c =
    let before = c.take_seat-seat.ensures.view in
    let after = c.return_seat.ensures.view in
    subst (λ (p : PassState). ReadsPage {L = g.row.L.Denot} {G = g.row.G.Denot} g.L.BlockLane.contents c.args.manager.now.table c.args.pinned.now.tag c.read_copy-place.new.page c.read_copy-place.result p.view (view_in c.return_seat.new.badge.views)) c.self.view_is
    (moved (ReadsPage {L = g.row.L.Denot} {G = g.row.G.Denot} g.L.BlockLane.contents c.args.manager.now.table c.args.pinned.now.tag c.read_copy-place.new.page c.read_copy-place.result) (view_in c.self.inside.seat.views) (view_in c.return_seat.new.badge.views) _ _ before after c.read_copy-place.ensures.reads)

pub returns-clause-did : goal.returns-clause-did
returns-clause-did g c =
    let f = c.args.pinned.now.frame in
    let before = c.take_seat-seat.ensures.view in
    let after = c.return_seat.ensures.view in
    subst (λ (p : PassState). ReadsUnder (link p.view f).content f c.read_copy-place.new.page c.read_copy-place.result p.view (view_in c.return_seat.new.badge.views)) c.self.view_is (moved (λ v w. ReadsUnder (link v f).content f c.read_copy-place.new.page c.read_copy-place.result v w) (view_in c.self.inside.seat.views) (view_in c.return_seat.new.badge.views) _ _ before after c.read_copy-place.ensures.did)

pub returns-clause-none_unentered : goal.returns-clause-none_unentered
returns-clause-none_unentered g c =
    let f = c.args.pinned.now.frame in
    let e = c.read_copy-place.ensures.link in
    subst (λ (p : PassState). HoldsNoUnentered (link p.view f)
    → HoldsNoUnentered (link (view_in c.return_seat.new.badge.views) f)) c.self.view_is
    (moved (λ v w. HoldsNoUnentered (link v f) → HoldsNoUnentered (link w f)) _ _ _ _
    c.take_seat-seat.ensures.view c.return_seat.ensures.view
    (none_unentered_still (link c.take_seat-seat.result.me.0 f) (link c.read_copy-place.new.seat.me.0 f)
    (ap (λ (l : Link). l.content) e) (ap (λ (l : Link). l.dirtied) e)
    (ap (λ (l : Link). l.entered) e)))
