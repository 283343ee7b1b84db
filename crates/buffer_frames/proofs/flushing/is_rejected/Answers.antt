use Rattle.std.proofs.Common.{◌<◌, ◌≤◌, ℕ, Some, refl, ap, sym, subst, ◌∙◌}
use Rattle.std.proofs.lemmas.Bool.{OnFalse_at, OnFalse_from, OnTrue_at, OnTrue_from}
use Rattle.block_tag.specs.Names.{packed_tag}
use Rattle.pin_core.specs.declared.view.Io.TheVariants.{Quiet}
use Rattle.pin_core.specs.declared.view.View.{View}
use Rattle.pin_core.specs.State.{link}
use Rattle.buffer_frames.specs.Flushing.{RejectsVictim, covered, elsewhere, other_kind}
use Rattle.buffer_frames.proofs.flushing.is_rejected.Goals.{then-not-from_ring-via-then-not-from_ring}
use Rattle.buffer_frames.proofs.flushing.is_rejected.Goals.{then-not-from_ring-via-else-not-from_ring+then-ne}
use Rattle.buffer_frames.specs.Stages.{IsSharing}
use Rattle.buffer_frames.proofs.Answering.{not_bulk_read}
use Rattle.buffer_frames.proofs.Links.{may_copy, sharing_copied}
use Rattle.wal_flush.proofs.Listing.{flushed_lists}
use Rattle.wal_flush.proofs.Rising.{flushed_rises}
use Rattle.buffer_frames.proofs.WorkSteps.{made_none}
use Rattle.buffer_frames.proofs.Works.{and_changed, and_flushed, works_none}
use Rattle.buffer_frames.proofs.Written.{copied_then_loaded, loaded_work}
use Rattle.buffer_frames.proofs.flushing.is_rejected.Goals as goal

pub copy_out-requires-clause-view : goal.copy_out-requires-clause-view
copy_out-requires-clause-view g c = may_copy Quiet (packed_tag c.args._tag)
    (link c.args.seat.now.me.0 c.args.frame) c.requires.shares

pub returns-then-lsn-load_flushed-clause-works : goal.returns-then-lsn-load_flushed-clause-works
returns-then-lsn-load_flushed-clause-works g c = let o = c.copy_out.ensures in
    let l = c.load_flushed.ensures in let u = c.copy_out.new.seat.me.0 in
    let w = c.load_flushed.new.seat.me.0 in
    and_flushed (and_changed (works_none c.args.frame c.requires.stands) o.seat o.touches o.marks
    o.copied refl refl refl) l.seat (loaded_work c.load_flushed.result u w l.did)
    (flushed_rises c.load_flushed.result u w l.did) (flushed_lists c.args.frame
    c.load_flushed.result u w l.did)

pub returns-then-lsn-load_flushed-clause-shares : goal.returns-then-lsn-load_flushed-clause-shares
returns-then-lsn-load_flushed-clause-shares g c = let tag = packed_tag c.args._tag in
    subst (IsSharing Quiet tag) (sym (ap (λ (x : View). link x c.args.frame)
    c.load_flushed.ensures.view)) (sharing_copied Quiet tag c.copy_out.new.page
    (link c.args.seat.now.me.0 c.args.frame) (link c.copy_out.new.seat.me.0 c.args.frame)
    c.requires.shares c.copy_out.ensures.copied)

pub returns-then-lsn-load_flushed-clause-calls : goal.returns-then-lsn-load_flushed-clause-calls
returns-then-lsn-load_flushed-clause-calls g c = made_none c.args.seat.now.me.0
    c.load_flushed.new.seat.me.0 (ap (λ (x : View). x.device_calls) c.load_flushed.ensures.view
    ∙ ap (λ (x : View). x.device_calls) c.copy_out.ensures.touches.self)

pub returns-then-lsn-load_flushed-clause-met : goal.returns-then-lsn-load_flushed-clause-met
returns-then-lsn-load_flushed-clause-met g c = ap (λ (x : View). x.met) c.load_flushed.ensures.view
    ∙ ap (λ (x : View). x.met) c.copy_out.ensures.touches.self

pub returns-clause-works : goal.returns-clause-works
returns-clause-works g c = let o = c.copy_out.ensures in let l = c.load_flushed.ensures in
    let u = c.copy_out.new.seat.me.0 in let w = c.load_flushed.new.seat.me.0 in
    and_flushed (and_changed (works_none c.args.frame c.requires.stands) o.seat o.touches o.marks
    o.copied refl refl refl) l.seat (loaded_work c.load_flushed.result u w l.did)
    (flushed_rises c.load_flushed.result u w l.did) (flushed_lists c.args.frame
    c.load_flushed.result u w l.did)

pub returns-clause-shares : goal.returns-clause-shares
returns-clause-shares g c = let tag = packed_tag c.args._tag in
    subst (IsSharing Quiet tag) (sym (ap (λ (x : View). link x c.args.frame)
    c.load_flushed.ensures.view)) (sharing_copied Quiet tag c.copy_out.new.page
    (link c.args.seat.now.me.0 c.args.frame) (link c.copy_out.new.seat.me.0 c.args.frame)
    c.requires.shares c.copy_out.ensures.copied)

pub returns-clause-calls : goal.returns-clause-calls
returns-clause-calls g c = made_none c.args.seat.now.me.0 c.load_flushed.new.seat.me.0
    (ap (λ (x : View). x.device_calls) c.load_flushed.ensures.view
    ∙ ap (λ (x : View). x.device_calls) c.copy_out.ensures.touches.self)

pub returns-clause-met : goal.returns-clause-met
returns-clause-met g c = ap (λ (x : View). x.met) c.load_flushed.ensures.view
    ∙ ap (λ (x : View). x.met) c.copy_out.ensures.touches.self

pub returns-clause-rejected : goal.returns-clause-rejected
returns-clause-rejected g c = let both = copied_then_loaded c.args.frame c.copy_out.new.page
    c.load_flushed.result c.args.seat.now.me.0 c.copy_out.new.seat.me.0 c.load_flushed.new.seat.me.0
    c.copy_out.ensures.touches c.copy_out.ensures.did c.load_flushed.ensures.did in
    OnTrue_from c.reject.result (RejectsVictim c.args.frame c.args.from_ring c.args.ring.now
    (Some c.reject.new.self) c.args.seat.now.me.0 c.load_flushed.new.seat.me.0) (λ yes. record {
      came = c.if-not-from_ring.false;
      ring = c.in-Some.ring;
      was = c.in-Some.is;
      rejects = c.reject.ensures.answer.0 yes;
      empty = ap Some (OnTrue_at yes c.reject.ensures.rejected);
      page = c.copy_out.new.page;
      copies = both.0;
      flushed = c.load_flushed.result;
      loads = both.1;
      unflushed = subst (λ (n : ℕ). c.load_flushed.result < n) c.lsn.ensures
          c.if-lsn-load_flushed.false;
    })

pub returns-clause-ring : goal.returns-clause-ring
returns-clause-ring g c = OnFalse_from _ _ (λ no. ap Some (OnFalse_at no c.reject.ensures.retained)
    ∙ sym c.in-Some.is)

pub returns-then-lsn-load_flushed-clause-keeps : goal.returns-then-lsn-load_flushed-clause-keeps
returns-then-lsn-load_flushed-clause-keeps g c = let both = copied_then_loaded c.args.frame
    c.copy_out.new.page c.load_flushed.result c.args.seat.now.me.0 c.copy_out.new.seat.me.0
    c.load_flushed.new.seat.me.0 c.copy_out.ensures.touches c.copy_out.ensures.did
    c.load_flushed.ensures.did in covered c.copy_out.new.page c.load_flushed.result both.0 both.1
    (subst (λ (n : ℕ). n ≤ c.load_flushed.result) c.lsn.ensures c.if-lsn-load_flushed.true)

pub returns-then-not-from_ring-clause-keeps : goal.returns-then-not-from_ring-clause-keeps
returns-then-not-from_ring-clause-keeps g c = elim c.then-not-from_ring.branch [
  | then-not-from_ring-via-then-not-from_ring w ↦ elsewhere w.if-not-from_ring.true
  | then-not-from_ring-via-else-not-from_ring+then-ne w ↦ other_kind c.in-Some.ring c.in-Some.is
      (λ e. not_bulk_read w.kind.result w.ne.result w.ne.ensures w.if-ne.true (w.kind.ensures ∙ e))
]
