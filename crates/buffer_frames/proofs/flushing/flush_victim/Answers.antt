use Rattle.std.proofs.Common.{Ok, Err, refl, ap, subst, sym, ◌∙◌}
use Rattle.block_tag.specs.Names.{lane_number, packed_tag}
use Rattle.state_word.specs.Fields.{fields}
use Rattle.pin_core.specs.declared.view.View.{View}
use Rattle.pin_core.specs.State.{link}
use Rattle.frame_table.specs.Seats.{lanes_in}
use Rattle.frame_table.proofs.Told.{looked_same}
use Rattle.frame_table.proofs.Rising.{rises_none, rises_touched}
use Rattle.buffer_frames.proofs.Keeping.{beside_kept}
use Rattle.buffer_frames.specs.declared.flushing.FlushedPage.TheVariants.{Written}
use Rattle.buffer_frames.specs.Flushing.{FreesVictim, clean, flushed, locked, rejected}
use Rattle.buffer_frames.specs.Flushing.{met_refused}
use Rattle.buffer_frames.proofs.Answering.{error_between, flush_makes_flush_calls, none_made}
use Rattle.buffer_frames.proofs.Answering.{flush_calls_after, rejects_between, same_page}
use Rattle.buffer_frames.proofs.Answering.{shares_dirty, victim_pinned, victim_sees, victim_worked}
use Rattle.buffer_frames.proofs.Links.{may_drop, pinned_looked, pinned_unshared, sharing_taken}
use Rattle.buffer_frames.specs.Stages.{IsPinned}
use Rattle.buffer_frames.proofs.WorkSteps.{made_none, made_same}
use Rattle.buffer_frames.proofs.Works.{and_changed, and_looked, works_none, works_then}
use Rattle.buffer_frames.proofs.flushing.flush_victim.Goals as goal

pub returns-then-not-has-clause-works : goal.returns-then-not-has-clause-works
returns-then-not-has-clause-works g c = let k = c.look.ensures in and_looked
    (works_none c.args.frame c.requires.stands) k.seat k.touches k.marks k.link

pub returns-then-not-has-clause-victim : goal.returns-then-not-has-clause-victim
returns-then-not-has-clause-victim g c = let k = c.look.ensures in
    victim_worked (packed_tag c.args.tag) c.args.frame c.args.held.now c.requires.victim
    (returns-then-not-has-clause-works g c) (pinned_looked (packed_tag c.args.tag)
    (link c.args.seat.now.me.0 c.args.frame) (link c.look.new.seat.me.0 c.args.frame) k.link
    (victim_pinned (packed_tag c.args.tag) c.args.frame c.args.held.now c.args.seat.now.me.0
    c.requires.victim))

pub returns-then-not-has-clause-answer : goal.returns-then-not-has-clause-answer
returns-then-not-has-clause-answer g c = (
  refl,
  clean c.look.result c.look.ensures.did
      (sym c.has.ensures ∙ c.if-not-has.true) (made_none c.args.seat.now.me.0
      c.look.new.seat.me.0 (ap (λ (x : View). x.device_calls) c.look.ensures.touches.self)),
)

pub returns-then-not-has-clause-calls : goal.returns-then-not-has-clause-calls
returns-then-not-has-clause-calls g c = none_made c.args.seat.now.me.0 c.look.new.seat.me.0
    (made_none c.args.seat.now.me.0 c.look.new.seat.me.0 (ap (λ (x : View). x.device_calls)
    c.look.ensures.touches.self))

pub returns-then-not-has-clause-met : goal.returns-then-not-has-clause-met
returns-then-not-has-clause-met g c = ap (λ (x : View). x.met) c.look.ensures.touches.self

pub try_share-requires-clause-view : goal.try_share-requires-clause-view
try_share-requires-clause-view g c = let k = c.look.ensures in let p = (pinned_looked
    (packed_tag c.args.tag) (link c.args.seat.now.me.0 c.args.frame)
    (link c.look.new.seat.me.0 c.args.frame) k.link (victim_pinned (packed_tag c.args.tag)
    c.args.frame c.args.held.now c.args.seat.now.me.0 c.requires.victim)) in
    record {
      pinned = p.pinned;
      seen = (victim_sees (fields c.look.result)
          (link c.args.seat.now.me.0 c.args.frame) (link c.look.new.seat.me.0 c.args.frame) k.loaded
          c.requires.victim.victim.calm.assigned c.requires.victim.victim.role
          (k.word.dirty (sym c.has.ensures ∙ c.if-not-has.false)));
      none = p.unlocked;
    }

pub returns-in-Err-clause-works : goal.returns-in-Err-clause-works
returns-in-Err-clause-works g c = let k = c.look.ensures in let s = c.try_share.ensures in
    and_looked (and_looked (works_none c.args.frame c.requires.stands) k.seat k.touches k.marks
    k.link) s.seat s.touches s.marks (looked_same (link c.look.new.seat.me.0 c.args.frame)
    (link c.try_share.new.seat.me.0 c.args.frame) c.in-Err.ensures.left)

pub returns-in-Err-clause-victim : goal.returns-in-Err-clause-victim
returns-in-Err-clause-victim g c = let k = c.look.ensures in victim_worked (packed_tag c.args.tag)
    c.args.frame c.args.held.now c.requires.victim (returns-in-Err-clause-works g c)
    (subst (IsPinned (packed_tag c.args.tag)) (sym c.in-Err.ensures.left)
    (pinned_looked (packed_tag c.args.tag) (link c.args.seat.now.me.0 c.args.frame)
    (link c.look.new.seat.me.0 c.args.frame) k.link (victim_pinned (packed_tag c.args.tag)
    c.args.frame c.args.held.now c.args.seat.now.me.0 c.requires.victim)))

pub returns-in-Err-clause-answer : goal.returns-in-Err-clause-answer
returns-in-Err-clause-answer g c = locked c.in-Err._why (record {
  word = c.look.result;
  looks = c.look.ensures.did;
  dirty = sym c.has.ensures ∙ c.if-not-has.false;
})
    c.in-Err.ensures.cause refl (made_none c.args.seat.now.me.0 c.try_share.new.seat.me.0
    (ap (λ (x : View). x.device_calls) c.try_share.ensures.touches.self
    ∙ ap (λ (x : View). x.device_calls) c.look.ensures.touches.self))

pub returns-in-Err-clause-calls : goal.returns-in-Err-clause-calls
returns-in-Err-clause-calls g c = none_made c.args.seat.now.me.0 c.try_share.new.seat.me.0
    (made_none c.args.seat.now.me.0 c.try_share.new.seat.me.0 (ap (λ (x : View). x.device_calls)
    c.try_share.ensures.touches.self ∙ ap (λ (x : View). x.device_calls)
    c.look.ensures.touches.self))

pub returns-in-Err-clause-met : goal.returns-in-Err-clause-met
returns-in-Err-clause-met g c = ap (λ (x : View). x.met) c.try_share.ensures.touches.self
    ∙ ap (λ (x : View). x.met) c.look.ensures.touches.self

pub is_rejected-requires-clause-stands : goal.is_rejected-requires-clause-stands
is_rejected-requires-clause-stands g c = let k = c.look.ensures in let s = c.try_share.ensures in
    (and_changed (and_looked (works_none c.args.frame c.requires.stands) k.seat k.touches k.marks
    k.link) s.seat s.touches s.marks c.in_default.ensures.shared refl refl refl).stands

pub is_rejected-requires-clause-shares : goal.is_rejected-requires-clause-shares
is_rejected-requires-clause-shares g c = let k = c.look.ensures in
    sharing_taken (packed_tag c.args.tag) (link c.look.new.seat.me.0 c.args.frame)
    (link c.try_share.new.seat.me.0 c.args.frame) (pinned_looked (packed_tag c.args.tag)
    (link c.args.seat.now.me.0 c.args.frame) (link c.look.new.seat.me.0 c.args.frame) k.link
    (victim_pinned (packed_tag c.args.tag) c.args.frame c.args.held.now c.args.seat.now.me.0
    c.requires.victim)) (victim_sees (fields c.look.result) (link c.args.seat.now.me.0 c.args.frame)
    (link c.look.new.seat.me.0 c.args.frame) k.loaded c.requires.victim.victim.calm.assigned
    c.requires.victim.victim.role (k.word.dirty (sym c.has.ensures ∙ c.if-not-has.false)))
    c.in_default.ensures.shared

pub unshare-requires-clause-view : goal.unshare-requires-clause-view
unshare-requires-clause-view g c = may_drop (packed_tag c.args.tag)
    (link c.is_rejected.new.seat.me.0 c.args.frame) c.is_rejected.ensures.shares

pub returns-then-is_rejected-clause-works : goal.returns-then-is_rejected-clause-works
returns-then-is_rejected-clause-works g c = let k = c.look.ensures in let s = c.try_share.ensures in
    let u = c.unshare.ensures in and_changed (works_then (and_changed
    (and_looked (works_none c.args.frame c.requires.stands) k.seat k.touches k.marks k.link) s.seat
    s.touches s.marks c.in_default.ensures.shared refl refl refl) c.is_rejected.ensures.works)
    u.seat u.touches u.marks u.unshared refl refl refl

pub returns-then-is_rejected-clause-victim : goal.returns-then-is_rejected-clause-victim
returns-then-is_rejected-clause-victim g c = victim_worked (packed_tag c.args.tag) c.args.frame
    c.args.held.now c.requires.victim (returns-then-is_rejected-clause-works g c)
    (pinned_unshared (packed_tag c.args.tag) (link c.is_rejected.new.seat.me.0 c.args.frame)
    (link c.unshare.new.seat.me.0 c.args.frame) c.is_rejected.ensures.shares
    c.unshare.ensures.unshared).pinned

pub returns-then-is_rejected-clause-answer : goal.returns-then-is_rejected-clause-answer
returns-then-is_rejected-clause-answer g c = rejected (shares_dirty c.args.frame c.look.result
    c.args.seat.now.me.0 c.look.new.seat.me.0 c.try_share.new.seat.me.0 c.look.ensures.did
    (sym c.has.ensures ∙ c.if-not-has.false) c.in_default.ensures.did)
    (rejects_between c.args.frame c.args.from_ring _ _ c.try_share.new.seat.me.0
    c.try_share.new.seat.me.0 c.is_rejected.new.seat.me.0 c.unshare.new.seat.me.0
    (rises_none c.try_share.new.seat.me.0) c.if-is_rejected.ensures.rejected
    (rises_touched c.args.frame c.is_rejected.new.seat.me.0 c.unshare.new.seat.me.0
    c.unshare.ensures.touches)) (made_none c.args.seat.now.me.0 c.unshare.new.seat.me.0
    (ap (λ (x : View). x.device_calls) c.unshare.ensures.touches.self
    ∙ made_same c.try_share.new.seat.me.0 c.is_rejected.new.seat.me.0 c.is_rejected.ensures.calls
    ∙ ap (λ (x : View). x.device_calls) c.try_share.ensures.touches.self
    ∙ ap (λ (x : View). x.device_calls) c.look.ensures.touches.self))

pub returns-then-is_rejected-clause-calls : goal.returns-then-is_rejected-clause-calls
returns-then-is_rejected-clause-calls g c = none_made c.args.seat.now.me.0 c.unshare.new.seat.me.0
    (made_none c.args.seat.now.me.0 c.unshare.new.seat.me.0 (ap (λ (x : View). x.device_calls)
    c.unshare.ensures.touches.self ∙ made_same c.try_share.new.seat.me.0 c.is_rejected.new.seat.me.0
    c.is_rejected.ensures.calls ∙ ap (λ (x : View). x.device_calls) c.try_share.ensures.touches.self
    ∙ ap (λ (x : View). x.device_calls) c.look.ensures.touches.self))

pub returns-then-is_rejected-clause-met : goal.returns-then-is_rejected-clause-met
returns-then-is_rejected-clause-met g c = ap (λ (x : View). x.met) c.unshare.ensures.touches.self
    ∙ c.is_rejected.ensures.met ∙ ap (λ (x : View). x.met) c.try_share.ensures.touches.self
    ∙ ap (λ (x : View). x.met) c.look.ensures.touches.self

pub flush_shared-requires-clause-others : goal.flush_shared-requires-clause-others
flush_shared-requires-clause-others g c = let k = c.look.ensures in let s = c.try_share.ensures in
    beside_kept c.args.frame c.args.held.now c.args.seat.now.me.0 c.is_rejected.new.seat.me.0
    (works_then (and_changed (and_looked (works_none c.args.frame c.requires.stands) k.seat
    k.touches k.marks k.link) s.seat s.touches s.marks c.in_default.ensures.shared refl refl refl)
    c.is_rejected.ensures.works).work.others c.requires.victim.victim.others

pub returns-in-Ok-clause-works : goal.returns-in-Ok-clause-works
returns-in-Ok-clause-works g c = let k = c.look.ensures in let s = c.try_share.ensures in
    works_then (works_then (and_changed (and_looked (works_none c.args.frame c.requires.stands)
    k.seat k.touches k.marks k.link) s.seat s.touches s.marks c.in_default.ensures.shared refl refl
    refl) c.is_rejected.ensures.works) c.flush_shared.ensures.works

pub returns-in-Ok-clause-victim : goal.returns-in-Ok-clause-victim
returns-in-Ok-clause-victim g c = victim_worked (packed_tag c.args.tag) c.args.frame c.args.held.now
    c.requires.victim (returns-in-Ok-clause-works g c) c.flush_shared.ensures.pinned.pinned

pub returns-in-Ok-clause-answer : goal.returns-in-Ok-clause-answer
returns-in-Ok-clause-answer g c = let k = c.look.ensures in let s = c.try_share.ensures in (
  c.if-is_rejected.ensures.ring,
  subst (FreesVictim {L = g.row.L.Denot} {G = g.row.G.Denot} g.L.BlockLane.contents c.args.table.now
      (lane_number c.args.tag (lanes_in c.args.table.now)) c.args.tag c.args.frame c.args.from_ring
      c.args.ring.now c.args.seat.now.me.0 c.flush_shared.new.seat.me.0) (sym c.is_written.ensures)
      (flushed c.in-Ok.flushed (record {
        shared = c.try_share.new.seat.me.0;
        kept = c.is_rejected.new.seat.me.0;
        shares = shares_dirty c.args.frame c.look.result c.args.seat.now.me.0 c.look.new.seat.me.0
            c.try_share.new.seat.me.0 c.look.ensures.did (sym c.has.ensures ∙ c.if-not-has.false)
            c.in_default.ensures.did;
        keeps = c.if-is_rejected.ensures.keeps;
        since = (works_then (and_changed (and_looked (works_none c.args.frame c.requires.stands) k.seat
            k.touches k.marks k.link) s.seat s.touches s.marks c.in_default.ensures.shared refl refl
            refl) c.is_rejected.ensures.works).work.advances;
        calls = made_none c.args.seat.now.me.0 c.is_rejected.new.seat.me.0
            (made_same c.try_share.new.seat.me.0 c.is_rejected.new.seat.me.0 c.is_rejected.ensures.calls
            ∙ ap (λ (x : View). x.device_calls) c.try_share.ensures.touches.self
            ∙ ap (λ (x : View). x.device_calls) c.look.ensures.touches.self);
        flush = c.in-Ok.ensures.answer;
        written = λ is. c.in-Ok.ensures.written (same_page (Ok c.in-Ok.flushed) c.in-Ok.flushed
            Written refl is);
      })),
)

pub returns-in-Ok-clause-calls : goal.returns-in-Ok-clause-calls
returns-in-Ok-clause-calls g c = flush_calls_after c.args.seat.now.me.0 c.is_rejected.new.seat.me.0
    c.flush_shared.new.seat.me.0 (made_same c.try_share.new.seat.me.0 c.is_rejected.new.seat.me.0
    c.is_rejected.ensures.calls ∙ ap (λ (x : View). x.device_calls) c.try_share.ensures.touches.self
    ∙ ap (λ (x : View). x.device_calls) c.look.ensures.touches.self)
    (flush_makes_flush_calls {L = g.row.L.Denot} {G = g.row.G.Denot} g.L.BlockLane.contents
    c.args.table.now (lane_number c.args.tag (lanes_in c.args.table.now)) c.args.tag c.args.frame
    c.is_rejected.new.seat.me.0 c.flush_shared.new.seat.me.0 (Ok c.in-Ok.flushed)
    c.in-Ok.ensures.answer)

pub returns-in-Ok-clause-met : goal.returns-in-Ok-clause-met
returns-in-Ok-clause-met g c = c.in-Ok.ensures.met ∙ c.is_rejected.ensures.met
    ∙ ap (λ (x : View). x.met) c.try_share.ensures.touches.self ∙ ap (λ (x : View). x.met)
    c.look.ensures.touches.self

pub returns-in-Err-flush_shared-clause-works : goal.returns-in-Err-flush_shared-clause-works
returns-in-Err-flush_shared-clause-works g c = let k = c.look.ensures in
    let s = c.try_share.ensures in works_then (works_then (and_changed
    (and_looked (works_none c.args.frame c.requires.stands) k.seat k.touches k.marks k.link) s.seat
    s.touches s.marks c.in_default.ensures.shared refl refl refl) c.is_rejected.ensures.works)
    c.flush_shared.ensures.works

pub returns-in-Err-flush_shared-clause-victim : goal.returns-in-Err-flush_shared-clause-victim
returns-in-Err-flush_shared-clause-victim g c = victim_worked (packed_tag c.args.tag) c.args.frame
    c.args.held.now c.requires.victim (returns-in-Err-flush_shared-clause-works g c)
    c.flush_shared.ensures.pinned.pinned

pub returns-in-Err-flush_shared-clause-answer : goal.returns-in-Err-flush_shared-clause-answer
returns-in-Err-flush_shared-clause-answer g c = let k = c.look.ensures in
    let s = c.try_share.ensures in (
      c.if-is_rejected.ensures.ring,
      record {
        shared = c.try_share.new.seat.me.0;
        kept = c.is_rejected.new.seat.me.0;
        shares = shares_dirty c.args.frame c.look.result c.args.seat.now.me.0 c.look.new.seat.me.0
            c.try_share.new.seat.me.0 c.look.ensures.did (sym c.has.ensures ∙ c.if-not-has.false)
            c.in_default.ensures.did;
        keeps = c.if-is_rejected.ensures.keeps;
        since = (works_then (and_changed (and_looked (works_none c.args.frame c.requires.stands)
            k.seat
            k.touches k.marks k.link) s.seat s.touches s.marks c.in_default.ensures.shared refl refl
            refl) c.is_rejected.ensures.works).work.advances;
        calls = made_none c.args.seat.now.me.0 c.is_rejected.new.seat.me.0
            (made_same c.try_share.new.seat.me.0 c.is_rejected.new.seat.me.0
            c.is_rejected.ensures.calls
            ∙ ap (λ (x : View). x.device_calls) c.try_share.ensures.touches.self
            ∙ ap (λ (x : View). x.device_calls) c.look.ensures.touches.self);
        flush = c.in-Err-flush_shared.ensures.answer;
        written = λ is. absurd (cc);
      },
    )

pub returns-in-Err-flush_shared-clause-calls : goal.returns-in-Err-flush_shared-clause-calls
returns-in-Err-flush_shared-clause-calls g c = flush_calls_after c.args.seat.now.me.0
    c.is_rejected.new.seat.me.0 c.flush_shared.new.seat.me.0 (made_same c.try_share.new.seat.me.0
    c.is_rejected.new.seat.me.0 c.is_rejected.ensures.calls ∙ ap (λ (x : View). x.device_calls)
    c.try_share.ensures.touches.self ∙ ap (λ (x : View). x.device_calls)
    c.look.ensures.touches.self) (flush_makes_flush_calls {L = g.row.L.Denot} {G = g.row.G.Denot}
    g.L.BlockLane.contents c.args.table.now (lane_number c.args.tag (lanes_in c.args.table.now))
    c.args.tag c.args.frame c.is_rejected.new.seat.me.0 c.flush_shared.new.seat.me.0
    (Err c.in-Err-flush_shared.why) c.in-Err-flush_shared.ensures.answer)

pub returns-in-Err-flush_shared-clause-met : goal.returns-in-Err-flush_shared-clause-met
returns-in-Err-flush_shared-clause-met g c = c.in-Err-flush_shared.ensures.met
    ∙ ap (met_refused c.in-Err-flush_shared.why) (c.is_rejected.ensures.met
    ∙ ap (λ (x : View). x.met) c.try_share.ensures.touches.self ∙ ap (λ (x : View). x.met)
    c.look.ensures.touches.self)

pub returns-in-Err-flush_shared-clause-ended : goal.returns-in-Err-flush_shared-clause-ended
returns-in-Err-flush_shared-clause-ended g c = let k = c.look.ensures in
    let s = c.try_share.ensures in error_between c.args.frame c.args.seat.now.me.0
    c.is_rejected.new.seat.me.0 c.flush_shared.new.seat.me.0 c.flush_shared.new.seat.me.0
    (works_then (and_changed (and_looked (works_none c.args.frame c.requires.stands) k.seat
    k.touches k.marks k.link) s.seat s.touches s.marks c.in_default.ensures.shared refl refl refl)
    c.is_rejected.ensures.works).work.advances c.in-Err-flush_shared.ensures.ended refl
    (rises_none c.flush_shared.new.seat.me.0)
