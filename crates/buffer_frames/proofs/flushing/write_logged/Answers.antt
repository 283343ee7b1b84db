use Rattle.std.proofs.Common.{◌≡◌, ℕ, ◌≤◌, Bool, true, false, refl, subst, sym, ap, ◌∙◌}
use Rattle.block_tag.specs.Names.{packed_tag}
use Rattle.pin_core.specs.declared.view.Io.TheVariants.{Output}
use Rattle.pin_core.specs.declared.view.View.{View}
use Rattle.pin_core.specs.State.{link}
use Rattle.frame_table.proofs.Marks.{marks_on}
use Rattle.wal_flush.proofs.Listing.{flush_lists, unflushed_lists}
use Rattle.buffer_frames.specs.Flushing.{met_lane_write}
use Rattle.buffer_frames.specs.Stages.{IsSharing}
use Rattle.buffer_frames.proofs.Works.{and_flushed, works_none, works_then}
use Rattle.buffer_frames.proofs.Written.{flushed_met, marks_flushed, refused_met, refuses_at}
use Rattle.buffer_frames.proofs.Written.{stands_flushed, wrote_flushed}
use Rattle.buffer_frames.proofs.flushing.write_logged.Goals as goal

pub returns-in-Err-clause-works : goal.returns-in-Err-clause-works
returns-in-Err-clause-works g c = let s = c.flush_to.ensures in let e = c.in-Err.ensures in
    and_flushed (works_none c.args.frame c.requires.stands) s.seat e.work e.rises
    (unflushed_lists c.args.frame _ _ c.args.seat.now.me.0 c.flush_to.new.seat.me.0 e.cause)

pub returns-in-Err-clause-marks : goal.returns-in-Err-clause-marks
returns-in-Err-clause-marks g c = marks_flushed c.args.seat.now.me.0 c.flush_to.new.seat.me.0
    c.flush_to.ensures.work

pub returns-in-Err-clause-shares : goal.returns-in-Err-clause-shares
returns-in-Err-clause-shares g c = subst (IsSharing Output (packed_tag c.args.tag))
    (sym (ap (λ (x : View). link x c.args.frame) c.flush_to.ensures.work)) c.requires.shares

pub returns-in-Err-clause-answer : goal.returns-in-Err-clause-answer
returns-in-Err-clause-answer g c = let e = c.in-Err.ensures in refuses_at _ _ _ c.args.tag
    c.args.page.now c.args.frame _ c.args.seat.now.me.0 c.flush_to.new.seat.me.0 c.lsn.ensures
    e.cause e.left e.seen e.short c.requires.inside c.requires.shares.remembered c.requires.copied

pub returns-in-Err-clause-met : goal.returns-in-Err-clause-met
returns-in-Err-clause-met g c = refused_met _ c.args.seat.now.me.0 c.flush_to.new.seat.me.0
    c.in-Err.ensures.left

pub write_lane-requires-clause-stands : goal.write_lane-requires-clause-stands
write_lane-requires-clause-stands g c = let e = c.flush_to.ensures in
    stands_flushed _ c.args.seat.now c.flush_to.new.seat e.seat e.work c.requires.stands

pub write_lane-requires-clause-shares : goal.write_lane-requires-clause-shares
write_lane-requires-clause-shares g c = subst (IsSharing Output (packed_tag c.args.tag))
    (sym (ap (λ (x : View). link x c.args.frame) c.flush_to.ensures.work)) c.requires.shares

pub write_lane-requires-clause-copied : goal.write_lane-requires-clause-copied
write_lane-requires-clause-copied g c = ap (λ (x : View). (link x c.args.frame).copied)
    c.flush_to.ensures.work ∙ c.requires.copied

pub write_lane-requires-clause-log_first : goal.write_lane-requires-clause-log_first
write_lane-requires-clause-log_first g c = subst (λ (n : ℕ). n ≤ c.flush_to.new.seat.me.0.flushed)
    c.lsn.ensures c.in_default.ensures.flushed

pub returns-then-write_lane-clause-works : goal.returns-then-write_lane-clause-works
returns-then-write_lane-clause-works g c = let s = c.flush_to.ensures in
    let e = c.in_default.ensures in works_then (and_flushed (works_none c.args.frame
    c.requires.stands) s.seat e.work e.rises (flush_lists c.args.frame _ c.args.seat.now.me.0
    c.flush_to.new.seat.me.0 e.did)) c.write_lane.ensures.works

pub returns-then-write_lane-clause-marks : goal.returns-then-write_lane-clause-marks
returns-then-write_lane-clause-marks g c = marks_on c.args.seat.now.me.0 c.flush_to.new.seat.me.0
    c.write_lane.new.seat.me.0 (marks_flushed c.args.seat.now.me.0 c.flush_to.new.seat.me.0
    c.flush_to.ensures.work) c.write_lane.ensures.marks

pub returns-then-write_lane-clause-answer : goal.returns-then-write_lane-clause-answer
returns-then-write_lane-clause-answer g c = let e = c.in_default.ensures in
    let w = c.write_lane.ensures in
    wrote_flushed true _ _ (packed_tag c.args.tag) c.args.page.now _ c.args.seat.now.me.0
    c.flush_to.new.seat.me.0 c.write_lane.new.seat.me.0 c.if-write_lane.true c.lsn.ensures
    e.view.0 e.view.1 e.flushed e.rises w.calls w.works.work.advances

pub returns-then-write_lane-clause-met : goal.returns-then-write_lane-clause-met
returns-then-write_lane-clause-met g c = let e = c.in_default.ensures in
    (subst (λ (b : Bool). c.write_lane.new.seat.me.0.met ≡ met_lane_write b
    c.flush_to.new.seat.me.0.met) c.if-write_lane.true c.write_lane.ensures.met)
    ∙ ap (met_lane_write true) (flushed_met e.view.0 c.args.seat.now.me.0
    c.flush_to.new.seat.me.0 e.view.1)

pub returns-else-write_lane-clause-works : goal.returns-else-write_lane-clause-works
returns-else-write_lane-clause-works g c = let s = c.flush_to.ensures in
    let e = c.in_default.ensures in works_then (and_flushed (works_none c.args.frame
    c.requires.stands) s.seat e.work e.rises (flush_lists c.args.frame _ c.args.seat.now.me.0
    c.flush_to.new.seat.me.0 e.did)) c.write_lane.ensures.works

pub returns-else-write_lane-clause-marks : goal.returns-else-write_lane-clause-marks
returns-else-write_lane-clause-marks g c = marks_on c.args.seat.now.me.0 c.flush_to.new.seat.me.0
    c.write_lane.new.seat.me.0 (marks_flushed c.args.seat.now.me.0 c.flush_to.new.seat.me.0
    c.flush_to.ensures.work) c.write_lane.ensures.marks

pub returns-else-write_lane-clause-answer : goal.returns-else-write_lane-clause-answer
returns-else-write_lane-clause-answer g c = let e = c.in_default.ensures in
    let w = c.write_lane.ensures in (
      refl,
      wrote_flushed false _ _ (packed_tag c.args.tag) c.args.page.now _ c.args.seat.now.me.0
          c.flush_to.new.seat.me.0 c.write_lane.new.seat.me.0 c.if-write_lane.false c.lsn.ensures
          e.view.0 e.view.1 e.flushed e.rises w.calls w.works.work.advances,
    )

pub returns-else-write_lane-clause-met : goal.returns-else-write_lane-clause-met
returns-else-write_lane-clause-met g c = let e = c.in_default.ensures in
    (subst (λ (b : Bool). c.write_lane.new.seat.me.0.met ≡ met_lane_write b
    c.flush_to.new.seat.me.0.met) c.if-write_lane.false c.write_lane.ensures.met)
    ∙ ap (met_lane_write false) (flushed_met e.view.0 c.args.seat.now.me.0
    c.flush_to.new.seat.me.0 e.view.1)
