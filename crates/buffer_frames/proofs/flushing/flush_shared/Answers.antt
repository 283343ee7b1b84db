use Rattle.std.proofs.Common.{◌≡◌, ℕ, false, Ok, Err, subst, sym, refl, ap, ◌∙◌}
use Rattle.std.proofs.Math.Bool.{or-true}
use Rattle.block_tag.specs.Names.{lane_number, packed_tag}
use Rattle.pin_core.specs.declared.view.Io.TheVariants.{Output, Quiet}
use Rattle.pin_core.specs.declared.view.View.{View}
use Rattle.pin_core.specs.State.{link}
use Rattle.frame_table.specs.Seats.{ViewMarks, lanes_in}
use Rattle.content_locks.specs.Io.{FindsNothing}
use Rattle.buffer_frames.specs.Rests.{LinksRestBeside}
use Rattle.frame_table.proofs.Rising.{rises_none, rises_touched}
use Rattle.buffer_frames.proofs.Keeping.{beside_kept, stands_self}
use Rattle.buffer_frames.specs.declared.flushing.FlushedPage.TheVariants.{Written, Clean}
use Rattle.buffer_frames.specs.Flushing.{CopiesAnd, EndedInError, EndedWritten, WriteAnswer}
use Rattle.buffer_frames.specs.Flushing.{met_refused}
use Rattle.buffer_frames.specs.Stages.{IsSharing}
use Rattle.buffer_frames.specs.Working.{Works}
use Rattle.buffer_frames.proofs.Answering.{copies_between, error_between, written_between}
use Rattle.buffer_frames.proofs.Links.{may_drop, pinned_unshared, sharing_begun, sharing_looked}
use Rattle.buffer_frames.proofs.WorkSteps.{headless, no_io, within_all, within_on}
use Rattle.buffer_frames.proofs.Works.{and_begun, and_changed, and_looked, works_none, works_then}
use Rattle.buffer_frames.proofs.flushing.flush_shared.Goals as goal

pub start_io-requires-clause-headless : goal.start_io-requires-clause-headless
start_io-requires-clause-headless g c = headless c.args.held.now c.args.frame c.args.seat.now.me.0
    c.requires.others c.requires.shares.no_header

pub start_io-requires-clause-quiet : goal.start_io-requires-clause-quiet
start_io-requires-clause-quiet g c = no_io c.args.held.now c.args.frame c.args.seat.now.me.0
    c.requires.others c.requires.shares.right

pub unshare-requires-clause-view : goal.unshare-requires-clause-view
unshare-requires-clause-view g c = may_drop (packed_tag c.args.tag)
    (link c.start_io.new.seat.me.0 c.args.frame) (sharing_looked Quiet (packed_tag c.args.tag)
    (link c.args.seat.now.me.0 c.args.frame) (link c.start_io.new.seat.me.0 c.args.frame)
    c.in_default.ensures.left c.requires.shares)

pub returns-in_default-clause-works : goal.returns-in_default-clause-works
returns-in_default-clause-works g c = let s = c.start_io.ensures in let u = c.unshare.ensures in
    and_changed (and_looked (works_none c.args.frame c.requires.stands) s.seat s.touches
    c.in_default.ensures.marks c.in_default.ensures.left) u.seat u.touches u.marks u.unshared
    refl refl refl

pub returns-in_default-clause-pinned : goal.returns-in_default-clause-pinned
returns-in_default-clause-pinned g c = pinned_unshared (packed_tag c.args.tag)
    (link c.start_io.new.seat.me.0 c.args.frame) (link c.unshare.new.seat.me.0 c.args.frame)
    (sharing_looked Quiet (packed_tag c.args.tag) (link c.args.seat.now.me.0 c.args.frame)
    (link c.start_io.new.seat.me.0 c.args.frame) c.in_default.ensures.left c.requires.shares)
    c.unshare.ensures.unshared

pub returns-in_default-clause-answer : goal.returns-in_default-clause-answer
returns-in_default-clause-answer g c = let s = c.start_io.ensures in let u = c.unshare.ensures in
    record {
      finds = within_on (FindsNothing false c.args.frame) c.args.seat.now.me.0 c.args.seat.now.me.0
          c.start_io.new.seat.me.0 c.unshare.new.seat.me.0 (rises_none c.args.seat.now.me.0)
          (within_all (FindsNothing false c.args.frame) c.args.seat.now.me.0
          c.start_io.new.seat.me.0
          c.in_default.ensures.cause) (rises_touched c.args.frame c.start_io.new.seat.me.0
          c.unshare.new.seat.me.0 u.touches);
      calls = ap (λ (x : View). x.device_calls) u.touches.self ∙ ap (λ (x : View). x.device_calls)
          s.touches.self;
    }

pub returns-in_default-clause-met : goal.returns-in_default-clause-met
returns-in_default-clause-met g c = ap (λ (x : View). x.met) c.unshare.ensures.touches.self
    ∙ ap (λ (x : View). x.met) c.start_io.ensures.touches.self

pub write_out-written-requires-clause-stands : goal.write_out-written-requires-clause-stands
write_out-written-requires-clause-stands g c = let s = c.start_io.ensures in
    stands_self _ c.args.seat.now c.start_io.new.seat s.seat s.touches.self c.requires.stands

pub write_out-written-requires-clause-others : goal.write_out-written-requires-clause-others
write_out-written-requires-clause-others g c = subst (λ (x : ℕ). LinksRestBeside x c.args.held.now
    c.start_io.new.seat.me.0) (sym c.in-Some.ensures.right.0) (beside_kept c.args.frame
    c.args.held.now c.args.seat.now.me.0 c.start_io.new.seat.me.0 c.start_io.ensures.touches.others
    c.requires.others)

pub write_out-written-requires-clause-shares : goal.write_out-written-requires-clause-shares
write_out-written-requires-clause-shares g c = let tag = packed_tag c.args.tag in
    subst (λ (x : ℕ). IsSharing Output tag (link c.start_io.new.seat.me.0 x))
    (sym c.in-Some.ensures.right.0) (sharing_begun tag (link c.args.seat.now.me.0 c.args.frame)
    (link c.start_io.new.seat.me.0 c.args.frame) c.requires.shares c.in-Some.ensures.begun)

pub write_out-written-requires-clause-begun : goal.write_out-written-requires-clause-begun
write_out-written-requires-clause-begun g c = ap (λ (x : ViewMarks). x.had_output)
    c.in-Some.ensures.marks ∙ or-true c.args.seat.now.me.0.had_output

pub unshare-requires-2-clause-view : goal.unshare-requires-2-clause-view
unshare-requires-2-clause-view g c = let tag = packed_tag c.args.tag in
    may_drop tag (link c.write_out-written.new.seat.me.0 c.args.frame)
    (subst (λ (x : ℕ). IsSharing Quiet tag (link c.write_out-written.new.seat.me.0 x))
    c.in-Some.ensures.right.0 c.write_out-written.ensures.shares)

pub returns-in-Ok-clause-works : goal.returns-in-Ok-clause-works
returns-in-Ok-clause-works g c = let s = c.start_io.ensures in let u = c.unshare-2.ensures in
    and_changed (works_then (and_begun (works_none c.args.frame c.requires.stands) s.seat s.touches
    c.in-Some.ensures.marks c.in-Some.ensures.begun) (subst (λ (x : ℕ). Works x c.args.table.now
    c.start_io.new.seat c.write_out-written.new.seat) c.in-Some.ensures.right.0
    c.write_out-written.ensures.works)) u.seat u.touches u.marks u.unshared refl refl refl

pub returns-in-Ok-clause-pinned : goal.returns-in-Ok-clause-pinned
returns-in-Ok-clause-pinned g c = let tag = packed_tag c.args.tag in
    pinned_unshared tag (link c.write_out-written.new.seat.me.0 c.args.frame)
    (link c.unshare-2.new.seat.me.0 c.args.frame) (subst (λ (x : ℕ). IsSharing Quiet tag
    (link c.write_out-written.new.seat.me.0 x)) c.in-Some.ensures.right.0
    c.write_out-written.ensures.shares) c.unshare-2.ensures.unshared

pub returns-in-Ok-clause-answer : goal.returns-in-Ok-clause-answer
returns-in-Ok-clause-answer g c = let f = c.args.frame in let s = c.start_io.ensures in
    let u = c.unshare-2.ensures in let q = lane_number c.args.tag (lanes_in c.args.table.now) in
    copies_between {L = g.row.L.Denot} {G = g.row.G.Denot} g.L.BlockLane.contents c.args.table.now q
    c.args.tag f c.args.seat.now.me.0 c.start_io.new.seat.me.0 c.write_out-written.new.seat.me.0
    c.unshare-2.new.seat.me.0 (Ok tt)
    (ap (λ (x : View). x.device_calls) s.touches.self) (rises_touched f c.args.seat.now.me.0
    c.start_io.new.seat.me.0 s.touches)
    (subst (λ (x : ℕ). CopiesAnd (λ p a b. WriteAnswer {L = g.row.L.Denot} {G = g.row.G.Denot}
    g.L.BlockLane.contents c.args.table.now q c.args.tag p a b (Ok tt)) x
    c.start_io.new.seat.me.0 c.write_out-written.new.seat.me.0) c.in-Some.ensures.right.0
    c.in-Ok.ensures.answer)
    u.touches.self (rises_touched f c.write_out-written.new.seat.me.0 c.unshare-2.new.seat.me.0
    u.touches)

pub returns-in-Ok-clause-met : goal.returns-in-Ok-clause-met
returns-in-Ok-clause-met g c = ap (λ (x : View). x.met) c.unshare-2.ensures.touches.self
    ∙ c.in-Ok.ensures.met ∙ ap (λ (x : View). x.met) c.start_io.ensures.touches.self

pub returns-in-Err-clause-works : goal.returns-in-Err-clause-works
returns-in-Err-clause-works g c = let s = c.start_io.ensures in let u = c.unshare-2.ensures in
    and_changed (works_then (and_begun (works_none c.args.frame c.requires.stands) s.seat s.touches
    c.in-Some.ensures.marks c.in-Some.ensures.begun) (subst (λ (x : ℕ). Works x c.args.table.now
    c.start_io.new.seat c.write_out-written.new.seat) c.in-Some.ensures.right.0
    c.write_out-written.ensures.works)) u.seat u.touches u.marks u.unshared refl refl refl

pub returns-in-Err-clause-pinned : goal.returns-in-Err-clause-pinned
returns-in-Err-clause-pinned g c = let tag = packed_tag c.args.tag in
    pinned_unshared tag (link c.write_out-written.new.seat.me.0 c.args.frame)
    (link c.unshare-2.new.seat.me.0 c.args.frame) (subst (λ (x : ℕ). IsSharing Quiet tag
    (link c.write_out-written.new.seat.me.0 x)) c.in-Some.ensures.right.0
    c.write_out-written.ensures.shares) c.unshare-2.ensures.unshared

pub returns-in-Err-clause-answer : goal.returns-in-Err-clause-answer
returns-in-Err-clause-answer g c = let f = c.args.frame in let s = c.start_io.ensures in
    let u = c.unshare-2.ensures in let q = lane_number c.args.tag (lanes_in c.args.table.now) in
    copies_between {L = g.row.L.Denot} {G = g.row.G.Denot} g.L.BlockLane.contents c.args.table.now q
    c.args.tag f c.args.seat.now.me.0 c.start_io.new.seat.me.0 c.write_out-written.new.seat.me.0
    c.unshare-2.new.seat.me.0 (Err c.in-Err.why)
    (ap (λ (x : View). x.device_calls) s.touches.self) (rises_touched f c.args.seat.now.me.0
    c.start_io.new.seat.me.0 s.touches)
    (subst (λ (x : ℕ). CopiesAnd (λ p a b. WriteAnswer {L = g.row.L.Denot} {G = g.row.G.Denot}
    g.L.BlockLane.contents c.args.table.now q c.args.tag p a b (Err c.in-Err.why)) x
    c.start_io.new.seat.me.0 c.write_out-written.new.seat.me.0) c.in-Some.ensures.right.0
    c.in-Err.ensures.answer)
    u.touches.self (rises_touched f c.write_out-written.new.seat.me.0 c.unshare-2.new.seat.me.0
    u.touches)

pub returns-in-Err-clause-met : goal.returns-in-Err-clause-met
returns-in-Err-clause-met g c = ap (λ (x : View). x.met) c.unshare-2.ensures.touches.self
    ∙ c.in-Err.ensures.met ∙ ap (λ (x : View). met_refused c.in-Err.why x.met)
    c.start_io.ensures.touches.self

pub returns-in-Err-clause-ended : goal.returns-in-Err-clause-ended
returns-in-Err-clause-ended g c = let f = c.args.frame in let u = c.unshare-2.ensures in
    error_between f c.args.seat.now.me.0 c.start_io.new.seat.me.0 c.write_out-written.new.seat.me.0
    c.unshare-2.new.seat.me.0 (rises_touched f c.args.seat.now.me.0 c.start_io.new.seat.me.0
    c.start_io.ensures.touches) (subst (λ (x : ℕ). EndedInError x c.start_io.new.seat.me.0
    c.write_out-written.new.seat.me.0) c.in-Some.ensures.right.0 c.in-Err.ensures.ended) u.marks
    (rises_touched f c.write_out-written.new.seat.me.0 c.unshare-2.new.seat.me.0 u.touches)

pub returns-in_default-clause-written : goal.returns-in_default-clause-written
returns-in_default-clause-written g c = λ same. (let no : Clean ≡ Written = same in absurd (cc))

pub returns-in-Ok-clause-written : goal.returns-in-Ok-clause-written
returns-in-Ok-clause-written g c = λ wrote. (let f = c.args.frame in let u = c.unshare-2.ensures in
    written_between f c.args.seat.now.me.0 c.start_io.new.seat.me.0
    c.write_out-written.new.seat.me.0 c.unshare-2.new.seat.me.0
    (rises_touched f c.args.seat.now.me.0 c.start_io.new.seat.me.0 c.start_io.ensures.touches)
    (subst (λ (x : ℕ). EndedWritten x c.start_io.new.seat.me.0
    c.write_out-written.new.seat.me.0) c.in-Some.ensures.right.0 c.in-Ok.ensures.written)
    u.marks (rises_touched f c.write_out-written.new.seat.me.0 c.unshare-2.new.seat.me.0
    u.touches))
