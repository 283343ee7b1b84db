use Rattle.std.proofs.Common.{◌≡◌, ℕ, Ok, Err, subst, sym, refl, ap, ◌∙◌}
use Rattle.block_tag.specs.Names.{lane_number, packed_tag}
use Rattle.state_word.specs.declared.word.IoEnd.TheVariants as io_end
use Rattle.pin_core.specs.declared.view.Io.TheVariants.{Output}
use Rattle.pin_core.specs.declared.view.Link.{Link}
use Rattle.pin_core.specs.declared.view.View.{View}
use Rattle.pin_core.specs.State.{link}
use Rattle.frame_table.specs.Seats.{lanes_in}
use Rattle.content_locks.specs.Locks.{Copies}
use Rattle.buffer_frames.specs.Rests.{LinksRestBeside}
use Rattle.frame_table.proofs.Rising.{rises_none, rises_on, rises_touched}
use Rattle.buffer_frames.proofs.Keeping.{beside_kept, stands_self}
use Rattle.buffer_frames.specs.Flushing.{ClearsJust, met_refused}
use Rattle.buffer_frames.specs.Stages.{IsSharing}
use Rattle.buffer_frames.specs.Working.{Within, Works}
use Rattle.buffer_frames.proofs.Answering.{ended_in_error, ended_written, had_output_marked}
use Rattle.buffer_frames.proofs.Answering.{write_between}
use Rattle.buffer_frames.proofs.Links.{may_copy, sharing_copied, sharing_ended}
use Rattle.buffer_frames.proofs.WorkSteps.{headless, made_same, no_write, within_all, within_on}
use Rattle.buffer_frames.proofs.Works.{and_changed, and_ended, works_then}
use Rattle.buffer_frames.proofs.flushing.write_out.Goals as goal

pub copy_out-requires-clause-view : goal.copy_out-requires-clause-view
copy_out-requires-clause-view g c = may_copy Output (packed_tag c.args.tag)
    (link c.clear_just.new.seat.me.0 c.frame-frame.result) c.clear_just.ensures.shares

pub write_logged-requires-clause-stands : goal.write_logged-requires-clause-stands
write_logged-requires-clause-stands g c = let o = c.copy_out.ensures in
    stands_self _ c.clear_just.new.seat c.copy_out.new.seat o.seat o.touches.self
    c.clear_just.ensures.works.stands

pub write_logged-requires-clause-shares : goal.write_logged-requires-clause-shares
write_logged-requires-clause-shares g c = let f = c.frame-frame.result in
    sharing_copied Output (packed_tag c.args.tag) c.copy_out.new.page
    (link c.clear_just.new.seat.me.0 f) (link c.copy_out.new.seat.me.0 f)
    c.clear_just.ensures.shares c.copy_out.ensures.copied

pub write_logged-requires-clause-copied : goal.write_logged-requires-clause-copied
write_logged-requires-clause-copied g c = ap (λ (l : Link). l.copied) c.copy_out.ensures.copied

pub end_io-requires-clause-headless : goal.end_io-requires-clause-headless
end_io-requires-clause-headless g c = let f = c.frame-frame.result in
    let w = c.write_logged.ensures in
    headless c.args.held.now f c.write_logged.new.seat.me.0 (beside_kept f c.args.held.now
    c.args.seat.now.me.0 c.write_logged.new.seat.me.0 (λ h n. w.works.work.others h n
    ∙ c.copy_out.ensures.touches.others h n ∙ c.clear_just.ensures.works.work.others h n)
    (subst (λ (x : ℕ). LinksRestBeside x c.args.held.now c.args.seat.now.me.0)
    (sym c.frame-frame.ensures) c.requires.others)) w.shares.no_header

pub end_io-requires-clause-no_write : goal.end_io-requires-clause-no_write
end_io-requires-clause-no_write g c = no_write _ c.write_logged.new.seat.me.0
    c.write_logged.ensures.works.stands.quiet

pub returns-in-Ok-clause-works : goal.returns-in-Ok-clause-works
returns-in-Ok-clause-works g c = let o = c.copy_out.ensures in let e = c.end_io.ensures in
    and_ended io_end.WriteOk (subst (λ (x : ℕ). Works x c.args.table.now c.args.seat.now
    c.write_logged.new.seat) c.frame-frame.ensures (works_then
    (and_changed c.clear_just.ensures.works o.seat o.touches o.marks o.copied refl refl refl)
    c.write_logged.ensures.works)) e.seat e.touches e.marks.1 e.ended

pub returns-in-Ok-clause-shares : goal.returns-in-Ok-clause-shares
returns-in-Ok-clause-shares g c = sharing_ended io_end.WriteOk (packed_tag c.args.tag)
    (link c.write_logged.new.seat.me.0 c.args.right.frame) (link c.end_io.new.seat.me.0
    c.args.right.frame) (subst (λ (x : ℕ). IsSharing Output (packed_tag c.args.tag)
    (link c.write_logged.new.seat.me.0 x)) c.frame-frame.ensures c.write_logged.ensures.shares)
    c.end_io.ensures.ended

pub returns-in-Ok-clause-answer : goal.returns-in-Ok-clause-answer
returns-in-Ok-clause-answer g c = let f = c.frame-frame.result in let o = c.copy_out.ensures in
    let e = c.end_io.ensures in let k = c.clear_just.ensures in let w = c.write_logged.ensures in
    let after = rises_touched c.args.right.frame c.write_logged.new.seat.me.0 c.end_io.new.seat.me.0
    e.touches in
    let copied = rises_touched f c.clear_just.new.seat.me.0 c.copy_out.new.seat.me.0 o.touches in
    record {
      page = c.copy_out.new.page;
      sound = o.sound;
      cleared = c.clear_just.new.seat.me.0;
      clears = subst (λ (x : ℕ). Within (ClearsJust x) c.args.seat.now.me.0
          c.clear_just.new.seat.me.0) c.frame-frame.ensures k.clears;
      copies = subst (λ (x : ℕ). Within (Copies x c.copy_out.new.page) c.clear_just.new.seat.me.0
          c.end_io.new.seat.me.0) c.frame-frame.ensures (within_on (Copies f c.copy_out.new.page)
          c.clear_just.new.seat.me.0 c.clear_just.new.seat.me.0 c.copy_out.new.seat.me.0
          c.end_io.new.seat.me.0 (rises_none c.clear_just.new.seat.me.0)
          (within_all (Copies f c.copy_out.new.page) c.clear_just.new.seat.me.0
          c.copy_out.new.seat.me.0 o.did) (rises_on c.copy_out.new.seat.me.0
          c.write_logged.new.seat.me.0 c.end_io.new.seat.me.0 w.works.work.advances after));
      work = write_between {L = g.row.L.Denot} {G = g.row.G.Denot} g.L.BlockLane.contents
          c.args.table.now (lane_number c.args.tag (lanes_in c.args.table.now)) c.args.tag
          c.copy_out.new.page c.args.seat.now.me.0 c.copy_out.new.seat.me.0
          c.write_logged.new.seat.me.0 c.end_io.new.seat.me.0 (Ok tt)
          (ap (λ (x : View). x.device_calls) o.touches.self ∙ made_same c.args.seat.now.me.0
          c.clear_just.new.seat.me.0 k.calls) (rises_on c.args.seat.now.me.0
          c.clear_just.new.seat.me.0 c.copy_out.new.seat.me.0 k.works.work.advances copied)
          c.in-Ok.ensures.answer e.touches.self after;
    }

pub returns-in-Ok-clause-met : goal.returns-in-Ok-clause-met
returns-in-Ok-clause-met g c = ap (λ (x : View). x.met) c.end_io.ensures.touches.self
    ∙ c.in-Ok.ensures.met ∙ (ap (λ (x : View). x.met) c.copy_out.ensures.touches.self
    ∙ c.clear_just.ensures.met)

pub end_io-requires-in-Err-clause-headless : goal.end_io-requires-in-Err-clause-headless
end_io-requires-in-Err-clause-headless g c = let f = c.frame-frame.result in
    let w = c.write_logged.ensures in
    headless c.args.held.now f c.write_logged.new.seat.me.0 (beside_kept f c.args.held.now
    c.args.seat.now.me.0 c.write_logged.new.seat.me.0 (λ h n. w.works.work.others h n
    ∙ c.copy_out.ensures.touches.others h n ∙ c.clear_just.ensures.works.work.others h n)
    (subst (λ (x : ℕ). LinksRestBeside x c.args.held.now c.args.seat.now.me.0)
    (sym c.frame-frame.ensures) c.requires.others)) w.shares.no_header

pub end_io-requires-in-Err-clause-no_write : goal.end_io-requires-in-Err-clause-no_write
end_io-requires-in-Err-clause-no_write g c = no_write _ c.write_logged.new.seat.me.0
    c.write_logged.ensures.works.stands.quiet

pub returns-in-Err-clause-works : goal.returns-in-Err-clause-works
returns-in-Err-clause-works g c = let o = c.copy_out.ensures in let e = c.end_io-in-Err.ensures in
    and_ended io_end.Bad (subst (λ (x : ℕ). Works x c.args.table.now c.args.seat.now
    c.write_logged.new.seat) c.frame-frame.ensures (works_then
    (and_changed c.clear_just.ensures.works o.seat o.touches o.marks o.copied refl refl refl)
    c.write_logged.ensures.works)) e.seat e.touches e.marks.1 e.ended

pub returns-in-Err-clause-shares : goal.returns-in-Err-clause-shares
returns-in-Err-clause-shares g c = sharing_ended io_end.Bad (packed_tag c.args.tag)
    (link c.write_logged.new.seat.me.0 c.args.right.frame) (link c.end_io-in-Err.new.seat.me.0
    c.args.right.frame) (subst (λ (x : ℕ). IsSharing Output (packed_tag c.args.tag)
    (link c.write_logged.new.seat.me.0 x)) c.frame-frame.ensures c.write_logged.ensures.shares)
    c.end_io-in-Err.ensures.ended

pub returns-in-Err-clause-answer : goal.returns-in-Err-clause-answer
returns-in-Err-clause-answer g c = let f = c.frame-frame.result in let o = c.copy_out.ensures in
    let e = c.end_io-in-Err.ensures in let k = c.clear_just.ensures in
    let w = c.write_logged.ensures in
    let after = rises_touched c.args.right.frame c.write_logged.new.seat.me.0
    c.end_io-in-Err.new.seat.me.0 e.touches in
    let copied = rises_touched f c.clear_just.new.seat.me.0 c.copy_out.new.seat.me.0 o.touches in
    record {
      page = c.copy_out.new.page;
      sound = o.sound;
      cleared = c.clear_just.new.seat.me.0;
      clears = subst (λ (x : ℕ). Within (ClearsJust x) c.args.seat.now.me.0
          c.clear_just.new.seat.me.0) c.frame-frame.ensures k.clears;
      copies = subst (λ (x : ℕ). Within (Copies x c.copy_out.new.page) c.clear_just.new.seat.me.0
          c.end_io-in-Err.new.seat.me.0) c.frame-frame.ensures (within_on
          (Copies f c.copy_out.new.page) c.clear_just.new.seat.me.0 c.clear_just.new.seat.me.0
          c.copy_out.new.seat.me.0 c.end_io-in-Err.new.seat.me.0 (rises_none
          c.clear_just.new.seat.me.0) (within_all (Copies f c.copy_out.new.page)
          c.clear_just.new.seat.me.0 c.copy_out.new.seat.me.0 o.did)
          (rises_on c.copy_out.new.seat.me.0 c.write_logged.new.seat.me.0
          c.end_io-in-Err.new.seat.me.0 w.works.work.advances after));
      work = write_between {L = g.row.L.Denot} {G = g.row.G.Denot} g.L.BlockLane.contents
          c.args.table.now (lane_number c.args.tag (lanes_in c.args.table.now)) c.args.tag
          c.copy_out.new.page c.args.seat.now.me.0 c.copy_out.new.seat.me.0
          c.write_logged.new.seat.me.0 c.end_io-in-Err.new.seat.me.0 (Err c.in-Err.why)
          (ap (λ (x : View). x.device_calls) o.touches.self ∙ made_same c.args.seat.now.me.0
          c.clear_just.new.seat.me.0 k.calls) (rises_on c.args.seat.now.me.0
          c.clear_just.new.seat.me.0 c.copy_out.new.seat.me.0 k.works.work.advances copied)
          c.in-Err.ensures.answer e.touches.self after;
    }

pub returns-in-Err-clause-met : goal.returns-in-Err-clause-met
returns-in-Err-clause-met g c = ap (λ (x : View). x.met) c.end_io-in-Err.ensures.touches.self
    ∙ c.in-Err.ensures.met ∙ ap (met_refused c.in-Err.why) (ap (λ (x : View). x.met)
    c.copy_out.ensures.touches.self ∙ c.clear_just.ensures.met)

pub returns-in-Err-clause-ended : goal.returns-in-Err-clause-ended
returns-in-Err-clause-ended g c = let e = c.end_io-in-Err.ensures in
    ended_in_error c.args.right.frame c.args.seat.now.me.0 c.write_logged.new.seat.me.0
    c.end_io-in-Err.new.seat.me.0 (rises_on c.args.seat.now.me.0 c.copy_out.new.seat.me.0
    c.write_logged.new.seat.me.0 (rises_on c.args.seat.now.me.0 c.clear_just.new.seat.me.0
    c.copy_out.new.seat.me.0 c.clear_just.ensures.works.work.advances
    (rises_touched c.frame-frame.result c.clear_just.new.seat.me.0 c.copy_out.new.seat.me.0
    c.copy_out.ensures.touches)) c.write_logged.ensures.works.work.advances) e.did
    (subst (λ (x : ℕ). (link c.write_logged.new.seat.me.0 x).io ≡ Output) c.frame-frame.ensures
    c.write_logged.ensures.shares.right)
    (had_output_marked c.copy_out.new.seat.me.0 c.write_logged.new.seat.me.0
    c.write_logged.ensures.marks ∙ had_output_marked c.clear_just.new.seat.me.0
    c.copy_out.new.seat.me.0 c.copy_out.ensures.marks ∙ had_output_marked c.args.seat.now.me.0
    c.clear_just.new.seat.me.0 c.clear_just.ensures.marks ∙ c.requires.begun)

pub returns-in-Ok-clause-written : goal.returns-in-Ok-clause-written
returns-in-Ok-clause-written g c = let e = c.end_io.ensures in
    ended_written c.args.right.frame c.args.seat.now.me.0 c.write_logged.new.seat.me.0
    c.end_io.new.seat.me.0 (rises_on c.args.seat.now.me.0 c.copy_out.new.seat.me.0
    c.write_logged.new.seat.me.0 (rises_on c.args.seat.now.me.0 c.clear_just.new.seat.me.0
    c.copy_out.new.seat.me.0 c.clear_just.ensures.works.work.advances
    (rises_touched c.frame-frame.result c.clear_just.new.seat.me.0 c.copy_out.new.seat.me.0
    c.copy_out.ensures.touches)) c.write_logged.ensures.works.work.advances) e.did
    (subst (λ (x : ℕ). (link c.write_logged.new.seat.me.0 x).io ≡ Output) c.frame-frame.ensures
    c.write_logged.ensures.shares.right)
    (had_output_marked c.copy_out.new.seat.me.0 c.write_logged.new.seat.me.0
    c.write_logged.ensures.marks ∙ had_output_marked c.clear_just.new.seat.me.0
    c.copy_out.new.seat.me.0 c.copy_out.ensures.marks ∙ had_output_marked c.args.seat.now.me.0
    c.clear_just.new.seat.me.0 c.clear_just.ensures.marks ∙ c.requires.begun)
