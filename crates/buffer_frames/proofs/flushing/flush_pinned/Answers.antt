use Rattle.std.proofs.Common.{refl, ap, ◌∙◌}
use Rattle.block_tag.specs.Names.{lane_number, packed_tag}
use Rattle.pin_core.specs.declared.view.View.{View}
use Rattle.pin_core.specs.State.{link}
use Rattle.frame_table.specs.Seats.{lanes_in}
use Rattle.frame_table.proofs.Rising.{rises_none, rises_touched}
use Rattle.buffer_frames.proofs.Keeping.{beside_kept, stands_self}
use Rattle.buffer_frames.specs.Flushing.{met_flushing}
use Rattle.buffer_frames.proofs.Answering.{error_after, flush_between, written_after}
use Rattle.buffer_frames.proofs.Links.{sharing_taken}
use Rattle.buffer_frames.proofs.Works.{and_changed, works_none, works_then}
use Rattle.buffer_frames.proofs.flushing.flush_pinned.Goals as goal

pub flush_shared-requires-clause-stands : goal.flush_shared-requires-clause-stands
flush_shared-requires-clause-stands g c = let s = c.share.ensures in
    stands_self _ c.args.seat.now c.share.new.seat s.seat s.touches.self c.requires.stands

pub flush_shared-requires-clause-others : goal.flush_shared-requires-clause-others
flush_shared-requires-clause-others g c = beside_kept c.args.frame c.args.held.now
    c.args.seat.now.me.0 c.share.new.seat.me.0 c.share.ensures.touches.others c.requires.others

pub flush_shared-requires-clause-shares : goal.flush_shared-requires-clause-shares
flush_shared-requires-clause-shares g c = sharing_taken (packed_tag c.args.tag)
    (link c.args.seat.now.me.0 c.args.frame) (link c.share.new.seat.me.0 c.args.frame)
    c.requires.pinned.pinned c.requires.pinned.seen c.share.ensures.shared

pub returns-clause-works : goal.returns-clause-works
returns-clause-works g c = let s = c.share.ensures in works_then (and_changed
    (works_none c.args.frame c.requires.stands) s.seat s.touches s.marks s.shared refl refl refl)
    c.flush_shared.ensures.works

pub returns-clause-answer : goal.returns-clause-answer
returns-clause-answer g c = let s = c.share.ensures in
    flush_between {L = g.row.L.Denot} {G = g.row.G.Denot} g.L.BlockLane.contents c.args.table.now
    (lane_number c.args.tag (lanes_in c.args.table.now)) c.args.tag c.args.frame
    c.args.seat.now.me.0 c.share.new.seat.me.0 c.flush_shared.new.seat.me.0
    c.flush_shared.new.seat.me.0 c.flush_shared.result
    (ap (λ (x : View). x.device_calls) s.touches.self) (rises_touched c.args.frame
    c.args.seat.now.me.0 c.share.new.seat.me.0 s.touches) c.flush_shared.ensures.answer refl
    (rises_none c.flush_shared.new.seat.me.0)

pub returns-clause-met : goal.returns-clause-met
returns-clause-met g c = c.flush_shared.ensures.met ∙ ap (λ (x : View). met_flushing
    c.flush_shared.result x.met) c.share.ensures.touches.self

pub returns-clause-ended : goal.returns-clause-ended
returns-clause-ended g c = error_after c.args.frame c.args.seat.now.me.0 c.share.new.seat.me.0
    c.flush_shared.new.seat.me.0 c.flush_shared.result (rises_touched c.args.frame
    c.args.seat.now.me.0 c.share.new.seat.me.0 c.share.ensures.touches) c.flush_shared.ensures.ended

pub returns-clause-written : goal.returns-clause-written
returns-clause-written g c = written_after c.args.frame c.args.seat.now.me.0 c.share.new.seat.me.0
    c.flush_shared.new.seat.me.0 c.flush_shared.result (rises_touched c.args.frame
    c.args.seat.now.me.0 c.share.new.seat.me.0 c.share.ensures.touches)
    c.flush_shared.ensures.written
