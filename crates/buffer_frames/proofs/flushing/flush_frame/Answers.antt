use Rattle.pin_core.specs.State.{link}
use Rattle.buffer_frames.proofs.Keeping.{beside, beside_kept, rests_with}
use Rattle.buffer_frames.proofs.Answering.{pinned_of_rests, rests_of_pinned}
use Rattle.buffer_frames.proofs.WorkSteps.{latches_worked}
use Rattle.buffer_frames.proofs.flushing.flush_frame.Goals as goal

pub flush_pinned-requires-clause-others : goal.flush_pinned-requires-clause-others
flush_pinned-requires-clause-others g c = beside c.args.frame c.args.held.now c.args.seat.now.me.0
    c.requires.rests

pub flush_pinned-requires-clause-pinned : goal.flush_pinned-requires-clause-pinned
flush_pinned-requires-clause-pinned g c = (pinned_of_rests c.args.tag c.args.frame c.args.held.now
    (link c.args.seat.now.me.0 c.args.frame) c.requires.pinned (c.requires.rests c.args.frame)
    c.requires.unlocked)

pub returns-clause-latches : goal.returns-clause-latches
returns-clause-latches g c = latches_worked c.args.frame c.args.seat.now.me.0
    c.flush_pinned.new.seat.me.0 c.flush_pinned.ensures.works.work c.requires.latches

pub returns-clause-rests : goal.returns-clause-rests
returns-clause-rests g c = let f = c.args.frame in let t = c.args.held.now in
    let e = c.flush_pinned.ensures in
    rests_with f t c.flush_pinned.new.seat.me.0 (beside_kept f t c.args.seat.now.me.0
    c.flush_pinned.new.seat.me.0 e.works.work.others (beside f t c.args.seat.now.me.0
    c.requires.rests))
    (rests_of_pinned c.args.tag f t (link c.args.seat.now.me.0 f) (link c.flush_pinned.new.seat.me.0
    f) (c.requires.rests f) (pinned_of_rests c.args.tag f t (link c.args.seat.now.me.0 f)
    c.requires.pinned (c.requires.rests f) c.requires.unlocked).pinned.remembered
    e.pinned.pinned e.works.role e.pinned.seen)

pub returns-clause-unlocked : goal.returns-clause-unlocked
returns-clause-unlocked g c = c.flush_pinned.ensures.pinned.pinned.unlocked
