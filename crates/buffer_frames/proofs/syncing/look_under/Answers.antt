use Rattle.std.proofs.Common.{◌∙◌, sym, subst}
use Rattle.state_word.specs.Fields.{fields}
use Rattle.pin_core.specs.State.{link}
use Rattle.frame_table.specs.Seats.{IsWordOf}
use Rattle.frame_table.proofs.Told.{touches_on}
use Rattle.buffer_frames.proofs.Heading.{headless_rest}
use Rattle.buffer_frames.proofs.Passing.{locked_as, pins_kept}
use Rattle.buffer_frames.proofs.syncing.look_under.Goals as goal

pub lock_header-requires-clause-headless : goal.lock_header-requires-clause-headless
lock_header-requires-clause-headless g c = headless_rest c.args._held.now c.args.seat.now.me.0 c.requires.rests

pub returns-clause-touches : goal.returns-clause-touches
returns-clause-touches g c = touches_on c.args.frame c.args.seat.now.me.0 c.lock_header.new.seat.me.0 c.look.new.seat.me.0 c.lock_header.ensures.touches c.look.ensures.touches

pub returns-clause-marks : goal.returns-clause-marks
returns-clause-marks g c = c.look.ensures.marks ∙ c.lock_header.ensures.marks

pub returns-clause-locked : goal.returns-clause-locked
returns-clause-locked g c = locked_as c.lock_header.result c.look.result (link c.args.seat.now.me.0 c.args.frame) (link c.lock_header.new.seat.me.0 c.args.frame) (link c.look.new.seat.me.0 c.args.frame) c.lock_header.ensures.locked c.look.ensures.link (c.look.ensures.word.held (fields c.lock_header.result) c.lock_header.ensures.locked.header)

pub returns-clause-word : goal.returns-clause-word
returns-clause-word g c = subst (IsWordOf (link c.args.seat.now.me.0 c.args.frame)) (sym (c.look.ensures.word.held (fields c.lock_header.result) c.lock_header.ensures.locked.header)) c.lock_header.ensures.word

pub returns-clause-looks : goal.returns-clause-looks
returns-clause-looks g c = let d = c.lock_header.ensures.did in record {
  under = c.lock_header.new.seat.me.0;
  was = d.1;
  locks = record { before = d.0; looks = d.2; did = d.3 };
  pins = pins_kept c.args.frame c.args.seat.now.me.0 c.lock_header.new.seat.me.0 c.lock_header.ensures.touches.others c.lock_header.ensures.locked.role;
  looks = c.look.ensures.did;
}
