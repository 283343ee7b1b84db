use Rattle.std.proofs.Common.{ℕ, sym, subst}
use Rattle.frame_table.specs.Seats.{Looked, Touches, locked_link}
use Rattle.frame_table.proofs.Told.{touches_on}
use Rattle.state_word.specs.Fields.{fields}
use Rattle.pin_core.specs.State.{link}
use Rattle.frame_table.specs.Seats.{IsWordOf}
use Rattle.frame_table.proofs.Marks.{ended_marks_on}
use Rattle.content_locks.specs.Io.{LocksHeader}
use Rattle.content_locks.proofs.InOut.{can_finish, finished_back}
use Rattle.content_locks.proofs.io.end_io.Goals as goal

pub returns-clause-marks : goal.returns-clause-marks
returns-clause-marks g c = (c.lock_header-word.result, ended_marks_on _ c.args.seat.now.me.0 c.lock_header-word.new.seat.me.0 c.finish_io.new.seat.me.0 c.lock_header-word.ensures.marks c.finish_io.ensures.marks)

pub returns-clause-did : goal.returns-clause-did
returns-clause-did g c = let d = c.lock_header-word.ensures.did in record {
  under = c.lock_header-word.new.seat.me.0;
  was = d.1;
  word = c.lock_header-word.result;
  locks = subst (λ (f : ℕ). LocksHeader f c.args.seat.now.me.0 c.lock_header-word.new.seat.me.0 d.1) c.frame.ensures record { before = d.0; looks = d.2; did = d.3 };
  did = c.finish_io.ensures.did;
  shows = subst (λ (f : ℕ). IsWordOf (link c.args.seat.now.me.0 f) (fields c.lock_header-word.result)) c.frame.ensures c.lock_header-word.ensures.word;
  marks = ended_marks_on _ c.args.seat.now.me.0 c.lock_header-word.new.seat.me.0 c.finish_io.new.seat.me.0 c.lock_header-word.ensures.marks c.finish_io.ensures.marks;
}

pub returns-clause-touches : goal.returns-clause-touches
returns-clause-touches g c = let k = c.lock_header-word.ensures in subst (λ (f : ℕ). Touches f c.args.seat.now.me.0 c.finish_io.new.seat.me.0) c.frame.ensures (touches_on _ _ _ _ k.touches (subst (λ (f : ℕ). Touches f c.lock_header-word.new.seat.me.0 c.finish_io.new.seat.me.0) (sym c.frame.ensures) c.finish_io.ensures.touches))

pub finish_io-requires-clause-view : goal.finish_io-requires-clause-view
finish_io-requires-clause-view g c = can_finish c.args.end c.lock_header-word.result (link c.args.seat.now.me.0 c.args.right.frame) (link c.lock_header-word.new.seat.me.0 c.args.right.frame) (subst (λ (f : ℕ). Looked (locked_link c.lock_header-word.result (link c.args.seat.now.me.0 f)) (link c.lock_header-word.new.seat.me.0 f)) c.frame.ensures c.lock_header-word.ensures.locked) c.requires.view

pub returns-clause-ended : goal.returns-clause-ended
returns-clause-ended g c = finished_back c.args.end c.lock_header-word.result (link c.args.seat.now.me.0 c.args.right.frame) (link c.lock_header-word.new.seat.me.0 c.args.right.frame) _ (subst (λ (f : ℕ). Looked (locked_link c.lock_header-word.result (link c.args.seat.now.me.0 f)) (link c.lock_header-word.new.seat.me.0 f)) c.frame.ensures c.lock_header-word.ensures.locked) c.finish_io.ensures.finished
