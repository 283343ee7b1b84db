use Rattle.std.proofs.Common.{◌∙◌}
use Rattle.frame_table.proofs.Told.{touches_on}
use Rattle.content_locks.proofs.Locking.{held_word}
use Rattle.content_locks.proofs.locks.try_exclusive.Goals as goal

pub returns-in-Ok-clause-did : goal.returns-in-Ok-clause-did
returns-in-Ok-clause-did g c = (c.look_content-was.new.seat.me.0, c.look_content-was.result, c.look_content-was.ensures.did, c.in-Ok.ensures.did)

pub returns-in-Err-clause-touches : goal.returns-in-Err-clause-touches
returns-in-Err-clause-touches g c = touches_on _ _ _ _ c.look_content-was.ensures.touches c.set_exclusive.ensures.touches

pub returns-then-was-ne0-clause-cause : goal.returns-then-was-ne0-clause-cause
returns-then-was-ne0-clause-cause g c = (c.look_content-was.ensures.did, held_word _ _ _ _ c.look_content-was.ensures.did c.if-was-ne0.true)

pub returns-in-Err-clause-marks : goal.returns-in-Err-clause-marks
returns-in-Err-clause-marks g c = c.set_exclusive.ensures.marks ∙ c.look_content-was.ensures.marks

pub returns-in-Ok-clause-marks : goal.returns-in-Ok-clause-marks
returns-in-Ok-clause-marks g c = c.set_exclusive.ensures.marks ∙ c.look_content-was.ensures.marks

pub returns-in-Ok-clause-touches : goal.returns-in-Ok-clause-touches
returns-in-Ok-clause-touches g c = touches_on _ _ _ _ c.look_content-was.ensures.touches c.set_exclusive.ensures.touches
