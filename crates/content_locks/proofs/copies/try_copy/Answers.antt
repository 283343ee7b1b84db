use Rattle.std.proofs.Common.{◌∙◌}
use Rattle.frame_table.proofs.Told.{touches_on}
use Rattle.content_locks.specs.Locks.{still, again}
use Rattle.content_locks.proofs.copies.try_copy.Goals as goal

pub returns-in-Err-clause-touches : goal.returns-in-Err-clause-touches
returns-in-Err-clause-touches g c = touches_on _ _ _ _ c.look_content-was.ensures.touches c.take_copy.ensures.touches

pub returns-then-is_copying-clause-did : goal.returns-then-is_copying-clause-did
returns-then-is_copying-clause-did g c = again c.look_content-was.result still c.look_content-was.ensures.did

pub returns-in-Ok-clause-did : goal.returns-in-Ok-clause-did
returns-in-Ok-clause-did g c = (c.look_content-was.new.seat.me.0, c.look_content-was.result, again c.look_content-was.result still c.look_content-was.ensures.did, c.in-Ok.ensures.did)

pub returns-in-Err-clause-did : goal.returns-in-Err-clause-did
returns-in-Err-clause-did g c = again _ (again c.look_content-was.result still c.look_content-was.ensures.did) c.in-Err.ensures.did.2

pub returns-in-Err-clause-marks : goal.returns-in-Err-clause-marks
returns-in-Err-clause-marks g c = c.take_copy.ensures.marks ∙ c.look_content-was.ensures.marks

pub returns-in-Ok-clause-marks : goal.returns-in-Ok-clause-marks
returns-in-Ok-clause-marks g c = c.take_copy.ensures.marks ∙ c.look_content-was.ensures.marks

pub returns-in-Ok-clause-touches : goal.returns-in-Ok-clause-touches
returns-in-Ok-clause-touches g c = touches_on _ _ _ _ c.look_content-was.ensures.touches c.take_copy.ensures.touches
