use Rattle.std.proofs.Common.{refl}
use Rattle.frame_table.specs.FrameSteps.{looking}
use Rattle.frame_table.proofs.Origins.{opened_fits}
use Rattle.frame_table.proofs.Told.{touches, loads_link, looked}
use Rattle.frame_table.proofs.Seeing.{handed_sees, need_not_write, passes_clean, sees_over, word_seen}
use Rattle.frame_table.proofs.Marks.{did_marks}
use Rattle.frame_table.proofs.table.FrameTable.look.Goals as goal

pub returns-clause-touches : goal.returns-clause-touches
returns-clause-touches g c = touches looking (λ s f v. refl) _ _ _ _ c.look_at.ensures.did

pub returns-clause-link : goal.returns-clause-link
returns-clause-link g c = looked _ _ _ _ c.look_at.ensures.did

pub returns-clause-loaded : goal.returns-clause-loaded
returns-clause-loaded g c = loads_link _ _ _ _ c.look_at.ensures.did

pub returns-clause-seen : goal.returns-clause-seen
returns-clause-seen g c = handed_sees _ _ _ _ c.look_at.ensures.did

pub returns-clause-marks : goal.returns-clause-marks
returns-clause-marks g c = did_marks looking tt _ _ _ _ c.look_at.ensures.did

pub returns-clause-over : goal.returns-clause-over
returns-clause-over g c = sees_over _ _ _ _ c.look_at.ensures.did

pub returns-clause-visited : goal.returns-clause-visited
returns-clause-visited g c = passes_clean _ _ _ _ c.look_at.ensures.did

pub returns-clause-written : goal.returns-clause-written
returns-clause-written g c = need_not_write _ _ _ _ c.look_at.ensures.did

pub returns-clause-word : goal.returns-clause-word
returns-clause-word g c = word_seen looking refl _ _ _ _ c.look_at.ensures.did

pub returns-clause-opening : goal.returns-clause-opening
returns-clause-opening g c = opened_fits g.L.BlockLane.contents c.args.self.now _ _ c.look_at.ensures.fits
