use Rattle.pin_core.specs.State.{link}
use Rattle.frame_table.proofs.PageWork.{back_is, back_touches}
use Rattle.frame_table.proofs.Marks.{back_marks}
use Rattle.frame_table.proofs.table.FrameTable.page_back.Goals as goal

pub returns-clause-touches : goal.returns-clause-touches
returns-clause-touches g c = back_touches (link c.args.seat.now.me.0 c.args.frame) _ _ _ _ c.page_back_at.ensures.did.1

pub returns-clause-back : goal.returns-clause-back
returns-clause-back g c = back_is c.args.frame c.page_back_at.ensures.did.0 c.args.seat.now.me.0 c.page_back_at.new.seat.me.0 c.args.page c.requires.can c.page_back_at.ensures.did.1

pub returns-clause-marks : goal.returns-clause-marks
returns-clause-marks g c = back_marks (link c.args.seat.now.me.0 c.args.frame) _ _ _ _ c.page_back_at.ensures.did.1
