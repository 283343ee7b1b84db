use Rattle.std.proofs.Common.{refl}
use Rattle.page_core.specs.Kinds.{page_out}
use Rattle.frame_table.specs.Kinds.{pages}
use Rattle.frame_table.proofs.PageWork.{page_fresh}
use Rattle.frame_table.proofs.Marks.{did_marks}
use Rattle.frame_table.proofs.Told.{touches}
use Rattle.frame_table.proofs.table.FrameTable.page_out.Goals as goal

pub returns-clause-fresh : goal.returns-clause-fresh
returns-clause-fresh g c = page_fresh _ _ _ _ c.page_out_at.ensures.page.4

pub returns-clause-marks : goal.returns-clause-marks
returns-clause-marks g c = did_marks (pages page_out) (record { clean = refl; quiet = refl; open_ended = λ fr e. refl }) _ _ _ _ c.page_out_at.ensures.page.4

pub returns-clause-touches : goal.returns-clause-touches
returns-clause-touches g c = touches (pages page_out) (λ s f v. refl) _ _ _ _ c.page_out_at.ensures.page.4
