use Rattle.std.proofs.Common.{refl, ap, ◌∙◌}
use Rattle.state_word.specs.Fields.{unlocked_fields}
use Rattle.page_core.specs.Kinds.{end_io}
use Rattle.frame_table.specs.Kinds.{pages}
use Rattle.frame_table.proofs.Told.{touches, link_is}
use Rattle.frame_table.proofs.Marks.{ended_marks}
use Rattle.frame_table.proofs.table.FrameTable.finish_io.Goals as goal

pub swap_finished-requires-clause-new : goal.swap_finished-requires-clause-new
swap_finished-requires-clause-new g c = c.unlock_with.ensures ∙ ap unlocked_fields c.io_ended.ensures

pub returns-clause-touches : goal.returns-clause-touches
returns-clause-touches g c = touches (pages (end_io c.args.end)) (λ s f v. refl) _ _ _ _ c.swap_finished.ensures.did

pub returns-clause-finished : goal.returns-clause-finished
returns-clause-finished g c = link_is (pages (end_io c.args.end)) _ _ _ _ c.swap_finished.ensures.did

pub returns-clause-marks : goal.returns-clause-marks
returns-clause-marks g c = ended_marks _ _ _ _ _ c.swap_finished.ensures.did
