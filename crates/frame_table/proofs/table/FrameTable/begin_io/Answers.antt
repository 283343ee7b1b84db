use Rattle.std.proofs.Common.{ap, ◌∙◌}
use Rattle.state_word.specs.Fields.{unlocked_fields}
use Rattle.frame_table.proofs.HeldWords.{begun_after, begun_touches}
use Rattle.frame_table.proofs.Marks.{begun_marks}
use Rattle.frame_table.proofs.table.FrameTable.begin_io.Goals as goal

pub swap_begun-requires-clause-new : goal.swap_begun-requires-clause-new
swap_begun-requires-clause-new g c = c.unlock_with.ensures ∙ ap unlocked_fields c.io_started.ensures

pub returns-clause-touches : goal.returns-clause-touches
returns-clause-touches g c = begun_touches _ _ _ _ _ c.swap_begun.ensures.did

pub returns-clause-begun : goal.returns-clause-begun
returns-clause-begun g c = begun_after _ _ _ _ _ c.swap_begun.ensures.did

pub returns-clause-marks : goal.returns-clause-marks
returns-clause-marks g c = begun_marks _ _ _ _ _ c.swap_begun.ensures.did
