use Rattle.frame_table.proofs.WordSteps.{redo_below}
use Rattle.frame_table.proofs.table.FrameTable.load_redo.Goals as goal

pub returns-clause-within : goal.returns-clause-within
returns-clause-within g c = redo_below _ _ _ c.redo_at.ensures.did
