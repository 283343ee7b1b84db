use Rattle.std.proofs.Common.{false}
use Rattle.frame_table.proofs.Taking.{turn_after}
use Rattle.frame_table.proofs.table.FrameTable.leave_turn.Goals as goal

pub returns-in-Log-clause-turned : goal.returns-in-Log-clause-turned
returns-in-Log-clause-turned g c = turn_after false _ _ _ c.leave_at.ensures.did

pub returns-in_default-clause-turned : goal.returns-in_default-clause-turned
returns-in_default-clause-turned g c = turn_after false _ _ _ c.leave_at.ensures.did
