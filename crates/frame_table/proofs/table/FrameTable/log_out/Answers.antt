use Rattle.frame_table.proofs.LogWork.{out_unnoted}
use Rattle.frame_table.proofs.table.FrameTable.log_out.Goals as goal

pub returns-clause-unnoted : goal.returns-clause-unnoted
returns-clause-unnoted g c = out_unnoted _ _ _ _ _ _ _ c.log_out_at.ensures.log c.requires.held.1
