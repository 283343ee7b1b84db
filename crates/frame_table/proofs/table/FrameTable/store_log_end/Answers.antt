use Rattle.frame_table.proofs.Entering.{entered_as, entered_view}
use Rattle.frame_table.proofs.table.FrameTable.store_log_end.Goals as goal

pub returns-clause-did : goal.returns-clause-did
returns-clause-did g c tag page may = let told = c.store_end_at.ensures.told in entered_as _ _ _ _ _ _ _ _ _ told.2 told.3 may

pub returns-clause-view : goal.returns-clause-view
returns-clause-view g c tag page may = entered_view _ _ _ _ _ _ _ may (returns-clause-did g c tag page may)
