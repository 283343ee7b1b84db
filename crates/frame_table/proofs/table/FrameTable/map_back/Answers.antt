use Rattle.frame_table.proofs.Mapping.{back_stepped, back_work}
use Rattle.frame_table.proofs.table.FrameTable.map_back.Goals as goal

pub returns-clause-work : goal.returns-clause-work
returns-clause-work g c = back_work _ _ _ _ _ c.back_at.ensures.did

pub returns-clause-back : goal.returns-clause-back
returns-clause-back g c = back_stepped _ _ _ _ c.requires.may.unchanged c.back_at.ensures.did
