use Rattle.frame_table.proofs.Ending.{final_ends, final_closes}
use Rattle.frame_table.proofs.table.FrameTable.close.Goals as goal

pub take_closed-requires-clause-ends : goal.take_closed-requires-clause-ends
take_closed-requires-clause-ends g c = let r = c.requires in final_ends _ _ _ _ _ _ c.close_with.ensures.values.2 r.first r.live r.free r.joined

pub returns : goal.returns
returns g c = let r = c.requires in let t = c.take_closed.ensures in final_closes _ _ _ _ _ _ c.close_with.ensures.values.2 r.first r.live r.free r.joined _ _ t.0 t.1 t.2 t.3 t.4
