use Rattle.frame_table.proofs.Origins.{opened_held, opened_logged}
use Rattle.frame_table.proofs.WordSteps.{end_is_seen, end_later, unmarks}
use Rattle.frame_table.proofs.table.FrameTable.load_log_end.Goals as goal

pub returns-clause-origin : goal.returns-clause-origin
returns-clause-origin g c = opened_held g.L.BlockLane.contents c.args.self.now c.args.what _ _ c.end_at.ensures.held

pub returns-clause-logged : goal.returns-clause-logged
returns-clause-logged g c = opened_logged g.L.BlockLane.contents c.args.self.now _ c.args.seat.now.me.0 c.end_at.ensures.logged

pub returns-clause-later : goal.returns-clause-later
returns-clause-later g c = end_later c.args.what _ _ _ c.end_at.ensures.did

pub returns-clause-seen : goal.returns-clause-seen
returns-clause-seen g c = end_is_seen c.args.what _ _ _ c.end_at.ensures.did

pub returns-clause-unmarked : goal.returns-clause-unmarked
returns-clause-unmarked g c = unmarks c.args.what _ _ _ c.end_at.ensures.did.after
