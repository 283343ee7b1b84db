use Rattle.wal_flush.proofs.Inserting.{adds_torn, did_insert, view_inserted, link_inserted, others_stay, refused_insert, seen_refused, view_refused, work_stays}
use Rattle.wal_flush.proofs.Rising.{insert_rises}
use Rattle.wal_flush.proofs.inserts.insert.Goals as goal

pub returns-clause-view : goal.returns-clause-view
returns-clause-view g c = let e = c.enter-result.ensures in view_inserted _ _ _ _ _ _ _ _ c.take_end-end.ensures.did c.leave_turn.ensures.did _ _ e.entered c.requires.free e.lsn

pub returns-clause-entered : goal.returns-clause-entered
returns-clause-entered g c = link_inserted _ _ _ _ _ _ _ _ c.take_end-end.ensures.did c.leave_turn.ensures.did _ _ c.enter-result.ensures.entered c.requires.free

pub returns-clause-torn : goal.returns-clause-torn
returns-clause-torn g c = let e = c.enter-result.ensures in adds_torn _ _ _ _ _ _ _ _ c.take_end-end.ensures.did c.leave_turn.ensures.did _ _ _ e.entered e.cause

pub returns-clause-left : goal.returns-clause-left
returns-clause-left g c = view_refused _ _ _ _ _ _ _ _ c.take_end-end.ensures.did c.leave_turn.ensures.did _ _ c.enter-result.ensures.cause c.requires.free

pub returns-clause-did : goal.returns-clause-did
returns-clause-did g c = let e = c.enter-result.ensures in did_insert _ _ _ _ _ _ _ _ c.take_end-end.ensures.did c.leave_turn.ensures.did _ _ e.entered c.take_end-end.ensures.front e.lsn

pub returns-clause-cause : goal.returns-clause-cause
returns-clause-cause g c = refused_insert _ _ _ _ _ _ _ _ c.take_end-end.ensures.did c.leave_turn.ensures.did _ _ c.enter-result.ensures.cause

pub returns-clause-others : goal.returns-clause-others
returns-clause-others g c =
    others_stay _ _ _ _ _ _ _ _ c.take_end-end.ensures.did c.leave_turn.ensures.did _ _ c.enter-result.ensures.entered c.requires.free

pub returns-clause-work : goal.returns-clause-work
returns-clause-work g c = work_stays _ _ _ (returns-clause-left g c)

pub returns-clause-seen : goal.returns-clause-seen
returns-clause-seen g c = seen_refused _ _ _ _ _ _ _ (returns-clause-cause g c)

pub returns-clause-rises : goal.returns-clause-rises
returns-clause-rises g c = insert_rises _ _ _ _ _ _ _ _ (returns-clause-did g c) (returns-clause-cause g c)
