use Rattle.std.proofs.Common.{map, refl}
use Rattle.log_recovery.proofs.Marking.{marks_synced}
use Rattle.log_recovery.proofs.Running.{part_all}
use Rattle.log_recovery.proofs.recovering.recover.Goals as goal

pub returns-in-Err-clause-part : goal.returns-in-Err-clause-part
returns-in-Err-clause-part g c = part_all {L = g.row.L.Denot} g.L.BlockLane.contents g.L.BlockLane.failed_writes c.args.catalog.now (g.S.Source.left c.args.source.now) c.args.lanes.now c.redo_log.new.lanes c.sync_all.new.lanes c.in_ok-progress.progress c.in_ok-progress.ensures.done
    c.sync_all.ensures.contents c.sync_all.ensures.failed

pub returns-in-Err-clause-unsynced : goal.returns-in-Err-clause-unsynced
returns-in-Err-clause-unsynced g c = marks_synced _ (map g.L.BlockLane.unsynced c.args.lanes.now) (map g.L.BlockLane.unsynced c.redo_log.new.lanes) (map g.L.BlockLane.unsynced c.sync_all.new.lanes) c.redo_log.ensures.unsynced c.sync_all.ensures.unsynced

pub returns-clause-unsynced : goal.returns-clause-unsynced
returns-clause-unsynced g c = marks_synced _ (map g.L.BlockLane.unsynced c.args.lanes.now) (map g.L.BlockLane.unsynced c.redo_log.new.lanes) (map g.L.BlockLane.unsynced c.sync_all.new.lanes) c.redo_log.ensures.unsynced c.sync_all.ensures.unsynced

pub returns-in-Err-clause-marked : goal.returns-in-Err-clause-marked
returns-in-Err-clause-marked g c = λ other. absurd (other refl)
