use Rattle.std.proofs.Common.{◌∙◌, map, arith}
use Rattle.std.proofs.Math.Seq.{map-set_same}
use Rattle.log_recovery.proofs.Faults.{none_fell_at, none_fell_since, on_err, rose_at, rose_since}
use Rattle.log_recovery.proofs.Marking.{marks_kept, marks_of_none}
use Rattle.log_recovery.proofs.Running.{syncing_more}
use Rattle.log_recovery.proofs.recovering.sync_all.Goals as goal

pub returns-in_err-sync-clause-contents : goal.returns-in_err-sync-clause-contents
returns-in_err-sync-clause-contents g c = map-set_same g.L.BlockLane.contents c.loop-index.lanes c.loop-index.index c.sync.new.self c.index-lanes-index.result c.sync.ensures.contents ∙ c.loop-index.invariant.contents_same

pub returns-in_err-sync-clause-failed : goal.returns-in_err-sync-clause-failed
returns-in_err-sync-clause-failed g c = map-set_same g.L.BlockLane.failed_writes c.loop-index.lanes c.loop-index.index c.sync.new.self c.index-lanes-index.result c.sync.ensures.failed ∙ c.loop-index.invariant.failed_same

pub returns-in_err-sync-clause-fault : goal.returns-in_err-sync-clause-fault
returns-in_err-sync-clause-fault g c = on_err _ (rose_since _ _ _ c.loop-index.invariant.writes_same (rose_at g.L.BlockLane.write_faults c.loop-index.lanes c.loop-index.index c.sync.new.self c.index-lanes-index.result (omega arith) c.in_err-sync.ensures.writes.failed))

pub returns-in_err-sync-clause-reads : goal.returns-in_err-sync-clause-reads
returns-in_err-sync-clause-reads g c = map-set_same g.L.BlockLane.read_faults c.loop-index.lanes c.loop-index.index c.sync.new.self c.index-lanes-index.result c.sync.ensures.reads ∙ c.loop-index.invariant.reads_same

pub returns-in_err-sync-clause-room : goal.returns-in_err-sync-clause-room
returns-in_err-sync-clause-room g c = map-set_same g.L.BlockLane.room c.loop-index.lanes c.loop-index.index c.sync.new.self c.index-lanes-index.result c.sync.ensures.room ∙ c.loop-index.invariant.places_same

pub returns-in_err-sync-clause-later : goal.returns-in_err-sync-clause-later
returns-in_err-sync-clause-later g c = none_fell_since _ _ _ c.loop-index.invariant.writes_same (none_fell_at g.L.BlockLane.write_faults c.loop-index.lanes c.loop-index.index c.sync.new.self c.index-lanes-index.result (omega arith) c.in_err-sync.ensures.writes.later)

pub loop-index-preserved : goal.loop-index-preserved
loop-index-preserved g c = syncing_more {L = g.row.L.Denot} g.L.BlockLane.contents g.L.BlockLane.failed_writes g.L.BlockLane.unsynced g.L.BlockLane.room g.L.BlockLane.read_faults g.L.BlockLane.write_faults
    c.loop-index.index c.args.lanes.now c.loop-index.lanes c.sync.new.self c.index-lanes-index.result (omega arith) c.loop-index.invariant c.sync.ensures.contents c.sync.ensures.failed c.in_ok-sync.ensures.unsynced
    c.sync.ensures.room c.sync.ensures.reads c.in_ok-sync.ensures.writes.ok

pub returns-in_err-sync-clause-unsynced : goal.returns-in_err-sync-clause-unsynced
returns-in_err-sync-clause-unsynced g c = marks_of_none (λ tag. ⊥) (map g.L.BlockLane.unsynced c.args.lanes.now) (map g.L.BlockLane.unsynced c.loop-index.lanes) _ c.loop-index.invariant.unmarked
    (marks_kept {L = g.row.L.Denot} g.L.BlockLane.unsynced c.loop-index.lanes c.loop-index.index c.sync.new.self c.index-lanes-index.result (omega arith) c.in_err-sync.ensures.unsynced)
