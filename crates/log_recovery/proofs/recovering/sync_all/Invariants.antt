use Rattle.log_recovery.specs.Steps.{IsSyncing}
use Rattle.log_recovery.proofs.recovering.sync_all.Given as goal

abbrev pub invariant-loop-index : goal.invariant-loop-index
invariant-loop-index g l =
    IsSyncing {L = g.row.L.Denot} g.L.BlockLane.contents g.L.BlockLane.failed_writes g.L.BlockLane.unsynced g.L.BlockLane.room g.L.BlockLane.read_faults g.L.BlockLane.write_faults
    l.index l.initial.lanes l.lanes
