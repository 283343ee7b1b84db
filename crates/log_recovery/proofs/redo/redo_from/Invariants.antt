use Rattle.std.proofs.Common.{◌-◌, ◌^◌}
use Rattle.log_recovery.specs.Steps.{IsUnderWay}
use Rattle.log_recovery.proofs.redo.redo_from.Given as goal

abbrev pub invariant-loop-progress : goal.invariant-loop-progress
invariant-loop-progress g l =
    IsUnderWay {L = g.row.L.Denot} g.L.BlockLane.contents g.L.BlockLane.failed_writes g.L.BlockLane.unsynced g.L.BlockLane.room g.L.BlockLane.read_faults g.L.BlockLane.write_faults
    l.catalog l.fn.base (g.S.Source.left l.initial.source) (g.S.Source.left l.source) (g.S.Source.faults l.initial.source) (g.S.Source.faults l.source) l.initial.lanes l.lanes l.progress

abbrev pub decreases-loop-progress : goal.decreases-loop-progress
decreases-loop-progress g l = 2 ^ 62 - l.progress.position
