use Rattle.std.proofs.Common.{length, ◌-◌}
use Rattle.byte_devices.specs.Taken.{IsTakenUpto}
use Rattle.byte_devices.proofs.source.fill.Given as goal

abbrev pub invariant-loop-at : goal.invariant-loop-at
invariant-loop-at g l = IsTakenUpto l.at (length l.initial.piece) l.piece (g.S.Source.left l.initial.source) (g.S.Source.left l.source) (g.S.Source.faults l.initial.source) (g.S.Source.faults l.source)

abbrev pub decreases-loop-at : goal.decreases-loop-at
decreases-loop-at g l = length l.initial.piece - l.at
