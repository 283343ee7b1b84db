use Rattle.log_recovery.proofs.Twice as twice
use Rattle.log_recovery.proofs.laws.parts_agree_elsewhere.Goals as goal

pub returns : goal.returns
returns g c = twice.parts g.L.BlockLane.contents g.L.BlockLane.failed_writes
