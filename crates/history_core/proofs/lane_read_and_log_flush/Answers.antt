use Rattle.history_core.proofs.Sample.{sample}
use Rattle.history_core.proofs.lane_read_and_log_flush.Goals as goal

pub returns : goal.returns
returns c = sample
