use Rattle.history_core.proofs.Torn.{crash_runs}
use Rattle.history_core.proofs.crash_and_redo.Goals as goal

pub returns : goal.returns
returns c = crash_runs
