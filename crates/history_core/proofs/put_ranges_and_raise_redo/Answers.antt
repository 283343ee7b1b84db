use Rattle.history_core.proofs.Ranges.{edits_run}
use Rattle.history_core.proofs.put_ranges_and_raise_redo.Goals as goal

pub returns : goal.returns
returns c = edits_run
