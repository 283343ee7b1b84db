use Rattle.wal_flush.proofs.Rising.{end_rises}
use Rattle.wal_flush.proofs.LogSteps.{end_later}
use Rattle.wal_flush.proofs.words.log_end.Goals as goal

pub returns-clause-grows : goal.returns-clause-grows
returns-clause-grows g c = (end_rises _ _ _ c.load_log_end.ensures.did).grows

pub returns-clause-later : goal.returns-clause-later
returns-clause-later g c = end_later _ _ _ c.load_log_end.ensures.did
