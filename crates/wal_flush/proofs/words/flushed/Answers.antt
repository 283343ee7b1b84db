use Rattle.wal_flush.proofs.Rising.{flushed_rises}
use Rattle.wal_flush.proofs.words.flushed.Goals as goal

pub returns-clause-grows : goal.returns-clause-grows
returns-clause-grows g c = (flushed_rises _ _ _ c.load_flushed.ensures.did).grows
