use Rattle.wal_flush.proofs.Views.{holder_refused}
use Rattle.wal_flush.proofs.flushes.flush_held.Goals as goal

pub returns-in-Err-clause-cause : goal.returns-in-Err-clause-cause
returns-in-Err-clause-cause g c = let s = c.load_flushed in
    holder_refused _ _ _ _ s.new.seat.me.0 _ c.if-lsn-end.false (record { found = s.result; did = s.ensures.did; before = c.if-lsn-load_flushed.false }) c.in-Err.ensures.cause
