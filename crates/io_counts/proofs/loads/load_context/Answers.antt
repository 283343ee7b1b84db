use Rattle.io_counts.proofs.loads.load_context.Goals as goal

pub returns-clause-most : goal.returns-clause-most
returns-clause-most g c = record {
  hits = c.load_counter-hits.ensures.most;
  reads = c.load_counter-reads.ensures.most;
  writes = c.load_counter-writes.ensures.most;
  evictions = c.load_counter-evictions.ensures.most;
  reuses = c.load_counter-reuses.ensures.most;
}

pub returns-clause-did : goal.returns-clause-did
returns-clause-did g c = (
  c.load_counter-hits.new.seat.me.0,
  c.load_counter-reads.new.seat.me.0,
  c.load_counter-writes.new.seat.me.0,
  c.load_counter-evictions.new.seat.me.0,
  c.load_counter-hits.ensures.did,
  c.load_counter-reads.ensures.did,
  c.load_counter-writes.ensures.did,
  c.load_counter-evictions.ensures.did,
  c.load_counter-reuses.ensures.did,
)
