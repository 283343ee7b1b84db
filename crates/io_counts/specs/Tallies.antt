-- What a backend has counted, and what it has published of that.
use Rattle.std.specs.Prelude.{◌≤◌}
use Rattle.history_core.specs.Words.{most_published}
use Rattle.io_counts.specs.declared.contexts.ByContext.{ByContext}
use Rattle.io_counts.specs.declared.contexts.ContextCounts.{ContextCounts}
use Rattle.io_counts.specs.Counts.{no_io}

-- The counts of one backend
pub record TallyState : Type 0 where
  -- what it has counted
  pub counted : ByContext
  -- what the counters of the table have of that
  pub published : ByContext

abbrev pub tally_state : ByContext → ByContext → TallyState
tally_state counted published = record { counted = counted; published = published }

-- nothing was counted
abbrev pub new_tally : TallyState
new_tally = tally_state no_io no_io

-- Each count of a context is at most the other's
pub record AreAtMost (a b : ContextCounts) : Type 0 where
  pub hits : a.hits ≤ b.hits
  pub reads : a.reads ≤ b.reads
  pub writes : a.writes ≤ b.writes
  pub evictions : a.evictions ≤ b.evictions
  pub reuses : a.reuses ≤ b.reuses

-- Each count is at most the other's
pub record AreAllAtMost (a b : ByContext) : Type 0 where
  pub no_ring : AreAtMost a.no_ring b.no_ring
  pub bulk_read : AreAtMost a.bulk_read b.bulk_read
  pub bulk_write : AreAtMost a.bulk_write b.bulk_write
  pub vacuum : AreAtMost a.vacuum b.vacuum

-- each count stands at its last value
abbrev pub last_counts : ContextCounts
last_counts = record {
  hits = most_published;
  reads = most_published;
  writes = most_published;
  evictions = most_published;
  reuses = most_published;
}

abbrev pub last_io : ByContext
last_io = record {
  no_ring = last_counts;
  bulk_read = last_counts;
  bulk_write = last_counts;
  vacuum = last_counts;
}

-- No more was published than was counted, and no count is past its last value
pub record IsTally (t : TallyState) : Type 0 where
  pub grew : AreAllAtMost t.published t.counted
  pub within : AreAllAtMost t.counted last_io
