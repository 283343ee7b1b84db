-- Counts of I/O events, by contexts, and what events make of them.
use Rattle.std.specs.Prelude.{ℕ, ◌+◌, min, max, Option, Some, None, option_map}
use Rattle.access_rings.specs.declared.ring.RingKind.{RingKind}
use Rattle.access_rings.specs.declared.ring.RingKind.TheVariants.{BulkRead, BulkWrite, Vacuum}
use Rattle.access_rings.specs.RingState.{RingState}
use Rattle.history_core.specs.Words.{most_published}
use Rattle.io_counts.specs.declared.contexts.ByContext.{ByContext}
use Rattle.io_counts.specs.declared.contexts.ContextCounts.{ContextCounts}
use Rattle.io_counts.specs.declared.contexts.IoEvent.{IoEvent}
use Rattle.io_counts.specs.declared.contexts.IoEvent.TheVariants.{Hit, Read, Write, Eviction, Reuse}

-- a count that rises by so much, but stands still at its last value
abbrev pub raised : ℕ → ℕ → ℕ
raised n more = max n (min (n + more) most_published)

-- the context of calls that are given this ring, or none: its kind
abbrev pub context_of : Option RingState → Option RingKind
context_of ring = option_map RingState.kind ring

-- no event
abbrev pub no_counts : ContextCounts
no_counts = record { hits = 0; reads = 0; writes = 0; evictions = 0; reuses = 0 }

abbrev pub no_io : ByContext
no_io = record {
  no_ring = no_counts;
  bulk_read = no_counts;
  bulk_write = no_counts;
  vacuum = no_counts;
}

-- one event
abbrev pub one_of : IoEvent → ContextCounts
one_of Hit = record no_counts { hits = 1 }
one_of Read = record no_counts { reads = 1 }
one_of Write = record no_counts { writes = 1 }
one_of Eviction = record no_counts { evictions = 1 }
one_of Reuse = record no_counts { reuses = 1 }

-- so many events of one context, and then so many
abbrev pub counts_sum : ContextCounts → ContextCounts → ContextCounts
counts_sum a b = record {
  hits = a.hits + b.hits;
  reads = a.reads + b.reads;
  writes = a.writes + b.writes;
  evictions = a.evictions + b.evictions;
  reuses = a.reuses + b.reuses;
}

-- what so many events make of the counts of their context
abbrev pub counts_with : ContextCounts → ContextCounts → ContextCounts
counts_with events c = record {
  hits = raised c.hits events.hits;
  reads = raised c.reads events.reads;
  writes = raised c.writes events.writes;
  evictions = raised c.evictions events.evictions;
  reuses = raised c.reuses events.reuses;
}

-- what so many events in the context of a ring of this kind, or of none, make of the counts
abbrev pub io_with : Option RingKind → ContextCounts → ByContext → ByContext
io_with None events io = record io { no_ring = counts_with events io.no_ring }
io_with (Some BulkRead) events io = record io { bulk_read = counts_with events io.bulk_read }
io_with (Some BulkWrite) events io = record io { bulk_write = counts_with events io.bulk_write }
io_with (Some Vacuum) events io = record io { vacuum = counts_with events io.vacuum }
