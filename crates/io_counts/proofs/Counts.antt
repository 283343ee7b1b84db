-- Counts that rise, one event after another.
use Rattle.std.proofs.Common.{◌≡◌, ℕ, ◌+◌, ◌≤◌, Option, Some, None, ap, arith}
use Rattle.access_rings.specs.declared.ring.RingKind.{RingKind}
use Rattle.access_rings.specs.declared.ring.RingKind.TheVariants.{BulkRead, BulkWrite, Vacuum}
use Rattle.history_core.specs.Words.{most_published}
use Rattle.io_counts.specs.declared.contexts.ByContext.{ByContext}
use Rattle.io_counts.specs.declared.contexts.ContextCounts.{ContextCounts}
use Rattle.io_counts.specs.Counts.{counts_sum, counts_with, io_with, no_counts, raised}
use Rattle.io_counts.specs.Tallies.{AreAtMost, IsTally, last_counts, tally_state}

-- no event leaves a count
pub raised_none : (n : ℕ) → raised n 0 ≡ n
raised_none n = omega arith

-- so many events, and then so many
pub raised_twice : (n a b : ℕ) → raised (raised n a) b ≡ raised n (a + b)
raised_twice n a b = omega arith

-- a count never falls, and stays within its last value
pub raised_above : (m n more : ℕ) → m ≤ n → m ≤ raised n more
raised_above m n more h = omega arith

pub raised_within : (n more : ℕ) → n ≤ most_published → raised n more ≤ most_published
raised_within n more h = omega arith

-- counts that agree one by one
pub same_counts : (a b : ContextCounts) → a.hits ≡ b.hits → a.reads ≡ b.reads → a.writes ≡ b.writes → a.evictions ≡ b.evictions → a.reuses ≡ b.reuses → a ≡ b
same_counts a b hits reads writes evictions reuses i = record { hits = hits i; reads = reads i; writes = writes i; evictions = evictions i; reuses = reuses i }

-- the same of the counts of a context
pub counts_none : (c : ContextCounts) → counts_with no_counts c ≡ c
counts_none c = same_counts (counts_with no_counts c) c (raised_none c.hits) (raised_none c.reads) (raised_none c.writes) (raised_none c.evictions) (raised_none c.reuses)

pub counts_twice : (a b c : ContextCounts) → counts_with b (counts_with a c) ≡ counts_with (counts_sum a b) c
counts_twice a b c = same_counts (counts_with b (counts_with a c)) (counts_with (counts_sum a b) c) (raised_twice c.hits a.hits b.hits) (raised_twice c.reads a.reads b.reads) (raised_twice c.writes a.writes b.writes) (raised_twice c.evictions a.evictions b.evictions) (raised_twice c.reuses a.reuses b.reuses)

pub counts_above : (p c events : ContextCounts) → AreAtMost p c → AreAtMost p (counts_with events c)
counts_above p c events h = record {
  hits = raised_above p.hits c.hits events.hits h.hits;
  reads = raised_above p.reads c.reads events.reads h.reads;
  writes = raised_above p.writes c.writes events.writes h.writes;
  evictions = raised_above p.evictions c.evictions events.evictions h.evictions;
  reuses = raised_above p.reuses c.reuses events.reuses h.reuses;
}

pub counts_within : (c events : ContextCounts) → AreAtMost c last_counts → AreAtMost (counts_with events c) last_counts
counts_within c events h = record {
  hits = raised_within c.hits events.hits h.hits;
  reads = raised_within c.reads events.reads h.reads;
  writes = raised_within c.writes events.writes h.writes;
  evictions = raised_within c.evictions events.evictions h.evictions;
  reuses = raised_within c.reuses events.reuses h.reuses;
}

-- and of the counts of all contexts
pub io_none : (context : Option RingKind) (io : ByContext) → io_with context no_counts io ≡ io
io_none None io = ap (λ (c : ContextCounts). record io { no_ring = c }) (counts_none io.no_ring)
io_none (Some BulkRead) io = ap (λ (c : ContextCounts). record io { bulk_read = c }) (counts_none io.bulk_read)
io_none (Some BulkWrite) io = ap (λ (c : ContextCounts). record io { bulk_write = c }) (counts_none io.bulk_write)
io_none (Some Vacuum) io = ap (λ (c : ContextCounts). record io { vacuum = c }) (counts_none io.vacuum)

pub io_twice : (context : Option RingKind) (a b : ContextCounts) (io : ByContext) → io_with context b (io_with context a io) ≡ io_with context (counts_sum a b) io
io_twice None a b io = ap (λ (c : ContextCounts). record io { no_ring = c }) (counts_twice a b io.no_ring)
io_twice (Some BulkRead) a b io = ap (λ (c : ContextCounts). record io { bulk_read = c }) (counts_twice a b io.bulk_read)
io_twice (Some BulkWrite) a b io = ap (λ (c : ContextCounts). record io { bulk_write = c }) (counts_twice a b io.bulk_write)
io_twice (Some Vacuum) a b io = ap (λ (c : ContextCounts). record io { vacuum = c }) (counts_twice a b io.vacuum)

-- a tally stays one
pub tally_counts : (context : Option RingKind) (events : ContextCounts) (counted published : ByContext) → IsTally (tally_state counted published) → IsTally (tally_state (io_with context events counted) published)
tally_counts None events counted published t = record {
  grew = record { no_ring = counts_above published.no_ring counted.no_ring events t.grew.no_ring; bulk_read = t.grew.bulk_read; bulk_write = t.grew.bulk_write; vacuum = t.grew.vacuum };
  within = record { no_ring = counts_within counted.no_ring events t.within.no_ring; bulk_read = t.within.bulk_read; bulk_write = t.within.bulk_write; vacuum = t.within.vacuum };
}
tally_counts (Some BulkRead) events counted published t = record {
  grew = record { no_ring = t.grew.no_ring; bulk_read = counts_above published.bulk_read counted.bulk_read events t.grew.bulk_read; bulk_write = t.grew.bulk_write; vacuum = t.grew.vacuum };
  within = record { no_ring = t.within.no_ring; bulk_read = counts_within counted.bulk_read events t.within.bulk_read; bulk_write = t.within.bulk_write; vacuum = t.within.vacuum };
}
tally_counts (Some BulkWrite) events counted published t = record {
  grew = record { no_ring = t.grew.no_ring; bulk_read = t.grew.bulk_read; bulk_write = counts_above published.bulk_write counted.bulk_write events t.grew.bulk_write; vacuum = t.grew.vacuum };
  within = record { no_ring = t.within.no_ring; bulk_read = t.within.bulk_read; bulk_write = counts_within counted.bulk_write events t.within.bulk_write; vacuum = t.within.vacuum };
}
tally_counts (Some Vacuum) events counted published t = record {
  grew = record { no_ring = t.grew.no_ring; bulk_read = t.grew.bulk_read; bulk_write = t.grew.bulk_write; vacuum = counts_above published.vacuum counted.vacuum events t.grew.vacuum };
  within = record { no_ring = t.within.no_ring; bulk_read = t.within.bulk_read; bulk_write = t.within.bulk_write; vacuum = counts_within counted.vacuum events t.within.vacuum };
}

pub same_io : (a b : ByContext) → a.no_ring ≡ b.no_ring → a.bulk_read ≡ b.bulk_read → a.bulk_write ≡ b.bulk_write → a.vacuum ≡ b.vacuum → a ≡ b
same_io a b no_ring bulk_read bulk_write vacuum i = record { no_ring = no_ring i; bulk_read = bulk_read i; bulk_write = bulk_write i; vacuum = vacuum i }

-- sums of events
pub sum_none : (a : ContextCounts) → counts_sum a no_counts ≡ a
sum_none a = same_counts (counts_sum a no_counts) a (omega arith) (omega arith) (omega arith) (omega arith) (omega arith)

pub none_sum : (a : ContextCounts) → counts_sum no_counts a ≡ a
none_sum a = same_counts (counts_sum no_counts a) a (omega arith) (omega arith) (omega arith) (omega arith) (omega arith)

pub sum_assoc : (a b c : ContextCounts) → counts_sum (counts_sum a b) c ≡ counts_sum a (counts_sum b c)
sum_assoc a b c = same_counts (counts_sum (counts_sum a b) c) (counts_sum a (counts_sum b c)) (omega arith) (omega arith) (omega arith) (omega arith) (omega arith)
