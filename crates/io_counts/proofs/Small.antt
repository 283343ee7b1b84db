-- Sums over at most 64 backends.
use Rattle.std.proofs.Common.{◌≡◌, ℕ, ◌+◌, ◌*◌, ◌≤◌, arith}
use Rattle.history_core.specs.Words.{most_published}
use Rattle.io_counts.specs.declared.contexts.ByContext.{ByContext}
use Rattle.io_counts.specs.declared.contexts.ContextCounts.{ContextCounts}
use Rattle.io_counts.specs.Counts.{counts_sum, no_io}
use Rattle.io_counts.specs.Sums.{AreAllSmall, AreSmall, io_sum}
use Rattle.io_counts.specs.Tallies.{AreAllAtMost, AreAtMost, last_counts, last_io}
use Rattle.io_counts.proofs.Counts.{none_sum, same_io, sum_assoc, sum_none}

-- what so many backends count at most
abbrev pub lasts_of : ℕ → ContextCounts
lasts_of n = record { hits = n * most_published; reads = n * most_published; writes = n * most_published; evictions = n * most_published; reuses = n * most_published }

abbrev pub io_lasts : ℕ → ByContext
io_lasts n = record { no_ring = lasts_of n; bulk_read = lasts_of n; bulk_write = lasts_of n; vacuum = lasts_of n }

-- no backend, and one more
none_below : (n : ℕ) → 0 ≤ n * most_published
none_below n = omega arith

more_below : (n a b : ℕ) → a ≤ n * most_published → b ≤ most_published → a + b ≤ (n + 1) * most_published
more_below n a b low high = omega arith

counts_below : (n : ℕ) (a b : ContextCounts) → AreAtMost a (lasts_of n) → AreAtMost b last_counts → AreAtMost (counts_sum a b) (lasts_of (n + 1))
counts_below n a b low high = record {
  hits = more_below n a.hits b.hits low.hits high.hits;
  reads = more_below n a.reads b.reads low.reads high.reads;
  writes = more_below n a.writes b.writes low.writes high.writes;
  evictions = more_below n a.evictions b.evictions low.evictions high.evictions;
  reuses = more_below n a.reuses b.reuses low.reuses high.reuses;
}

nothing_below : (n : ℕ) → AreAtMost (record { hits = 0; reads = 0; writes = 0; evictions = 0; reuses = 0 }) (lasts_of n)
nothing_below n = record { hits = none_below n; reads = none_below n; writes = none_below n; evictions = none_below n; reuses = none_below n }

pub lasts_none : AreAllAtMost no_io (io_lasts 0)
lasts_none = record { no_ring = nothing_below 0; bulk_read = nothing_below 0; bulk_write = nothing_below 0; vacuum = nothing_below 0 }

pub lasts_more : (n : ℕ) (a b : ByContext) → AreAllAtMost a (io_lasts n) → AreAllAtMost b last_io → AreAllAtMost (io_sum a b) (io_lasts (n + 1))
lasts_more n a b low high = record {
  no_ring = counts_below n a.no_ring b.no_ring low.no_ring high.no_ring;
  bulk_read = counts_below n a.bulk_read b.bulk_read low.bulk_read high.bulk_read;
  bulk_write = counts_below n a.bulk_write b.bulk_write low.bulk_write high.bulk_write;
  vacuum = counts_below n a.vacuum b.vacuum low.vacuum high.vacuum;
}

-- at most 64 of them
few_below : (n a : ℕ) → n ≤ 64 → a ≤ n * most_published → a ≤ 64 * most_published
few_below n a few low = omega arith

few_small : (n : ℕ) (a : ContextCounts) → n ≤ 64 → AreAtMost a (lasts_of n) → AreSmall a
few_small n a few low = record {
  hits = few_below n a.hits few low.hits;
  reads = few_below n a.reads few low.reads;
  writes = few_below n a.writes few low.writes;
  evictions = few_below n a.evictions few low.evictions;
  reuses = few_below n a.reuses few low.reuses;
}

pub small_lasts : (n : ℕ) (io : ByContext) → n ≤ 64 → AreAllAtMost io (io_lasts n) → AreAllSmall io
small_lasts n io few low = record {
  no_ring = few_small n io.no_ring few low.no_ring;
  bulk_read = few_small n io.bulk_read few low.bulk_read;
  bulk_write = few_small n io.bulk_write few low.bulk_write;
  vacuum = few_small n io.vacuum few low.vacuum;
}

-- one of them
one_below : (a : ℕ) → a ≤ most_published → a ≤ 64 * most_published
one_below a low = omega arith

one_small : (a : ContextCounts) → AreAtMost a last_counts → AreSmall a
one_small a low = record { hits = one_below a.hits low.hits; reads = one_below a.reads low.reads; writes = one_below a.writes low.writes; evictions = one_below a.evictions low.evictions; reuses = one_below a.reuses low.reuses }

pub small_within : (io : ByContext) → AreAllAtMost io last_io → AreAllSmall io
small_within io low = record { no_ring = one_small io.no_ring low.no_ring; bulk_read = one_small io.bulk_read low.bulk_read; bulk_write = one_small io.bulk_write low.bulk_write; vacuum = one_small io.vacuum low.vacuum }

-- sums of counts
pub io_sum_none : (a : ByContext) → io_sum a no_io ≡ a
io_sum_none a = same_io (io_sum a no_io) a (sum_none a.no_ring) (sum_none a.bulk_read) (sum_none a.bulk_write) (sum_none a.vacuum)

pub none_io_sum : (a : ByContext) → io_sum no_io a ≡ a
none_io_sum a = same_io (io_sum no_io a) a (none_sum a.no_ring) (none_sum a.bulk_read) (none_sum a.bulk_write) (none_sum a.vacuum)

pub io_sum_assoc : (a b c : ByContext) → io_sum (io_sum a b) c ≡ io_sum a (io_sum b c)
io_sum_assoc a b c = same_io (io_sum (io_sum a b) c) (io_sum a (io_sum b c)) (sum_assoc a.no_ring b.no_ring c.no_ring) (sum_assoc a.bulk_read b.bulk_read c.bulk_read) (sum_assoc a.bulk_write b.bulk_write c.bulk_write) (sum_assoc a.vacuum b.vacuum c.vacuum)
