-- Sums of counts, over backends and over contexts.
use Rattle.std.specs.Prelude.{ℕ, ◌*◌, ◌^◌, ◌<◌, ◌≤◌, List, [], ◌∷◌, sum}
use Rattle.history_core.specs.Words.{most_published}
use Rattle.io_counts.specs.declared.contexts.ByContext.{ByContext}
use Rattle.io_counts.specs.declared.contexts.ContextCounts.{ContextCounts}
use Rattle.io_counts.specs.declared.shown.IoCounts.{IoCounts}
use Rattle.io_counts.specs.declared.shown.IoSums.{IoSums}
use Rattle.io_counts.specs.Counts.{counts_sum}

-- Each count of a context is at most what 64 backends count
pub record AreSmall (c : ContextCounts) : Type 0 where
  pub hits : c.hits ≤ 64 * most_published
  pub reads : c.reads ≤ 64 * most_published
  pub writes : c.writes ≤ 64 * most_published
  pub evictions : c.evictions ≤ 64 * most_published
  pub reuses : c.reuses ≤ 64 * most_published

-- Each count of every context is at most what 64 backends count
pub record AreAllSmall (io : ByContext) : Type 0 where
  pub no_ring : AreSmall io.no_ring
  pub bulk_read : AreSmall io.bulk_read
  pub bulk_write : AreSmall io.bulk_write
  pub vacuum : AreSmall io.vacuum

-- the sums of two backends' counts, one by one
abbrev pub io_sum : ByContext → ByContext → ByContext
io_sum a b = record {
  no_ring = counts_sum a.no_ring b.no_ring;
  bulk_read = counts_sum a.bulk_read b.bulk_read;
  bulk_write = counts_sum a.bulk_write b.bulk_write;
  vacuum = counts_sum a.vacuum b.vacuum;
}

-- one count of each context, in their order
abbrev pub each_of : (ContextCounts → ℕ) → ByContext → List ℕ
each_of count io =
    count io.no_ring ∷ count io.bulk_read ∷ count io.bulk_write ∷ count io.vacuum ∷ []

-- the counts as they are shown
abbrev pub io_shown : ByContext → IoCounts
io_shown io = record {
  hits = each_of ContextCounts.hits io;
  reads = each_of ContextCounts.reads io;
  writes = each_of ContextCounts.writes io;
  evictions = each_of ContextCounts.evictions io;
  reuses = each_of ContextCounts.reuses io;
}

-- Each sum over the contexts fits its type
pub record HaveSums (c : IoCounts) : Type 0 where
  pub hits : sum c.hits < 2 ^ 64
  pub reads : sum c.reads < 2 ^ 64
  pub writes : sum c.writes < 2 ^ 64
  pub evictions : sum c.evictions < 2 ^ 64
  pub reuses : sum c.reuses < 2 ^ 64

-- the counts of all contexts together
abbrev pub sums_of : IoCounts → IoSums
sums_of c = record {
  hits = sum c.hits;
  reads = sum c.reads;
  writes = sum c.writes;
  evictions = sum c.evictions;
  reuses = sum c.reuses;
}
