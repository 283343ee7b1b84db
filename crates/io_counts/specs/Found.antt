-- Blocks that backends found, in the pool or in their lanes: hits and reads.
use Rattle.std.specs.Prelude.{◌≡◌, ℕ, ◌+◌, ◌<◌, ◌≤◌}
use Rattle.history_core.specs.Words.{most_published}
use Rattle.io_counts.specs.declared.contexts.ByContext.{ByContext}
use Rattle.io_counts.specs.declared.contexts.ContextCounts.{ContextCounts}

-- the hits and reads of a context
abbrev pub found_in : ContextCounts → ℕ
found_in c = c.hits + c.reads

-- the hits and reads of all contexts
abbrev pub found_of : ByContext → ℕ
found_of io = found_in io.no_ring + found_in io.bulk_read + found_in io.bulk_write
    + found_in io.vacuum

-- the hits and reads of a context, without its other counts
abbrev pub found_alone : ContextCounts → ContextCounts
found_alone c = record c { writes = 0; evictions = 0; reuses = 0 }

-- the hits and reads of each context, without its other counts
abbrev pub found_part : ByContext → ByContext
found_part io = record {
  no_ring = found_alone io.no_ring;
  bulk_read = found_alone io.bulk_read;
  bulk_write = found_alone io.bulk_write;
  vacuum = found_alone io.vacuum;
}

-- Neither the hits nor the reads of a context stand at their last value
pub record AreBelowLast (c : ContextCounts) : Type 0 where
  pub hits : c.hits < most_published
  pub reads : c.reads < most_published

-- Neither the hits nor the reads of any context stand at their last value
pub record AreAllBelowLast (io : ByContext) : Type 0 where
  pub no_ring : AreBelowLast io.no_ring
  pub bulk_read : AreBelowLast io.bulk_read
  pub bulk_write : AreBelowLast io.bulk_write
  pub vacuum : AreBelowLast io.vacuum

-- So many blocks more were counted, as hits or as reads
pub record FoundMore (n : ℕ) (io io' : ByContext) : Type 0 where
  pub most : found_of io' ≤ found_of io + n
  -- exactly so many, if no count stands at its last value; then none did before
  pub exact : AreAllBelowLast io' → AreAllBelowLast io × (found_of io' ≡ found_of io + n)
