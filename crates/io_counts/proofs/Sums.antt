-- Sums over backends and contexts: they fit their types, and have all that was found.
use Rattle.std.proofs.Common.{◌≡◌, ℕ, ◌+◌, ◌*◌, ◌^◌, ◌<◌, ◌≤◌, [], ◌∷◌, refl, arith, sum}
use Rattle.history_core.specs.Words.{most_published}
use Rattle.io_counts.specs.declared.contexts.ByContext.{ByContext}
use Rattle.io_counts.specs.Found.{AreAllBelowLast, found_of}
use Rattle.io_counts.specs.Sums.{AreAllSmall, HaveSums, io_shown, io_sum, sums_of}

four : (a b c d : ℕ) → sum (a ∷ b ∷ c ∷ d ∷ []) ≡ 0 + a + b + c + d
four a b c d = refl

fits : (a b c d : ℕ) → a ≤ 64 * most_published → b ≤ 64 * most_published → c ≤ 64 * most_published → d ≤ 64 * most_published → sum (a ∷ b ∷ c ∷ d ∷ []) < 2 ^ 64
fits a b c d s t u v = let e = four a b c d in omega (arith, e)

pub small_shown : (io : ByContext) → AreAllSmall io → HaveSums (io_shown io)
small_shown io s = record {
  hits = fits io.no_ring.hits io.bulk_read.hits io.bulk_write.hits io.vacuum.hits s.no_ring.hits s.bulk_read.hits s.bulk_write.hits s.vacuum.hits;
  reads = fits io.no_ring.reads io.bulk_read.reads io.bulk_write.reads io.vacuum.reads s.no_ring.reads s.bulk_read.reads s.bulk_write.reads s.vacuum.reads;
  writes = fits io.no_ring.writes io.bulk_read.writes io.bulk_write.writes io.vacuum.writes s.no_ring.writes s.bulk_read.writes s.bulk_write.writes s.vacuum.writes;
  evictions = fits io.no_ring.evictions io.bulk_read.evictions io.bulk_write.evictions io.vacuum.evictions s.no_ring.evictions s.bulk_read.evictions s.bulk_write.evictions s.vacuum.evictions;
  reuses = fits io.no_ring.reuses io.bulk_read.reuses io.bulk_write.reuses io.vacuum.reuses s.no_ring.reuses s.bulk_read.reuses s.bulk_write.reuses s.vacuum.reuses;
}

pub sums_found : (io : ByContext) → (sums_of (io_shown io)).hits + (sums_of (io_shown io)).reads ≡ found_of io
sums_found io =
    let hits = four io.no_ring.hits io.bulk_read.hits io.bulk_write.hits io.vacuum.hits in
    let reads = four io.no_ring.reads io.bulk_read.reads io.bulk_write.reads io.vacuum.reads in
    omega (arith, hits, reads)

-- hits and reads of two backends
pub found_sum : (a b : ByContext) → found_of (io_sum a b) ≡ found_of a + found_of b
found_sum a b = omega arith

-- few of them stand below their last value
pub below_last : (io : ByContext) (n : ℕ) → found_of io ≤ n → n < most_published → AreAllBelowLast io
below_last io n most few = record {
  no_ring = record { hits = omega arith; reads = omega arith };
  bulk_read = record { hits = omega arith; reads = omega arith };
  bulk_write = record { hits = omega arith; reads = omega arith };
  vacuum = record { hits = omega arith; reads = omega arith };
}
