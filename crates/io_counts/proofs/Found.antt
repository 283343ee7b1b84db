-- Blocks that are found, call after call.
use Rattle.std.proofs.Common.{◌≡◌, ℕ, ◌+◌, ◌<◌, ◌≤◌, Option, Some, None, sym, ap, subst, arith}
use Rattle.access_rings.specs.declared.ring.RingKind.{RingKind}
use Rattle.access_rings.specs.declared.ring.RingKind.TheVariants.{BulkRead, BulkWrite, Vacuum}
use Rattle.history_core.specs.Words.{most_published}
use Rattle.io_counts.specs.declared.contexts.ByContext.{ByContext}
use Rattle.io_counts.specs.declared.contexts.ContextCounts.{ContextCounts}
use Rattle.io_counts.specs.Counts.{counts_with, io_with, raised}
use Rattle.io_counts.specs.Found.{AreBelowLast, FoundMore, found_in, found_of, found_part}

-- none was found
pub found_none : (io : ByContext) → FoundMore 0 io io
found_none io = record { most = omega arith; exact = λ below. (below, omega arith) }

-- some were found after others, or after none
pub found_on : (m n : ℕ) (a b c : ByContext) → FoundMore m a b → FoundMore n b c → FoundMore (m + n) a c
found_on m n a b c first more = record {
  most = let x = first.most in let y = more.most in omega arith;
  exact = λ below.
      let y = more.exact below in
      let x = first.exact y.0 in
      (x.0, (let d = x.1 in let e = y.1 in omega arith));
}

pub found_after : (n : ℕ) (a b c : ByContext) → FoundMore 0 a b → FoundMore n b c → FoundMore n a c
found_after n a b c first more = let none : 0 + n ≡ n = omega arith in subst (λ (k : ℕ). FoundMore k a c) none (found_on 0 n a b c first more)

-- and then none was counted
pub found_same : (n : ℕ) (a b c : ByContext) → FoundMore n a b → c ≡ b → FoundMore n a c
found_same n a b c found same = subst (FoundMore n a) (sym same) found

-- a count that stays below its last value was below it, and rose by each event
raised_below : (count more : ℕ) → raised count more < most_published → (count < most_published) × (raised count more ≡ count + more)
raised_below count more below = (omega arith, omega arith)

counts_most : (events c : ContextCounts) → found_in (counts_with events c) ≤ found_in c + (events.hits + events.reads)
counts_most events c = omega arith

counts_below : (events c : ContextCounts) → AreBelowLast (counts_with events c) → AreBelowLast c × (found_in (counts_with events c) ≡ found_in c + (events.hits + events.reads))
counts_below events c below =
    let hits = raised_below c.hits events.hits below.hits in
    let reads = raised_below c.reads events.reads below.reads in
    (record { hits = hits.0; reads = reads.0 }, (let x = hits.1 in let y = reads.1 in omega arith))

-- the hits and reads among the events of one context were found
pub found_with : (context : Option RingKind) (events : ContextCounts) (io : ByContext) → FoundMore (events.hits + events.reads) io (io_with context events io)
found_with None events io = record {
  most = let x = counts_most events io.no_ring in omega arith;
  exact = λ below. let x = counts_below events io.no_ring below.no_ring in (record { no_ring = x.0; bulk_read = below.bulk_read; bulk_write = below.bulk_write; vacuum = below.vacuum }, (let e = x.1 in omega arith));
}
found_with (Some BulkRead) events io = record {
  most = let x = counts_most events io.bulk_read in omega arith;
  exact = λ below. let x = counts_below events io.bulk_read below.bulk_read in (record { no_ring = below.no_ring; bulk_read = x.0; bulk_write = below.bulk_write; vacuum = below.vacuum }, (let e = x.1 in omega arith));
}
found_with (Some BulkWrite) events io = record {
  most = let x = counts_most events io.bulk_write in omega arith;
  exact = λ below. let x = counts_below events io.bulk_write below.bulk_write in (record { no_ring = below.no_ring; bulk_read = below.bulk_read; bulk_write = x.0; vacuum = below.vacuum }, (let e = x.1 in omega arith));
}
found_with (Some Vacuum) events io = record {
  most = let x = counts_most events io.vacuum in omega arith;
  exact = λ below. let x = counts_below events io.vacuum below.vacuum in (record { no_ring = below.no_ring; bulk_read = below.bulk_read; bulk_write = below.bulk_write; vacuum = x.0 }, (let e = x.1 in omega arith));
}

-- with the same hits and reads as many were found
pub found_part_of : (a b : ByContext) → found_part a ≡ found_part b → found_of a ≡ found_of b
found_part_of a b same = ap found_of same
