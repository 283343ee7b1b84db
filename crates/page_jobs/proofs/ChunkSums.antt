-- Chunks, and how many blocks they have.
use Rattle.std.proofs.Common.{◌≡◌, ℕ, zero, suc, ◌+◌, ◌*◌, ◌-◌, ◌<◌, ◌≤◌, List, [], ◌∷◌, ◌++◌, refl, sym, ap, ◌∙◌, subst, arith}
use Rattle.std.specs.Prelude.{min}
use Rattle.grid.specs.Shape.{total}
use Rattle.grid.proofs.Sums.{total-snoc}
use Rattle.chunk_claims.specs.declared.claimant.Claimant.{Claimant}
use Rattle.chunk_claims.specs.Claims.{past_weight, sum_below, with_draw}
use Rattle.chunk_claims.proofs.Weights.{weighs_none}
use Rattle.page_jobs.specs.Chunks.{chunk_count, chunk_size}

-- the chunks below one have at most the blocks before it, and at most all
sizes_below : (n k : ℕ) → sum_below k (chunk_size n) ≤ min (8 * k) n
unfolding sum_below
sizes_below n zero = omega arith
sizes_below n (suc k) = let before = sizes_below n k in omega (arith, before)

pub sizes_all : (n k : ℕ) → sum_below k (chunk_size n) ≤ n
sizes_all n k = let below = sizes_below n k in omega (arith, below)

-- A claimant that drew one chunk more
pub record DrawsChunk (n chunk chunks : ℕ) (c d : Claimant) : Type 0 where
  pub chunks_are : d.chunks ≡ chunks
  pub workers_are : d.workers ≡ c.workers
  pub part : (d.parts ≡ 1) × (d.past ≡ 0)
  pub drawn : d.drawn ≡ c.drawn ++ chunk ∷ []
  pub sizes : total (chunk_size n) d.drawn ≡ total (chunk_size n) c.drawn + chunk_size n chunk

pub draws_chunk : (n chunk chunks : ℕ) (c d : Claimant) → chunk < chunks → d ≡ with_draw chunk c → c.chunks ≡ chunks → (c.parts ≡ 1) × (c.past ≡ 0) → DrawsChunk n chunk chunks c d
draws_chunk n chunk chunks c d below is known part = subst (DrawsChunk n chunk chunks c) (sym is) record {
  chunks_are = known;
  workers_are = refl;
  part = (part.0, ap (λ (m : ℕ). c.past + past_weight m chunk) known ∙ omega (arith, part.1, weighs_none chunks chunk below));
  drawn = refl;
  sizes = total-snoc (chunk_size n) c.drawn chunk;
}

-- what was drawn so far and one chunk more are at most all
pub can_take : (k size same drawn more sums n count : ℕ) → k ≤ size → size ≡ same → more ≡ drawn + same → more ≤ sums → sums ≤ n → count ≡ n → count < 4294967296 → k ≤ 4294967296 - drawn
can_take k size same drawn more sums n count few e is within all is_n low = omega (arith, few, e, is, within, all, is_n, low)

pub still_takes : (k size same drawn more : ℕ) → k ≤ 4294967296 - more + size → size ≡ same → more ≡ drawn + same → more ≤ 4294967296 → k ≤ 4294967296 - drawn
still_takes k size same drawn more few e is fewest = omega (arith, few, e, is, fewest)

-- what a seat drew has no more than n blocks
pub size_few : (n many : ℕ) (drawn : List ℕ) → total (chunk_size n) drawn ≤ sum_below many (chunk_size n) → total (chunk_size n) drawn ≤ n
size_few n many drawn within = let all = sizes_all n many in omega (arith, within, all)

-- and a number past the last chunk adds none
size_past : (n c : ℕ) → chunk_count n ≤ c → chunk_size n c ≡ 0
size_past n c past = omega (arith, past)

pub size_last : (n past : ℕ) (c d : Claimant) → chunk_count n ≤ past → d ≡ with_draw past c → total (chunk_size n) c.drawn ≤ n → total (chunk_size n) d.drawn ≤ n
size_last n past c d low is few =
    let more = ap (λ (x : Claimant). total (chunk_size n) x.drawn) is ∙ total-snoc (chunk_size n) c.drawn past in
    let none = size_past n past low in
    omega (arith, more, none, few)
