-- What a worker does with the chunks that it claims, whatever the task.
use Rattle.std.specs.Prelude.{◌≡◌, ℕ, ◌+◌, ◌<◌, ◌≤◌, ◌^◌, ◌⊎◌, List, [], ◌∷◌, ◌++◌, Result, Ok, Err}
use Rattle.std.specs.Prelude.{length, slice_index_or}
use Rattle.grid.specs.Shape.{total}
use Rattle.backend_pass.specs.Passes.{PassState}
use Rattle.chunk_claims.specs.declared.claimant.Claimant.{Claimant}
use Rattle.page_jobs.specs.declared.ending.JobError.{JobError}
use Rattle.page_jobs.specs.declared.ending.JobError.TheVariants.{Memory}
use Rattle.page_jobs.specs.declared.working.Worker.{Worker}
use Rattle.page_jobs.specs.Blocks.{blocks_from}
use Rattle.page_jobs.specs.Chunks.{Ascend, blocks_of, chunk_count, chunk_size, chunk_start}

-- A task can count up to this many blocks more; one that begins, those of any fork
abbrev pub CanCount : {K : Type 0} → (K → ℕ → Type 0) → K → ℕ → Type 0
CanCount fits k most = (n : ℕ) → n ≤ most → fits k n

abbrev pub CanBegin : {K : Type 0} → (K → ℕ → Type 0) → K → Type 0
CanBegin fits k = CanCount fits k (2 ^ 32)

-- The claims of a worker that begins, of this many chunks and workers
pub record ClaimsNothing (chunks workers : ℕ) (c : Claimant) : Type 0 where
  pub chunks_are : c.chunks ≡ chunks
  pub workers_are : c.workers ≡ workers
  pub part : (c.parts ≡ 1) × (c.past ≡ 0)
  pub drawn : c.drawn ≡ []

module _ {K : Type 0}
    (does : ℕ → PassState → PassState → K → K → Result Unit JobError → Type 0) where
  -- the blocks were dealt with one after the other, each to its end, and nothing else was done
  abbrev pub DoesBlocks : List ℕ → PassState → PassState → K → K → Type 0
  DoesBlocks [] p q k l = (q ≡ p) × (l ≡ k)
  DoesBlocks (b ∷ bs) p q k l =
      (r : PassState) × (i : K) × does b p r k i (Ok tt) × DoesBlocks bs r q i l

  -- The task failed at a block of the chunk of n blocks, after those before it
  pub record FailsAtBlock (n chunk : ℕ) (p q : PassState) (k l : K) (e : JobError) : Type 0 where
    pub many : ℕ
    pub within : many < chunk_size n chunk
    pub pass : PassState
    pub task : K
    pub before : DoesBlocks (blocks_from (chunk_start chunk) many) p pass k task
    pub fails : does (chunk_start chunk + many) pass q task l (Err e)

  -- the blocks of a chunk were dealt with, up to one that the task failed at
  abbrev pub DoesUpTo : ℕ → ℕ → PassState → PassState → K → K → Result Unit JobError → Type 0
  DoesUpTo n chunk p q k l (Ok done) = DoesBlocks (blocks_of n chunk) p q k l
  DoesUpTo n chunk p q k l (Err e) = FailsAtBlock n chunk p q k l e

  -- The pass and the task at the end of a chunk of n blocks: all of its blocks were dealt with, by
  -- a pass without tokens and from a task that could begin the chunk
  pub record IsAtEnd (free : PassState → Type 0) (opens : K → Type 0) (n chunk : ℕ) (q : PassState)
      (l : K) : Type 0 where
    pub pass : PassState
    pub task : K
    pub free_then : free pass
    pub opened : opens task
    pub blocks : DoesBlocks (blocks_of n chunk) pass q task l

  module _ (closes : ℕ → PassState → K → K → Result Unit JobError → Type 0) (n : ℕ) where
    -- All blocks of the chunk were dealt with, and then it was closed
    pub record DoesChunk (chunk : ℕ) (p q : PassState) (k l : K)
        (end : Result Unit JobError) : Type 0 where
      pub task : K
      pub blocks : DoesBlocks (blocks_of n chunk) p q k task
      pub ends : closes chunk q task l end

    -- a chunk was dealt with and closed, or the task failed before that
    abbrev pub WorksChunk : ℕ → PassState → PassState → K → K → Result Unit JobError → Type 0
    WorksChunk chunk p q k l (Ok done) = DoesChunk chunk p q k l (Ok tt)
    WorksChunk chunk p q k l (Err e) =
        FailsAtBlock n chunk p q k l e ⊎ DoesChunk chunk p q k l (Err e)

    -- these chunks were dealt with one after the other, each to its end, and nothing else was done
    abbrev pub DoesChunks : List ℕ → PassState → PassState → K → K → Type 0
    DoesChunks [] p q k l = (q ≡ p) × (l ≡ k)
    DoesChunks (c ∷ cs) p q k l =
        (r : PassState) × (i : K) × (c < chunk_count n) × DoesChunk c p r k i (Ok tt)
        × DoesChunks cs r q i l

    -- after these chunks: none was left, so that the last number drawn is past them all; or there
    -- was no memory to begin with; or the task failed in the chunk that was claimed last
    abbrev pub EndsAfter : List ℕ → List ℕ → PassState → PassState → K → K → Result Unit JobError
        → Type 0
    EndsAfter whole drawn p q k l (Ok done) =
        ((past : ℕ) × (chunk_count n ≤ past) × (drawn ≡ whole ++ past ∷ [])) × (q ≡ p) × (l ≡ k)
    EndsAfter whole drawn p q k l (Err e) =
        ((e ≡ Memory) × (drawn ≡ []) × (whole ≡ []) × (q ≡ p) × (l ≡ k))
        ⊎ ((chunk : ℕ) × (chunk < chunk_count n) × (drawn ≡ whole ++ chunk ∷ [])
        × WorksChunk chunk p q k l (Err e))

    -- Of n blocks, chunks were claimed, these numbers in all, and dealt with one after the other,
    -- each to its end; and then the worker ended so
    pub record WorksChunks (drawn : List ℕ) (p q : PassState) (k l : K)
        (end : Result Unit JobError) : Type 0 where
      pub whole : List ℕ
      pub pass : PassState
      pub task : K
      pub does_them : DoesChunks whole p pass k task
      pub ends : EndsAfter whole drawn pass q task l end
      -- each number is above those that were drawn before
      pub ascend : Ascend drawn
      -- the chunks of the numbers have no more than n blocks
      pub few : total (chunk_size n) drawn ≤ n

    -- the worker has worked
    abbrev pub HasWorked : Worker K → Worker K → Type 0
    HasWorked w x = WorksChunks x.seat.me.0.drawn w.pass x.pass w.task x.task x.end

    -- each of the workers has worked
    abbrev pub HaveWorked : List (Worker K) → List (Worker K) → Type 0
    HaveWorked ws xs =
        (i : ℕ) (d : Worker K) → i < length ws
        → HasWorked (slice_index_or ws i d) (slice_index_or xs i d)
