-- A worker's blocks, one after the other, whatever its task.
use Rattle.std.proofs.Common.{◌≡◌, ℕ, zero, suc, ◌+◌, ◌<◌, List, [], ◌∷◌, ◌++◌, length, ◌≤◌, Result, Ok, Err, refl, sym, subst, arith, add-zero, inl, inr}
use Rattle.grid.specs.Shape.{total}
use Rattle.backend_pass.specs.Passes.{PassState}
use Rattle.page_jobs.specs.declared.ending.JobError.{JobError}
use Rattle.page_jobs.specs.declared.ending.JobError.TheVariants.{Memory}
use Rattle.page_jobs.specs.Blocks.{blocks_from}
use Rattle.chunk_claims.specs.declared.claims.Claims.{Claims}
use Rattle.page_jobs.specs.declared.working.Worker.{Worker}
use Rattle.page_jobs.specs.Chunks.{Ascend, chunk_count, chunk_size}
use Rattle.page_jobs.specs.Dealt.{AreDealt, HaveDone}
use Rattle.page_jobs.specs.Working.{DoesBlocks, DoesChunk, DoesChunks, HasWorked, HaveWorked, WorksChunk, WorksChunks}
use Rattle.chunk_claims.proofs.Weights.{total_nothing}

module _ {K : Type 0} (does : ℕ → PassState → PassState → K → K → Result Unit JobError → Type 0) where
  -- one block more
  pub does_more : (from n : ℕ) (p q r : PassState) (k l i : K) → DoesBlocks does (blocks_from from n) p q k l → does (from + n) q r l i (Ok tt) → DoesBlocks does (blocks_from from (suc n)) p r k i
  does_more from zero p q r k l i so_far d = (
    r,
    i,
    subst (λ (b : ℕ). does b p r k i (Ok tt)) (add-zero from) (subst (λ (x : PassState). does (from + 0) x r k i (Ok tt)) so_far.0 (subst (λ (j : K). does (from + 0) q r j i (Ok tt)) so_far.1 d)),
    (refl, refl),
  )
  does_more from (suc n) p q r k l i so_far d =
      let at : from + suc n ≡ from + 1 + n = omega arith in (
        so_far.0,
        so_far.1,
        so_far.2,
        does_more (from + 1) n so_far.0 q r so_far.1 l i so_far.3 (subst (λ (b : ℕ). does b q r l i (Ok tt)) at d),
      )

module _ {K : Type 0} (does : ℕ → PassState → PassState → K → K → Result Unit JobError → Type 0) (closes : ℕ → PassState → K → K → Result Unit JobError → Type 0) (n : ℕ) where
  -- one chunk more
  pub chunks_more : (cs : List ℕ) (c : ℕ) (p q r : PassState) (k l i : K) → DoesChunks does closes n cs p q k l → c < chunk_count n → DoesChunk does closes n c q r l i (Ok tt) → DoesChunks does closes n (cs ++ c ∷ []) p r k i
  chunks_more [] c p q r k l i so_far low d = (
    r,
    i,
    low,
    subst (λ (x : PassState). DoesChunk does closes n c x r k i (Ok tt)) so_far.0 (subst (λ (j : K). DoesChunk does closes n c q r j i (Ok tt)) so_far.1 d),
    (refl, refl),
  )
  chunks_more (b ∷ cs) c p q r k l i so_far low d = (so_far.0, so_far.1, so_far.2, so_far.3, chunks_more cs c so_far.0 q r so_far.1 l i so_far.4 low d)

  -- no memory to begin with
  pub works_none : (drawn : List ℕ) (p : PassState) (k : K) (end : Result Unit JobError) → end ≡ Err Memory → drawn ≡ [] → WorksChunks does closes n drawn p p k k end
  works_none drawn p k end short none = subst (λ (r : Result Unit JobError). WorksChunks does closes n drawn p p k k r) (sym short) record {
    whole = [];
    pass = p;
    task = k;
    does_them = (refl, refl);
    ends = inl (refl, none, refl, refl, refl);
    ascend = subst Ascend (sym none) tt;
    few = let nothing = total_nothing (chunk_size n) drawn none in omega (arith, nothing);
  }

  -- the task failed in a chunk
  pub works_failed : (count : ℕ) (whole drawn : List ℕ) (chunk : ℕ) (p q r : PassState) (k l i : K) (e : JobError) (end : Result Unit JobError) → count ≡ n → DoesChunks does closes n whole p q k l → chunk < chunk_count n → drawn ≡ whole ++ chunk ∷ []
      → WorksChunk does closes count chunk q r l i (Err e) → Ascend drawn → total (chunk_size n) drawn ≤ n → end ≡ Err e → WorksChunks does closes n drawn p r k i end
  works_failed count whole drawn chunk p q r k l i e end counted did low split fails up few failed = subst (λ (x : Result Unit JobError). WorksChunks does closes n drawn p r k i x) (sym failed) record {
    whole = whole;
    pass = q;
    task = l;
    does_them = did;
    ends = inr (chunk, low, split, subst (λ (m : ℕ). WorksChunk does closes m chunk q r l i (Err e)) counted fails);
    ascend = up;
    few = few;
  }

  module _ (begins : K → Type 0) (claims : Claims) where
    pub have_done : (number : ℕ) (ps : List PassState) (ws xs : List (Worker K)) → AreDealt begins claims number ps ws → length xs ≡ length ws → HaveWorked does closes n ws xs → HaveDone begins does closes n ps xs
    have_done number [] [] [] a long did = tt
    have_done number [] [] (x ∷ xs) a long did = absurd (omega arith)
    have_done number [] (w ∷ ws) xs a long did = absurd a
    have_done number (p ∷ ps) [] xs a long did = absurd a
    have_done number (p ∷ ps) (w ∷ ws) [] a long did = absurd (omega arith)
    have_done number (p ∷ ps) (w ∷ ws) (x ∷ xs) a long did =
        let d : HasWorked does closes n w x = did zero w (omega arith) in (
          (w.task, a.0.task, subst (λ (y : PassState). WorksChunks does closes n x.seat.me.0.drawn y x.pass w.task x.task x.end) a.0.pass d),
          have_done (number + 1) ps ws xs a.1 (omega arith) (λ i e below. did (suc i) e (omega arith)),
        )
