-- What a rewrite of a fork does.
use Rattle.std.specs.Prelude.{◌≡◌, ◌⊎◌, ℕ, ◌<◌, true, List, ◌∷◌, length, Option}
use mathlib.Core.Option.{some}
use lib.ListN.{get_elem?}
use Rattle.block_tag.specs.declared.tag.Fork.{Fork}
use Rattle.block_tag.specs.Names.{names_block, tag_of_parts}
use Rattle.segment_store.specs.Contents.{Pages}
use Rattle.backend_pass.specs.declared.manager.Manager.{Manager}
use Rattle.backend_pass.specs.Passes.{PassState}
use Rattle.page_jobs.specs.declared.ending.JobError.{JobError}
use Rattle.page_jobs.specs.declared.ending.JobError.TheVariants.{Memory}
use Rattle.page_jobs.specs.declared.ending.Totals.{Totals}
use Rattle.page_jobs.specs.Beside.{LastIsRefused}
use Rattle.page_jobs.specs.Chunks.{AreAllClaimed, AreFirstClaimed, Claimed, CoversChunks}
use Rattle.page_jobs.specs.Chunks.{blocks_in_all, items_in_all}
use Rattle.page_jobs.specs.Ending.{totals_of_rewrite}
use Rattle.page_jobs.specs.Jobs.{workers_in}
use Rattle.page_jobs.specs.Parts.{MeetsFault, blocks_in}
use Rattle.page_jobs.specs.Rewrites.{Outcome, outcome_totals}
use Rattle.page_jobs.specs.Rewriting.{PutIsRefused, RewritesBlocks, RewritesWhole}

module _ {L G : Type 0} (contents : L → Option Pages) (m : Manager L G) (rel : ℕ)
    (fork : Fork) where
  -- The pass dealt with blocks of the chunks that it claimed, one chunk after the other, each to
  -- its end but maybe the last one
  pub record RewritesChunks (c : Claimed Outcome) (p q : PassState) : Type 0 where
    pub blocks : RewritesBlocks contents m rel fork
        (blocks_in_all (blocks_in m rel fork) c.chunks) c.items p q
    pub covers : CoversChunks (blocks_in m rel fork) c

  -- The passes claimed the first chunks, each once, and each pass dealt with blocks of those that
  -- it claimed
  pub record RewriteParts (ps qs : List PassState) : Type 0 where
    pub counted : length qs ≡ length ps
    pub claimed : List (Claimed Outcome)
    pub listed : length claimed ≡ length ps
    pub each : (w : ℕ) (p q : PassState) (c : Claimed Outcome) → get_elem? ps w ≡ some p
        → get_elem? qs w ≡ some q → get_elem? claimed w ≡ some c → RewritesChunks c p q
    -- each pass met no fault; or it met this one, or its put was refused, and it did nothing after
    -- that
    pub ended : (w : ℕ) (p q : PassState) → get_elem? ps w ≡ some p → get_elem? qs w ≡ some q
        → (q.view.met ≡ p.view.met)
        ⊎ ((e : JobError)
        × (MeetsFault contents m rel fork p q e ⊎ PutIsRefused contents m rel fork p q e))
    pub once : AreFirstClaimed (blocks_in m rel fork) claimed
    -- the fork's blocks have numbers of their own
    pub named : (block : ℕ) → block < blocks_in m rel fork
        → names_block (tag_of_parts rel fork block) ≡ true

  -- The passes claimed all chunks, each once, and dealt with all blocks of these; no put was
  -- refused, and no fault was met. The totals are those of what became of the blocks
  pub record RewritesFork (ps qs : List PassState) (totals : Totals) : Type 0 where
    pub claimed : List (Claimed Outcome)
    pub listed : length claimed ≡ length ps
    pub each : (w : ℕ) (p q : PassState) (c : Claimed Outcome) → get_elem? ps w ≡ some p
        → get_elem? qs w ≡ some q → get_elem? claimed w ≡ some c
        → RewritesWhole contents m rel fork (blocks_in_all (blocks_in m rel fork) c.chunks)
        c.items p q
    pub all : AreAllClaimed (blocks_in m rel fork) claimed
    pub totals_is : totals ≡ totals_of_rewrite (outcome_totals (items_in_all claimed))

  -- of these passes, the first that didn't deal with all blocks of its chunks met a fault, or its
  -- put was refused, as the error says
  abbrev pub FailsFirst : List PassState → List PassState → JobError → Type 0
  FailsFirst (p ∷ ps) (q ∷ qs) e =
      (MeetsFault contents m rel fork p q e ⊎ PutIsRefused contents m rel fork p q e)
      ⊎ (((c : Claimed Outcome)
      × RewritesWhole contents m rel fork (blocks_in_all (blocks_in m rel fork) c.chunks) c.items p
      q) × FailsFirst ps qs e)
  FailsFirst ps qs e = ⊥

  -- why a rewrite ended before its end: of the first of the passes that work that failed; or they
  -- dealt with all blocks, and the work of the last one was refused; or there was no memory
  abbrev pub EndsRewrite : List PassState → List PassState → JobError → Type 0
  EndsRewrite ps qs e =
      (e ≡ Memory)
      ⊎ (FailsFirst (workers_in ps) (workers_in qs) e
      ⊎ (((totals : Totals) × RewritesFork (workers_in ps) (workers_in qs) totals)
      × LastIsRefused contents m ps qs e))
