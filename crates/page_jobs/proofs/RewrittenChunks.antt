-- What a rewrite's workers did with the chunks that they claimed.
use Rattle.std.proofs.Common.{◌≡◌, ℕ, suc, ◌+◌, ◌-◌, ◌<◌, ◌≤◌, List, [], ◌∷◌, ◌++◌, length, Option, Result, Ok, Err, refl, sym, ap, ◌∙◌, subst, arith, inl, inr}
use Rattle.std.specs.Prelude.{All, IfErr, OnOk}
use Rattle.std.proofs.lemmas.List.{append-nil}
use Rattle.std.proofs.lemmas.Result.{on_ok_weaker}
use Rattle.block_tag.specs.declared.tag.Fork.{Fork}
use Rattle.page_layout.specs.declared.outcomes.RewriteTotals.{RewriteTotals}
use Rattle.page_layout.specs.Outcomes.{IsRewriteWithin, no_rewrite_totals, sum_of_rewrite_totals}
use Rattle.segment_store.specs.Contents.{Pages}
use Rattle.grid.specs.Shape.{total}
use Rattle.chunk_claims.specs.Claims.{past_weight}
use Rattle.backend_pass.specs.declared.manager.Manager.{Manager}
use Rattle.backend_pass.specs.Passes.{PassState}
use Rattle.page_jobs.specs.declared.ending.JobError.{JobError}
use Rattle.page_jobs.specs.declared.ending.JobError.TheVariants.{Memory}
use Rattle.page_jobs.specs.declared.rewriting.Rewriter.{Rewriter}
use Rattle.page_jobs.specs.declared.working.Worker.{Worker}
use Rattle.page_jobs.specs.Blocks.{blocks_from}
use Rattle.page_jobs.specs.Chunks.{Ascend, Claimed, CoversChunks, blocks_in_all, blocks_of, chunk_count, chunk_size, chunk_start}
use Rattle.page_jobs.specs.Dealt.{HaveDone}
use Rattle.page_jobs.specs.Jobs.{HaveNoTokens}
use Rattle.backend_pass.specs.Between.{HasNoTokens}
use Rattle.page_jobs.specs.Rewrites.{AreOf, Outcome, outcome_totals}
use Rattle.page_jobs.specs.Rewriting.{CountsRewrites, EndsRewriteFor, RewritesBlocks, RewritesWhole}
use Rattle.page_jobs.specs.Working.{DoesBlocks, DoesChunk, DoesChunks, EndsAfter, FailsAtBlock, WorksChunk, WorksChunks}
use Rattle.page_jobs.proofs.Ascending.{ascend_front}
use Rattle.page_jobs.proofs.ClaimedChunks.{IsOfDrawn, blocks_apart, blocks_append, chunks_below, drawn_few, drawn_none, drawn_to_end, drawn_to_fault, drew_past, one_chunk}
use Rattle.page_jobs.proofs.RewriteSums.{none_within, rewrites_first}
use Rattle.page_jobs.proofs.RewrittenBlocks.{of_few, rewrites_nothing, rewrites_on, rewrites_past, rewrites_wider}

abbrev claim_of : List ℕ → List Outcome → Claimed Outcome
claim_of chunks items = record { chunks = chunks; items = items }

-- what a rewriter does at the end of a chunk, and how it begins
abbrev pub rewrites_closes : ℕ → PassState → Rewriter → Rewriter → Result Unit JobError → Type 0
rewrites_closes chunk q k l end = (l ≡ k) × (end ≡ Ok tt)

abbrev pub rewriter_begins : Rewriter → Type 0
rewriter_begins k = k.totals ≡ no_rewrite_totals

module _ {L G : Type 0} (contents : L → Option Pages) (m : Manager L G) (rel : ℕ) (fork : Fork) where
  -- what it does with a block, and with blocks one after the other
  abbrev pub rewrites_block : ℕ → PassState → PassState → Rewriter → Rewriter → Result Unit JobError → Type 0
  rewrites_block block p q k l end = CountsRewrites contents m rel fork (block ∷ []) p q k.totals l.totals end

  abbrev Rewrites : List ℕ → PassState → PassState → Rewriter → Rewriter → Result Unit JobError → Type 0
  Rewrites bs p q k l end = CountsRewrites contents m rel fork bs p q k.totals l.totals end

  free_of : (bs : List ℕ) (p q : PassState) (k l : Rewriter) (end : Result Unit JobError) → Rewrites bs p q k l end → HasNoTokens contents m q
  free_of bs p q k l end d = record { belongs = d.course.goes.belongs; spent = d.course.spent }

  rewrites_all : (bs : List ℕ) (p q : PassState) (k l : Rewriter) → DoesBlocks rewrites_block bs p q k l → HasNoTokens contents m p → IsRewriteWithin k.totals k.totals.blocks → Rewrites bs p q k l (Ok tt)
  rewrites_all [] p q k l did free within =
      subst (λ (x : PassState). Rewrites [] p x k l (Ok tt)) (sym did.0)
      (subst (λ (j : Rewriter). Rewrites [] p p k j (Ok tt)) (sym did.1) (rewrites_nothing contents m rel fork p k.totals (Ok tt) free within tt))
  rewrites_all (b ∷ bs) p q k l did free within =
      let r = did.0 in
      let i = did.1 in
      let one : Rewrites (b ∷ []) p r k i (Ok tt) = did.2 in
      rewrites_on contents m rel fork (b ∷ []) bs p r q k.totals i.totals l.totals (Ok tt) one (rewrites_all bs r q i l did.3 (free_of (b ∷ []) p r k i (Ok tt) one) one.within)

  -- a chunk, to its end
  rewrites_chunk : (n chunk : ℕ) (p q : PassState) (k l : Rewriter) (end : Result Unit JobError) → DoesChunk rewrites_block rewrites_closes n chunk p q k l end → HasNoTokens contents m p → IsRewriteWithin k.totals k.totals.blocks → Rewrites (blocks_of n chunk) p q k l (Ok tt)
  rewrites_chunk n chunk p q k l end did free within =
      subst (λ (j : Rewriter). Rewrites (blocks_of n chunk) p q k j (Ok tt)) (sym did.ends.0) (rewrites_all (blocks_of n chunk) p q k did.task did.blocks free within)

  -- chunks, each to its end
  rewrites_chunks : (n : ℕ) (cs : List ℕ) (p q : PassState) (k l : Rewriter) → DoesChunks rewrites_block rewrites_closes n cs p q k l → HasNoTokens contents m p → IsRewriteWithin k.totals k.totals.blocks → Rewrites (blocks_in_all n cs) p q k l (Ok tt)
  rewrites_chunks n [] p q k l did free within = rewrites_all [] p q k l did free within
  rewrites_chunks n (c ∷ cs) p q k l did free within =
      let r = did.0 in
      let i = did.1 in
      let one = rewrites_chunk n c p r k i (Ok tt) did.3 free within in
      rewrites_on contents m rel fork (blocks_of n c) (blocks_in_all n cs) p r q k.totals i.totals l.totals (Ok tt) one
      (rewrites_chunks n cs r q i l did.4 (free_of (blocks_of n c) p r k i (Ok tt) one) one.within)

  -- a chunk, up to a block that the task failed at
  rewrites_failed : (n chunk : ℕ) (p q : PassState) (k l : Rewriter) (e : JobError) → FailsAtBlock rewrites_block n chunk p q k l e → HasNoTokens contents m p → IsRewriteWithin k.totals k.totals.blocks → Rewrites (blocks_of n chunk) p q k l (Err e)
  rewrites_failed n chunk p q k l e f free within =
      let from = chunk_start chunk in
      let rest = chunk_size n chunk - f.many - 1 in
      let below = f.within in
      let size : chunk_size n chunk ≡ f.many + suc rest = omega (arith, below) in
      let first = rewrites_all (blocks_from from f.many) p f.pass k f.task f.before free within in
      let last : Rewrites (blocks_from (from + f.many) (suc rest)) f.pass q f.task l (Err e) = rewrites_wider contents m rel fork ((from + f.many) ∷ []) (blocks_from (from + f.many + 1) rest) f.pass q f.task.totals l.totals e f.fails in
      subst (λ (bs : List ℕ). Rewrites bs p q k l (Err e)) (sym (ap (blocks_from from) size ∙ blocks_apart from f.many (suc rest)))
      (rewrites_on contents m rel fork (blocks_from from f.many) (blocks_from (from + f.many) (suc rest)) p f.pass q k.totals f.task.totals l.totals (Err e) first last)

  rewrites_last : (n chunk : ℕ) (p q : PassState) (k l : Rewriter) (e : JobError) → WorksChunk rewrites_block rewrites_closes n chunk p q k l (Err e) → HasNoTokens contents m p → IsRewriteWithin k.totals k.totals.blocks → Rewrites (blocks_of n chunk) p q k l (Err e)
  rewrites_last n chunk p q k l e (inl failed) free within = rewrites_failed n chunk p q k l e failed free within
  rewrites_last n chunk p q k l e (inr closed) free within = absurd (cc closed.ends.1)

  -- What a worker that drew these numbers did with the chunks of n blocks that it claimed
  pub record RewritesClaims (n : ℕ) (drawn : List ℕ) (p q : PassState) (u : RewriteTotals) (end : Result Unit JobError) (c : Claimed Outcome) : Type 0 where
    pub blocks : RewritesBlocks contents m rel fork (blocks_in_all n c.chunks) c.items p q
    pub covers : CoversChunks n c
    pub drew : IsOfDrawn n c.chunks drawn
    pub within : IsRewriteWithin u u.blocks
    pub few : u.blocks ≤ n
    pub whole : OnOk end (RewritesWhole contents m rel fork (blocks_in_all n c.chunks) c.items p q)
    pub totals : OnOk end (u ≡ outcome_totals c.items)
    pub past : OnOk end (1 ≤ total (past_weight (chunk_count n)) drawn)
    pub cause : IfErr end (EndsRewriteFor contents m rel fork p q)

  abbrev Claims : ℕ → List ℕ → PassState → PassState → RewriteTotals → Result Unit JobError → Type 0
  Claims n drawn p q u end = (c : Claimed Outcome) × RewritesClaims n drawn p q u end c

  claims : (n : ℕ) (chunks drawn : List ℕ) (p q : PassState) (u : RewriteTotals) (end : Result Unit JobError) (d : CountsRewrites contents m rel fork (blocks_in_all n chunks) p q no_rewrite_totals u end)
      → CoversChunks n (claim_of chunks d.outcomes) → IsOfDrawn n chunks drawn → total (chunk_size n) drawn ≤ n → OnOk end (1 ≤ total (past_weight (chunk_count n)) drawn) → Claims n drawn p q u end
  claims n chunks drawn p q u end d covers drew sizes past = (
    claim_of chunks d.outcomes,
    record {
      blocks = d.course;
      covers = covers;
      drew = drew;
      within = d.within;
      few = let a = d.few in let b = of_few (blocks_in_all n chunks) d.outcomes d.course.order in let c = drawn_few n chunks drawn drew sizes in omega (arith, a, b, c);
      whole = d.whole;
      totals = on_ok_weaker end (λ (t : u ≡ sum_of_rewrite_totals no_rewrite_totals (outcome_totals d.outcomes)). t ∙ rewrites_first (outcome_totals d.outcomes)) d.totals;
      past = past;
      cause = d.cause;
    },
  )

  -- each chunk to its end, but maybe the last one
  covers : (n : ℕ) (chunks whole last : List ℕ) (os : List Outcome) → Ascend chunks → chunks ≡ whole ++ last → length last ≤ 1 → length (blocks_in_all n whole) ≤ length os → AreOf (blocks_in_all n chunks) os → CoversChunks n (claim_of chunks os)
  covers n chunks whole last os up split one first of = record { whole = whole; last = last; ascend = up; split = split; at_most_one = one; covered = first; within = of_few (blocks_in_all n chunks) os of }

  claims_whole : (n past : ℕ) (whole drawn : List ℕ) (p q : PassState) (u : RewriteTotals) → CountsRewrites contents m rel fork (blocks_in_all n whole) p q no_rewrite_totals u (Ok tt) → All (λ c. c < chunk_count n) whole
      → Ascend drawn → total (chunk_size n) drawn ≤ n → chunk_count n ≤ past → drawn ≡ whole ++ past ∷ [] → Claims n drawn p q u (Ok tt)
  claims_whole n past whole drawn p q u d below up sizes high is =
      claims n whole drawn p q u (Ok tt) d
      (covers n whole whole [] d.outcomes (ascend_front whole (past ∷ []) (subst Ascend is up)) (sym (append-nil whole)) (omega arith) (let w = d.whole.whole in omega (arith, w)) d.course.order)
      (subst (IsOfDrawn n whole) (sym is) (drawn_to_end n past whole below high)) sizes
      (subst (λ (l : List ℕ). 1 ≤ total (past_weight (chunk_count n)) l) (sym is) (drew_past n past whole high))

  claims_none : (n : ℕ) (whole drawn : List ℕ) (p q : PassState) (u : RewriteTotals) (e : JobError) → CountsRewrites contents m rel fork (blocks_in_all n whole) p q no_rewrite_totals u (Ok tt) → total (chunk_size n) drawn ≤ n
      → e ≡ Memory → drawn ≡ [] → whole ≡ [] → Claims n drawn p q u (Err e)
  claims_none n whole drawn p q u e so_far sizes memory is none =
      let before : CountsRewrites contents m rel fork [] p q no_rewrite_totals u (Ok tt) = subst (λ (cs : List ℕ). CountsRewrites contents m rel fork (blocks_in_all n cs) p q no_rewrite_totals u (Ok tt)) none so_far in
      let free : HasNoTokens contents m q = record { belongs = before.course.goes.belongs; spent = before.course.spent } in
      let d : CountsRewrites contents m rel fork [] p q no_rewrite_totals u (Err e) = rewrites_on contents m rel fork [] [] p q q no_rewrite_totals u u (Err e) before (rewrites_nothing contents m rel fork q u (Err e) free before.within memory) in
      claims n [] drawn p q u (Err e) d (covers n [] [] [] d.outcomes tt refl (omega arith) (omega arith) d.course.order) (subst (IsOfDrawn n []) (sym is) (drawn_none n)) sizes tt

  claims_fault : (n chunk : ℕ) (whole drawn : List ℕ) (p r q : PassState) (u v : RewriteTotals) (e : JobError) → CountsRewrites contents m rel fork (blocks_in_all n whole) p r no_rewrite_totals u (Ok tt) → CountsRewrites contents m rel fork (blocks_of n chunk) r q u v (Err e)
      → All (λ c. c < chunk_count n) whole → Ascend drawn → total (chunk_size n) drawn ≤ n → chunk < chunk_count n → drawn ≡ whole ++ chunk ∷ [] → Claims n drawn p q v (Err e)
  claims_fault n chunk whole drawn p r q u v e so_far last below up sizes low is =
      let chunks = whole ++ chunk ∷ [] in
      let d = subst (λ (bs : List ℕ). (d : CountsRewrites contents m rel fork bs p q no_rewrite_totals v (Err e)) × (length (blocks_in_all n whole) ≤ length d.outcomes)) (sym (blocks_append n whole (chunk ∷ []) ∙ ap (λ (l : List ℕ). blocks_in_all n whole ++ l) (one_chunk n chunk)))
      (rewrites_past contents m rel fork (blocks_in_all n whole) (blocks_of n chunk) p r q no_rewrite_totals u v (Err e) so_far last) in
      claims n chunks drawn p q v (Err e) d.0 (covers n chunks whole (chunk ∷ []) d.0.outcomes (subst Ascend is up) refl (omega arith) d.1 d.0.course.order)
      (subst (IsOfDrawn n chunks) (sym is) (drawn_to_fault n chunk whole below low)) sizes tt

  -- what was claimed where a worker ended so, after the chunks that it dealt with to their end
  claims_ended : (n : ℕ) (whole drawn : List ℕ) (p r q : PassState) (i l : Rewriter) (end : Result Unit JobError) → CountsRewrites contents m rel fork (blocks_in_all n whole) p r no_rewrite_totals i.totals (Ok tt)
      → All (λ c. c < chunk_count n) whole → Ascend drawn → total (chunk_size n) drawn ≤ n → EndsAfter rewrites_block rewrites_closes n whole drawn r q i l end → Claims n drawn p q l.totals end
  claims_ended n whole drawn p r q i l (Ok done) so_far below up sizes ends =
      claims_whole n ends.0.0 whole drawn p q l.totals
      (subst (λ (x : PassState). CountsRewrites contents m rel fork (blocks_in_all n whole) p x no_rewrite_totals l.totals (Ok tt)) (sym ends.1)
      (subst (λ (j : Rewriter). CountsRewrites contents m rel fork (blocks_in_all n whole) p r no_rewrite_totals j.totals (Ok tt)) (sym ends.2) so_far))
      below up sizes ends.0.1 ends.0.2
  claims_ended n whole drawn p r q i l (Err e) so_far below up sizes (inl short) =
      claims_none n whole drawn p q l.totals e
      (subst (λ (x : PassState). CountsRewrites contents m rel fork (blocks_in_all n whole) p x no_rewrite_totals l.totals (Ok tt)) (sym short.3)
      (subst (λ (j : Rewriter). CountsRewrites contents m rel fork (blocks_in_all n whole) p r no_rewrite_totals j.totals (Ok tt)) (sym short.4) so_far))
      sizes short.0 short.1 short.2
  claims_ended n whole drawn p r q i l (Err e) so_far below up sizes (inr failed) =
      claims_fault n failed.0 whole drawn p r q i.totals l.totals e so_far
      (rewrites_last n failed.0 r q i l e failed.3 record { belongs = so_far.course.goes.belongs; spent = so_far.course.spent } so_far.within)
      below up sizes failed.1 failed.2

  worker_claims : (n : ℕ) (drawn : List ℕ) (p q : PassState) (k l : Rewriter) (end : Result Unit JobError) → HasNoTokens contents m p → rewriter_begins k → WorksChunks rewrites_block rewrites_closes n drawn p q k l end → Claims n drawn p q l.totals end
  worker_claims n drawn p q k l end free begins w =
      claims_ended n w.whole drawn p w.pass q w.task l end
      (subst (λ (t : RewriteTotals). CountsRewrites contents m rel fork (blocks_in_all n w.whole) p w.pass t w.task.totals (Ok tt)) begins
      (rewrites_chunks n w.whole p w.pass k w.task w.does_them free (none_within k.totals begins)))
      (chunks_below rewrites_block rewrites_closes n w.whole p w.pass k w.task w.does_them) w.ascend w.few w.ends

  -- what the workers that the passes became did, each with its claims
  abbrev pub DoRewrites : ℕ → List PassState → List (Worker Rewriter) → List (Claimed Outcome) → Type 0
  DoRewrites n [] [] [] = Unit {0}
  DoRewrites n (p ∷ ps) (x ∷ xs) (c ∷ cs) = RewritesClaims n x.seat.me.0.drawn p x.pass x.task.totals x.end c × DoRewrites n ps xs cs
  DoRewrites n ps xs cs = ⊥

  pub do_rewrites : (n : ℕ) (ps : List PassState) (xs : List (Worker Rewriter)) → HaveNoTokens contents m ps → HaveDone rewriter_begins rewrites_block rewrites_closes n ps xs → (cs : List (Claimed Outcome)) × DoRewrites n ps xs cs
  do_rewrites n [] [] free d = ([], tt)
  do_rewrites n [] (x ∷ xs) free d = absurd d
  do_rewrites n (p ∷ ps) [] free d = absurd d
  do_rewrites n (p ∷ ps) (x ∷ xs) free d =
      let one = worker_claims n x.seat.me.0.drawn p x.pass d.0.0 x.task x.end free.0 d.0.1 d.0.2 in
      let rest = do_rewrites n ps xs free.1 d.1 in
      (one.0 ∷ rest.0, (one.1, rest.1))
