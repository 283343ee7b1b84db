-- What all workers of a rewrite did, together.
use Rattle.std.proofs.Common.{◌≡◌, ℕ, zero, suc, ◌+◌, ◌*◌, ◌<◌, ◌≤◌, ◌⊎◌, true, List, [], ◌∷◌, length, map, Option, Result, Ok, Err, refl, sym, ap, ap₂, ◌∙◌, subst, arith, inl, inr}
use Rattle.std.specs.Prelude.{OnOk, IfErr, IfOk}
use Rattle.std.proofs.lemmas.List.{length-map}
use mathlib.Core.Option.{some, some-injective, some-ne-none}
use lib.ListN.{get_elem?}
use Rattle.block_tag.specs.declared.tag.Fork.{Fork}
use Rattle.block_tag.specs.Names.{names_block, tag_of_parts}
use Rattle.page_layout.specs.declared.outcomes.RewriteTotals.{RewriteTotals}
use Rattle.page_layout.specs.Outcomes.{sum_of_rewrite_totals}
use Rattle.segment_store.specs.Contents.{Pages}
use Rattle.grid.specs.Shape.{total}
use Rattle.chunk_claims.specs.Claims.{past_weight, sum_below}
use Rattle.backend_pass.specs.declared.manager.Manager.{Manager}
use Rattle.backend_pass.specs.Passes.{PassState}
use Rattle.page_jobs.specs.declared.ending.JobError.{JobError}
use Rattle.page_jobs.specs.declared.ending.JobError.TheVariants.{Memory}
use Rattle.page_jobs.specs.declared.ending.Totals.{Totals}
use Rattle.page_jobs.specs.declared.rewriting.Rewriter.{Rewriter}
use Rattle.page_jobs.specs.declared.working.Worker.{Worker}
use Rattle.page_jobs.specs.Beside.{EndsBeside, WorkIsRefused}
use Rattle.page_jobs.specs.Chunks.{Claimed, CoversChunks, blocks_in_all, chunk_count, items_in_all}
use Rattle.page_jobs.specs.Dealt.{AllDone, EndsFirst, total_drawn}
use Rattle.page_jobs.specs.Ending.{totals_of_rewrite}
use Rattle.page_jobs.specs.Jobs.{HaveNoTokens}
use Rattle.page_jobs.specs.Parts.{MeetsFault, blocks_in}
use Rattle.backend_pass.specs.Between.{HasNoTokens}
use Rattle.page_jobs.specs.Rewrites.{Outcome, outcome_totals}
use Rattle.page_jobs.specs.Rewriting.{EndsRewriteFor, PutIsRefused, RewritesBlocks, RewritesWhole}
use Rattle.page_jobs.specs.Rewriters.{AreRewritesCounted, rewritten_totals}
use Rattle.page_jobs.specs.RewriteJobs.{FailsFirst, RewriteParts, RewritesChunks, RewritesFork}
use Rattle.page_jobs.proofs.BesideWork.{free_at}
use Rattle.page_jobs.proofs.ClaimedChunks.{AllDrewPast, AreOfDrawn, claimed_all, claimed_once, none_at, none_long, none_of_each, none_once}
use Rattle.page_jobs.proofs.RewriteSums.{outcome_totals-append}
use Rattle.page_jobs.proofs.RewrittenBlocks.{blocks_none}
use Rattle.page_jobs.proofs.RewrittenChunks.{DoRewrites, RewritesClaims}
use Rattle.table_rule.proofs.Opens.{length_low, there_at}

-- what each worker drew
abbrev drawn_by : List (Worker Rewriter) → List (List ℕ)
drawn_by xs = map (λ (x : Worker Rewriter). x.seat.me.0.drawn) xs

drawn_total : (g : ℕ → ℕ) (xs : List (Worker Rewriter)) → total (λ (l : List ℕ). total g l) (drawn_by xs) ≡ total_drawn g xs
unfolding total
drawn_total g [] = refl
drawn_total g (x ∷ xs) = ap (λ (n : ℕ). total g x.seat.me.0.drawn + n) (drawn_total g xs)

module _ {L G : Type 0} (contents : L → Option Pages) (m : Manager L G) (rel : ℕ) (fork : Fork) where
  abbrev Did : ℕ → List PassState → List (Worker Rewriter) → List (Claimed Outcome) → Type 0
  Did n ps xs cs = DoRewrites contents m rel fork n ps xs cs

  pub workers_long : (n : ℕ) (ps : List PassState) (xs : List (Worker Rewriter)) (cs : List (Claimed Outcome)) → Did n ps xs cs → length xs ≡ length ps
  workers_long n [] [] [] d = refl
  workers_long n [] [] (c ∷ cs) d = absurd d
  workers_long n [] (x ∷ xs) cs d = absurd d
  workers_long n (p ∷ ps) [] cs d = absurd d
  workers_long n (p ∷ ps) (x ∷ xs) [] d = absurd d
  workers_long n (p ∷ ps) (x ∷ xs) (c ∷ cs) d = ap suc (workers_long n ps xs cs d.1)

  claims_long : (n : ℕ) (ps : List PassState) (xs : List (Worker Rewriter)) (cs : List (Claimed Outcome)) → Did n ps xs cs → length cs ≡ length ps
  claims_long n [] [] [] d = refl
  claims_long n [] [] (c ∷ cs) d = absurd d
  claims_long n [] (x ∷ xs) cs d = absurd d
  claims_long n (p ∷ ps) [] cs d = absurd d
  claims_long n (p ∷ ps) (x ∷ xs) [] d = absurd d
  claims_long n (p ∷ ps) (x ∷ xs) (c ∷ cs) d = ap suc (claims_long n ps xs cs d.1)

  -- how a worker ended
  abbrev HowEnded : PassState → PassState → Type 0
  HowEnded p q = (q.view.met ≡ p.view.met) ⊎ ((e : JobError) × (MeetsFault contents m rel fork p q e ⊎ PutIsRefused contents m rel fork p q e))

  ended_for : (p q : PassState) (e : JobError) → EndsRewriteFor contents m rel fork p q e → HowEnded p q
  ended_for p q e (inl memory) = inl memory.1
  ended_for p q e (inr fails) = inr (e, fails)

  how_ended : (n : ℕ) (drawn : List ℕ) (p q : PassState) (u : RewriteTotals) (end : Result Unit JobError) (c : Claimed Outcome) → RewritesClaims contents m rel fork n drawn p q u end c → HowEnded p q
  how_ended n drawn p q u (Ok done) c h = inl h.whole.met
  how_ended n drawn p q u (Err e) c h = ended_for p q e h.cause

  -- the worker at a place
  abbrev DidClaim : ℕ → Type 0 → PassState → PassState → Claimed Outcome → Type 0
  DidClaim n done p q c = RewritesBlocks contents m rel fork (blocks_in_all n c.chunks) c.items p q × CoversChunks n c × HowEnded p q × (done → RewritesWhole contents m rel fork (blocks_in_all n c.chunks) c.items p q)

  claim_at : (n w : ℕ) (ps : List PassState) (xs : List (Worker Rewriter)) (cs : List (Claimed Outcome)) (p q : PassState) (c : Claimed Outcome) → Did n ps xs cs
      → get_elem? ps w ≡ some p → get_elem? (map (λ (x : Worker Rewriter). x.pass) xs) w ≡ some q → get_elem? cs w ≡ some c → DidClaim n (AllDone xs) p q c
  claim_at n w [] xs cs p q c d at there of = absurd (some-ne-none p (sym at))
  claim_at n w (p' ∷ ps) [] cs p q c d at there of = absurd d
  claim_at n w (p' ∷ ps) (x ∷ xs) [] p q c d at there of = absurd d
  claim_at n zero (p' ∷ ps) (x ∷ xs) (c' ∷ cs) p q c d at there of =
      let here : DidClaim n (AllDone (x ∷ xs)) p' x.pass c' = (d.0.blocks, d.0.covers, how_ended n x.seat.me.0.drawn p' x.pass x.task.totals x.end c' d.0, λ done. subst (λ (r : Result Unit JobError). OnOk r (RewritesWhole contents m rel fork (blocks_in_all n c'.chunks) c'.items p' x.pass)) done.0 d.0.whole) in
      subst (λ (z : Claimed Outcome). DidClaim n (AllDone (x ∷ xs)) p q z) (some-injective c' c of)
      (subst (λ (y : PassState). DidClaim n (AllDone (x ∷ xs)) y q c') (some-injective p' p at)
      (subst (λ (z : PassState). DidClaim n (AllDone (x ∷ xs)) p' z c') (some-injective x.pass q there) here))
  claim_at n (suc w) (p' ∷ ps) (x ∷ xs) (c' ∷ cs) p q c d at there of = let rest = claim_at n w ps xs cs p q c d.1 at there of in (rest.0, rest.1, rest.2, λ done. rest.3 done.1)

  of_drawn : (n : ℕ) (ps : List PassState) (xs : List (Worker Rewriter)) (cs : List (Claimed Outcome)) → Did n ps xs cs → AreOfDrawn n cs (drawn_by xs)
  of_drawn n [] [] [] d = tt
  of_drawn n [] [] (c ∷ cs) d = absurd d
  of_drawn n [] (x ∷ xs) cs d = absurd d
  of_drawn n (p ∷ ps) [] cs d = absurd d
  of_drawn n (p ∷ ps) (x ∷ xs) [] d = absurd d
  of_drawn n (p ∷ ps) (x ∷ xs) (c ∷ cs) d = (d.0.drew, of_drawn n ps xs cs d.1)

  drew_past : (n : ℕ) (ps : List PassState) (xs : List (Worker Rewriter)) (cs : List (Claimed Outcome)) → Did n ps xs cs → AllDone xs → AllDrewPast n (drawn_by xs)
  drew_past n [] [] [] d done = tt
  drew_past n [] [] (c ∷ cs) d done = absurd d
  drew_past n [] (x ∷ xs) cs d done = absurd d
  drew_past n (p ∷ ps) [] cs d done = absurd d
  drew_past n (p ∷ ps) (x ∷ xs) [] d done = absurd d
  drew_past n (p ∷ ps) (x ∷ xs) (c ∷ cs) d done = (
    subst (λ (r : Result Unit JobError). OnOk r (1 ≤ total (past_weight (chunk_count n)) x.seat.me.0.drawn)) done.0 d.0.past,
    drew_past n ps xs cs d.1 done.1,
  )

  -- the workers' totals
  pub rewrites_counted : (n : ℕ) (ps : List PassState) (xs : List (Worker Rewriter)) (cs : List (Claimed Outcome)) → Did n ps xs cs → AreRewritesCounted xs
  rewrites_counted n [] [] [] d = tt
  rewrites_counted n [] [] (c ∷ cs) d = absurd d
  rewrites_counted n [] (x ∷ xs) cs d = absurd d
  rewrites_counted n (p ∷ ps) [] cs d = absurd d
  rewrites_counted n (p ∷ ps) (x ∷ xs) [] d = absurd d
  rewrites_counted n (p ∷ ps) (x ∷ xs) (c ∷ cs) d = (d.0.within, rewrites_counted n ps xs cs d.1)

  pub rewrites_few : (n : ℕ) (ps : List PassState) (xs : List (Worker Rewriter)) (cs : List (Claimed Outcome)) → n < 4294967296 → Did n ps xs cs → (rewritten_totals xs).blocks ≤ 4294967296 * length ps
  rewrites_few n [] [] [] low d = omega arith
  rewrites_few n [] [] (c ∷ cs) low d = absurd d
  rewrites_few n [] (x ∷ xs) cs low d = absurd d
  rewrites_few n (p ∷ ps) [] cs low d = absurd d
  rewrites_few n (p ∷ ps) (x ∷ xs) [] low d = absurd d
  rewrites_few n (p ∷ ps) (x ∷ xs) (c ∷ cs) low d = let one = d.0.few in let rest = rewrites_few n ps xs cs low d.1 in omega (arith, one, rest, low)

  totals_done : (n : ℕ) (ps : List PassState) (xs : List (Worker Rewriter)) (cs : List (Claimed Outcome)) → Did n ps xs cs → AllDone xs → rewritten_totals xs ≡ outcome_totals (items_in_all cs)
  totals_done n [] [] [] d done = refl
  totals_done n [] [] (c ∷ cs) d done = absurd d
  totals_done n [] (x ∷ xs) cs d done = absurd d
  totals_done n (p ∷ ps) [] cs d done = absurd d
  totals_done n (p ∷ ps) (x ∷ xs) [] d done = absurd d
  totals_done n (p ∷ ps) (x ∷ xs) (c ∷ cs) d done =
      let one : x.task.totals ≡ outcome_totals c.items = subst (λ (r : Result Unit JobError). OnOk r (x.task.totals ≡ outcome_totals c.items)) done.0 d.0.totals in
      ap₂ (λ (t u : RewriteTotals). sum_of_rewrite_totals t u) one (totals_done n ps xs cs d.1 done.1) ∙ sym (outcome_totals-append c.items (items_in_all cs))

  -- why the first of the workers that ended early did
  one_fails : (e : JobError) (p q : PassState) (ps qs : List PassState) → EndsRewriteFor contents m rel fork p q e → (e ≡ Memory) ⊎ FailsFirst contents m rel fork (p ∷ ps) (q ∷ qs) e
  one_fails e p q ps qs (inl memory) = inl memory.0
  one_fails e p q ps qs (inr fails) = inr (inl fails)

  other_fails : (e : JobError) (p q : PassState) (ps qs : List PassState) (c : Claimed Outcome) → RewritesWhole contents m rel fork (blocks_in_all (blocks_in m rel fork) c.chunks) c.items p q
      → (e ≡ Memory) ⊎ FailsFirst contents m rel fork ps qs e → (e ≡ Memory) ⊎ FailsFirst contents m rel fork (p ∷ ps) (q ∷ qs) e
  other_fails e p q ps qs c whole (inl memory) = inl memory
  other_fails e p q ps qs c whole (inr fails) = inr (inr ((c, whole), fails))

  first_fails : (ps : List PassState) (xs : List (Worker Rewriter)) (cs : List (Claimed Outcome)) (e : JobError) → Did (blocks_in m rel fork) ps xs cs → EndsFirst e xs → (e ≡ Memory) ⊎ FailsFirst contents m rel fork ps (map (λ (x : Worker Rewriter). x.pass) xs) e
  first_fails ps [] cs e d ends = absurd ends
  first_fails [] (x ∷ xs) cs e d ends = absurd d
  first_fails (p ∷ ps) (x ∷ xs) [] e d ends = absurd d
  first_fails (p ∷ ps) (x ∷ xs) (c ∷ cs) e d (inl is) = one_fails e p x.pass ps (map (λ (y : Worker Rewriter). y.pass) xs) (subst (λ (r : Result Unit JobError). IfErr r (EndsRewriteFor contents m rel fork p x.pass)) is d.0.cause)
  first_fails (p ∷ ps) (x ∷ xs) (c ∷ cs) e d (inr later) = other_fails e p x.pass ps (map (λ (y : Worker Rewriter). y.pass) xs) c
      (subst (λ (r : Result Unit JobError). OnOk r (RewritesWhole contents m rel fork (blocks_in_all (blocks_in m rel fork) c.chunks) c.items p x.pass)) later.0 d.0.whole) (first_fails ps xs cs e d.1 later.1)

  -- where no worker began
  pub undone_parts : (ps : List PassState) → ((block : ℕ) → block < blocks_in m rel fork → names_block (tag_of_parts rel fork block) ≡ true) → HaveNoTokens contents m ps → RewriteParts contents m rel fork ps ps
  undone_parts ps named free = record {
    counted = refl;
    claimed = none_of_each ps;
    listed = none_long Outcome ps;
    each = λ w p q c at there of.
        subst (λ (y : PassState). RewritesChunks contents m rel fork c p y) (some-injective p q (sym at ∙ there))
        (subst (λ (d : Claimed Outcome). RewritesChunks contents m rel fork d p p) (sym (none_at ps w c of)) (none p (free_at contents m ps w p free at)));
    ended = λ w p q at after. inl (ap (λ (y : PassState). y.view.met) (some-injective q p (sym after ∙ at)));
    once = none_once Outcome (blocks_in m rel fork) ps;
    named = named;
  }
    where
      none : (p : PassState) → HasNoTokens contents m p → RewritesChunks contents m rel fork record { chunks = []; items = [] } p p
      none p free = record { blocks = blocks_none contents m rel fork [] p free; covers = record { whole = []; last = []; ascend = tt; split = refl; at_most_one = omega arith; covered = omega arith; within = omega arith } }

  -- The numbers that the workers drew are those below one, each once
  module _ (ps : List PassState) (xs : List (Worker Rewriter)) (cs : List (Claimed Outcome)) (d : Did (blocks_in m rel fork) ps xs cs) (word : ℕ) (once : (g : ℕ → ℕ) → total_drawn g xs ≡ sum_below word g) where
    abbrev blocks : ℕ
    blocks = blocks_in m rel fork

    abbrev ended : List PassState
    ended = map (λ (x : Worker Rewriter). x.pass) xs

    drawn_once : (g : ℕ → ℕ) → total (λ (l : List ℕ). total g l) (drawn_by xs) ≡ sum_below word g
    drawn_once g = drawn_total g xs ∙ once g

    pub rewrite_parts : ((block : ℕ) → block < blocks_in m rel fork → names_block (tag_of_parts rel fork block) ≡ true) → RewriteParts contents m rel fork ps ended
    rewrite_parts named = record {
      counted = length-map xs (λ (x : Worker Rewriter). x.pass) ∙ workers_long blocks ps xs cs d;
      claimed = cs;
      listed = claims_long blocks ps xs cs d;
      each = λ w p q c at there of. let did = claim_at blocks w ps xs cs p q c d at there of in record { blocks = did.0; covers = did.1 };
      ended = λ w p q at after.
          let below = length_low ps w p at in
          let listed = claims_long blocks ps xs cs d in
          let c = there_at cs w (omega (arith, below, listed)) in
          (claim_at blocks w ps xs cs p q c.0 d at after c.1).2;
      once = claimed_once blocks word cs (drawn_by xs) (of_drawn blocks ps xs cs d) drawn_once;
      named = named;
    }

    module _ (several : 0 < length ps) where
      rewrites_fork : (totals : Totals) → AllDone xs → totals ≡ totals_of_rewrite (rewritten_totals xs) → RewritesFork contents m rel fork ps ended totals
      rewrites_fork totals done are = record {
        claimed = cs;
        listed = claims_long blocks ps xs cs d;
        each = λ w p q c at there of. (claim_at blocks w ps xs cs p q c d at there of).3 done;
        all = claimed_all blocks word cs (drawn_by xs) (of_drawn blocks ps xs cs d) drawn_once (let drawn = length-map xs (λ (x : Worker Rewriter). x.seat.me.0.drawn) in let long = workers_long blocks ps xs cs d in omega (arith, drawn, long, several)) (drew_past blocks ps xs cs d done);
        totals_is = are ∙ ap totals_of_rewrite (totals_done blocks ps xs cs d done);
      }

      pub rewrite_done : (r : Result Totals JobError) → IfOk r (λ totals. (totals ≡ totals_of_rewrite (rewritten_totals xs)) × AllDone xs) → IfOk r (RewritesFork contents m rel fork ps ended)
      rewrite_done (Ok totals) ok = rewrites_fork totals ok.1 ok.0
      rewrite_done (Err e) ok = tt

      module _ (p q : PassState) (end : Result Unit JobError) (beside : EndsBeside contents m p q end) where
        abbrev RewriteEndsFor : JobError → Type 0
        RewriteEndsFor e = (e ≡ Memory) ⊎ (FailsFirst contents m rel fork ps ended e ⊎ (((totals : Totals) × RewritesFork contents m rel fork ps ended totals) × WorkIsRefused contents m p q e))

        failed : (e : JobError) → (e ≡ Memory) ⊎ FailsFirst contents m rel fork ps ended e → RewriteEndsFor e
        failed e (inl memory) = inl memory
        failed e (inr fails) = inr (inl fails)

        cause_of : (e : JobError) → EndsFirst e xs ⊎ (AllDone xs × (end ≡ Err e)) → RewriteEndsFor e
        cause_of e (inl ends) = failed e (first_fails ps xs cs e d ends)
        cause_of e (inr t) = inr (inr (
          (totals_of_rewrite (rewritten_totals xs), rewrites_fork (totals_of_rewrite (rewritten_totals xs)) t.0 refl),
          subst (λ (r : Result Unit JobError). IfErr r (WorkIsRefused contents m p q)) t.1 beside.cause,
        ))

        pub rewrite_cause : {A : Type 0} (r : Result A JobError) → IfErr r (λ e. EndsFirst e xs ⊎ (AllDone xs × (end ≡ Err e))) → IfErr r RewriteEndsFor
        rewrite_cause (Ok a) c = tt
        rewrite_cause (Err e) c = cause_of e c
