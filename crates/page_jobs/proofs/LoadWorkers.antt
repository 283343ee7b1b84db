-- What all workers of a load did, together.
use Rattle.std.proofs.Common.{◌≡◌, ℕ, zero, suc, ◌+◌, ◌<◌, ◌⊎◌, List, [], ◌∷◌, length, map, Option, Result, Ok, Err, refl, sym, ap, ◌∙◌, subst, inl, inr, arith}
use Rattle.std.specs.Prelude.{IfErr, OnOk}
use mathlib.Core.Option.{some, some-injective, some-ne-none}
use lib.ListN.{get_elem?}
use Rattle.grid.specs.Shape.{total}
use Rattle.chunk_claims.specs.Claims.{sum_below}
use Rattle.chunk_claims.proofs.Weights.{sum_ones}
use Rattle.block_tag.specs.declared.tag.Tag.{Tag}
use Rattle.segment_store.specs.Contents.{Pages}
use Rattle.backend_pass.specs.declared.manager.Manager.{Manager}
use Rattle.backend_pass.specs.Between.{HasNoTokens}
use Rattle.backend_pass.specs.Passes.{PassState}
use Rattle.page_jobs.specs.declared.ending.JobError.{JobError}
use Rattle.page_jobs.specs.declared.ending.JobError.TheVariants.{Memory}
use Rattle.page_jobs.specs.declared.loading.Loader.{Loader}
use Rattle.page_jobs.specs.declared.working.Worker.{Worker}
use Rattle.page_jobs.specs.Beside.{EndsBeside, WorkIsRefused}
use Rattle.page_jobs.specs.Chunks.{AreAllClaimed, Claimed, blocks_in_all}
use Rattle.page_jobs.specs.Dealt.{AllDone, EndsFirst, total_drawn}
use Rattle.page_jobs.specs.Jobs.{FoundMoreIn, HaveNoTokens}
use Rattle.page_jobs.specs.Loads.{AnyMeetsListed, LoadsAll, LoadsPart, LoadsParts, MeetsListed}
use Rattle.page_jobs.proofs.BesideWork.{free_at}
use Rattle.page_jobs.proofs.ClaimedChunks.{AllDrewPast, AreOfDrawn, blocks_all, claimed_all, claimed_once, none_at, none_long, none_of_each, none_once, total_ones}
use Rattle.page_jobs.proofs.FoundPasses.{no_pass_found, one_more_found, so_many_found}
use Rattle.page_jobs.proofs.LoadedChunks.{DoLoads, EndsLoadFor, LoadsClaims, TookWhole}
use Rattle.page_jobs.proofs.Staying.{stays_none}

-- the passes of workers, and what their seats drew
abbrev pub passes_of : List (Worker Loader) → List PassState
passes_of xs = map (λ (x : Worker Loader). x.pass) xs

abbrev drawn_of : List (Worker Loader) → List (List ℕ)
drawn_of xs = map (λ (x : Worker Loader). x.seat.me.0.drawn) xs

drawn_total : (g : ℕ → ℕ) (xs : List (Worker Loader)) → total (λ (l : List ℕ). total g l) (drawn_of xs) ≡ total_drawn g xs
unfolding total
drawn_total g [] = refl
drawn_total g (x ∷ xs) = ap (λ (n : ℕ). total g x.seat.me.0.drawn + n) (drawn_total g xs)

module _ {L G : Type 0} (contents : L → Option Pages) (m : Manager L G) (tags : List Tag) where
  abbrev Did : List PassState → List (Worker Loader) → List (Claimed ℕ) → Type 0
  Did ps xs cs = DoLoads contents m tags ps xs cs

  -- how a worker ended
  abbrev HowEnded : PassState → PassState → Type 0
  HowEnded p q = (q.view.met ≡ p.view.met) ⊎ ((e : JobError) × MeetsListed contents m tags p q e)

  why_ended : (p q : PassState) (e : JobError) → EndsLoadFor contents m tags p q e → HowEnded p q
  why_ended p q e (inl short) = inl short.1
  why_ended p q e (inr meets) = inr (e, meets)

  -- where no worker began
  unloaded : (p : PassState) → HasNoTokens contents m p → LoadsPart contents m tags record { chunks = []; items = [] } p p
  unloaded p free = record {
    loads = record { stays = stays_none contents m p free.belongs; spent = free.spent; calls = refl };
    rest = [];
    order = refl;
    took = λ k i tag at there. absurd (some-ne-none i (sym at));
    covers = record { whole = []; last = []; ascend = tt; split = refl; at_most_one = omega arith; covered = omega arith; within = omega arith };
  }

  pub unloaded_parts : (ps : List PassState) → HaveNoTokens contents m ps → LoadsParts contents m tags ps ps
  unloaded_parts ps free = record {
    counted = refl;
    claimed = none_of_each {A = ℕ} ps;
    listed = none_long ℕ ps;
    each = λ w p q c at there that.
        subst (λ (y : PassState). LoadsPart contents m tags c p y) (some-injective p q (sym at ∙ there))
        (subst (λ (d : Claimed ℕ). LoadsPart contents m tags d p p) (sym (none_at ps w c that)) (unloaded p (free_at contents m ps w p free at)));
    ended = λ w p q at there. subst (λ (y : PassState). HowEnded p y) (some-injective p q (sym at ∙ there)) (inl refl);
    once = none_once ℕ (length tags) ps;
  }

  pub passes_long : (ps : List PassState) (xs : List (Worker Loader)) (cs : List (Claimed ℕ)) → Did ps xs cs → length (passes_of xs) ≡ length ps
  passes_long [] [] [] d = refl
  passes_long (p ∷ ps) (x ∷ xs) (c ∷ cs) d = ap suc (passes_long ps xs cs d.1)
  passes_long ps xs cs d = absurd d

  pub workers_long : (ps : List PassState) (xs : List (Worker Loader)) (cs : List (Claimed ℕ)) → Did ps xs cs → length xs ≡ length ps
  workers_long [] [] [] d = refl
  workers_long (p ∷ ps) (x ∷ xs) (c ∷ cs) d = ap suc (workers_long ps xs cs d.1)
  workers_long ps xs cs d = absurd d

  drawn_long : (ps : List PassState) (xs : List (Worker Loader)) (cs : List (Claimed ℕ)) → Did ps xs cs → length (drawn_of xs) ≡ length ps
  drawn_long [] [] [] d = refl
  drawn_long (p ∷ ps) (x ∷ xs) (c ∷ cs) d = ap suc (drawn_long ps xs cs d.1)
  drawn_long ps xs cs d = absurd d

  claimed_long : (ps : List PassState) (xs : List (Worker Loader)) (cs : List (Claimed ℕ)) → Did ps xs cs → length cs ≡ length ps
  claimed_long [] [] [] d = refl
  claimed_long (p ∷ ps) (x ∷ xs) (c ∷ cs) d = ap suc (claimed_long ps xs cs d.1)
  claimed_long ps xs cs d = absurd d

  are_drawn : (ps : List PassState) (xs : List (Worker Loader)) (cs : List (Claimed ℕ)) → Did ps xs cs → AreOfDrawn (length tags) cs (drawn_of xs)
  are_drawn [] [] [] d = tt
  are_drawn (p ∷ ps) (x ∷ xs) (c ∷ cs) d = (d.0.drew, are_drawn ps xs cs d.1)
  are_drawn ps xs cs d = absurd d

  -- What one of the workers did
  record DidAt (w : ℕ) (p q : PassState) (xs : List (Worker Loader)) (c : Claimed ℕ) : Type 0 where
    pub worker : Worker Loader
    pub there : get_elem? xs w ≡ some worker
    pub did : LoadsClaims contents m tags worker.seat.me.0.drawn p q worker.end c

  did_at : (w : ℕ) (ps : List PassState) (xs : List (Worker Loader)) (cs : List (Claimed ℕ)) (p q : PassState) (c : Claimed ℕ) → Did ps xs cs → get_elem? ps w ≡ some p → get_elem? (passes_of xs) w ≡ some q → get_elem? cs w ≡ some c → DidAt w p q xs c
  did_at w [] [] [] p q c d at there that = absurd (some-ne-none p (sym at))
  did_at zero (a ∷ ps) (x ∷ xs) (b ∷ cs) p q c d at there that =
      subst (λ (y : PassState). DidAt zero y q (x ∷ xs) c) (some-injective a p at)
      (subst (λ (y : PassState). DidAt zero a y (x ∷ xs) c) (some-injective x.pass q there)
      (subst (λ (y : Claimed ℕ). DidAt zero a x.pass (x ∷ xs) y) (some-injective b c that) record { worker = x; there = refl; did = d.0 }))
  did_at (suc w) (a ∷ ps) (x ∷ xs) (b ∷ cs) p q c d at there that =
      let h = did_at w ps xs cs p q c d.1 at there that in record { worker = h.worker; there = h.there; did = h.did }
  did_at w ps xs cs p q c d at there that = absurd d

  -- how each worker ended
  how_ended : (drawn : List ℕ) (p q : PassState) (end : Result Unit JobError) (c : Claimed ℕ) → LoadsClaims contents m tags drawn p q end c → HowEnded p q
  how_ended drawn p q (Ok done) c h = inl h.done.1
  how_ended drawn p q (Err e) c h = why_ended p q e h.cause

  ended_at : (w : ℕ) (ps : List PassState) (xs : List (Worker Loader)) (cs : List (Claimed ℕ)) (p q : PassState) → Did ps xs cs → get_elem? ps w ≡ some p → get_elem? (passes_of xs) w ≡ some q → HowEnded p q
  ended_at w [] [] [] p q d at there = absurd (some-ne-none p (sym at))
  ended_at zero (a ∷ ps) (x ∷ xs) (c ∷ cs) p q d at there =
      subst (λ (y : PassState). HowEnded y q) (some-injective a p at)
      (subst (λ (y : PassState). HowEnded a y) (some-injective x.pass q there) (how_ended x.seat.me.0.drawn a x.pass x.end c d.0))
  ended_at (suc w) (a ∷ ps) (x ∷ xs) (c ∷ cs) p q d at there = ended_at w ps xs cs p q d.1 at there
  ended_at w ps xs cs p q d at there = absurd d

  done_at : (w : ℕ) (xs : List (Worker Loader)) (x : Worker Loader) → AllDone xs → get_elem? xs w ≡ some x → x.end ≡ Ok tt
  done_at w [] x done at = absurd (some-ne-none x (sym at))
  done_at zero (y ∷ xs) x done at = subst (λ (z : Worker Loader). z.end ≡ Ok tt) (some-injective y x at) done.0
  done_at (suc w) (y ∷ xs) x done at = done_at w xs x done.1 at

  took_well : (drawn : List ℕ) (p q : PassState) (end : Result Unit JobError) (c : Claimed ℕ) → LoadsClaims contents m tags drawn p q end c → end ≡ Ok tt → TookWhole contents m tags drawn p q c
  took_well drawn p q end c d ok = subst (λ (r : Result Unit JobError). OnOk r (TookWhole contents m tags drawn p q c)) ok d.done

  -- each drew a number past the last chunk
  all_past : (ps : List PassState) (xs : List (Worker Loader)) (cs : List (Claimed ℕ)) → Did ps xs cs → AllDone xs → AllDrewPast (length tags) (drawn_of xs)
  all_past [] [] [] d done = tt
  all_past (p ∷ ps) (x ∷ xs) (c ∷ cs) d done = ((took_well x.seat.me.0.drawn p x.pass x.end c d.0 done.0).3, all_past ps xs cs d.1 done.1)
  all_past ps xs cs d done = absurd d

  -- together they found as many as they took
  found_items : (ps : List PassState) (xs : List (Worker Loader)) (cs : List (Claimed ℕ)) → Did ps xs cs → AllDone xs → FoundMoreIn (total (λ (c : Claimed ℕ). length c.items) cs) ps (passes_of xs)
  unfolding total
  found_items [] [] [] d done = no_pass_found
  found_items (p ∷ ps) (x ∷ xs) (c ∷ cs) d done =
      one_more_found (length c.items) (total (λ (b : Claimed ℕ). length b.items) cs) p x.pass ps (passes_of xs) (took_well x.seat.me.0.drawn p x.pass x.end c d.0 done.0).2 (found_items ps xs cs d.1 done.1)
  found_items ps xs cs d done = absurd d

  -- which is one for each tag
  items_covered : (ps : List PassState) (xs : List (Worker Loader)) (cs : List (Claimed ℕ)) → Did ps xs cs → AllDone xs
      → total (λ (c : Claimed ℕ). length c.items) cs ≡ total (λ (c : Claimed ℕ). total (λ (b : ℕ). 1) (blocks_in_all (length tags) c.chunks)) cs
  unfolding total
  items_covered [] [] [] d done = refl
  items_covered (p ∷ ps) (x ∷ xs) (c ∷ cs) d done =
      let whole = ap length (took_well x.seat.me.0.drawn p x.pass x.end c d.0 done.0).0 in
      omega (arith, whole, total_ones (blocks_in_all (length tags) c.chunks), items_covered ps xs cs d.1 done.1)
  items_covered ps xs cs d done = absurd d

  -- why the first of the workers that ended early did
  any_meets : (ps : List PassState) (xs : List (Worker Loader)) (cs : List (Claimed ℕ)) (e : JobError) → Did ps xs cs → EndsFirst e xs → (e ≡ Memory) ⊎ AnyMeetsListed contents m tags ps (passes_of xs) e
  any_meets [] [] [] e d ends = absurd ends
  any_meets (p ∷ ps) (x ∷ xs) (c ∷ cs) e d (inl is) = one (subst (λ (r : Result Unit JobError). IfErr r (EndsLoadFor contents m tags p x.pass)) is d.0.cause)
    where
      one : EndsLoadFor contents m tags p x.pass e → (e ≡ Memory) ⊎ (MeetsListed contents m tags p x.pass e ⊎ AnyMeetsListed contents m tags ps (passes_of xs) e)
      one (inl memory) = inl memory.0
      one (inr meets) = inr (inl meets)
  any_meets (p ∷ ps) (x ∷ xs) (c ∷ cs) e d (inr later) = other (any_meets ps xs cs e d.1 later.1)
    where
      other : (e ≡ Memory) ⊎ AnyMeetsListed contents m tags ps (passes_of xs) e → (e ≡ Memory) ⊎ (MeetsListed contents m tags p x.pass e ⊎ AnyMeetsListed contents m tags ps (passes_of xs) e)
      other (inl memory) = inl memory
      other (inr meets) = inr (inr meets)
  any_meets ps xs cs e d ends = absurd d

  -- The numbers that the workers drew are those below one, each once
  module _ (ps : List PassState) (xs : List (Worker Loader)) (cs : List (Claimed ℕ)) (d : DoLoads contents m tags ps xs cs) (word : ℕ) (once : (g : ℕ → ℕ) → total_drawn g xs ≡ sum_below word g) where
    drawn_once : (g : ℕ → ℕ) → total (λ (l : List ℕ). total g l) (drawn_of xs) ≡ sum_below word g
    drawn_once g = drawn_total g xs ∙ once g

    pub load_parts : LoadsParts contents m tags ps (passes_of xs)
    load_parts = record {
      counted = passes_long ps xs cs d;
      claimed = cs;
      listed = claimed_long ps xs cs d;
      each = λ w p q c at there that. (did_at w ps xs cs p q c d at there that).did.part;
      ended = λ w p q at there. ended_at w ps xs cs p q d at there;
      once = claimed_once (length tags) word cs (drawn_of xs) (are_drawn ps xs cs d) drawn_once;
    }

    module _ (several : 0 < length ps) where
      all_claimed : AllDone xs → AreAllClaimed (length tags) cs
      all_claimed done = claimed_all (length tags) word cs (drawn_of xs) (are_drawn ps xs cs d) drawn_once (let l = drawn_long ps xs cs d in omega (arith, l, several)) (all_past ps xs cs d done)

      pub loads_all : AllDone xs → LoadsAll contents m tags ps (passes_of xs)
      loads_all done = record {
        claimed = cs;
        listed = claimed_long ps xs cs d;
        each = λ w p q c at there that.
            let h = did_at w ps xs cs p q c d at there that in
            let t = took_well h.worker.seat.me.0.drawn p q h.worker.end c h.did (done_at w xs h.worker done h.there) in
            record { part = h.did.part; whole = t.0; met = t.1; found = t.2 };
        all = all_claimed done;
      }

      pub found_all : AllDone xs → FoundMoreIn (length tags) ps (passes_of xs)
      found_all done =
          let n = length tags in
          so_many_found (total (λ (c : Claimed ℕ). length c.items) cs) n ps (passes_of xs)
          (items_covered ps xs cs d done ∙ blocks_all n cs (all_claimed done) (λ (b : ℕ). 1) ∙ sum_ones n)
          (found_items ps xs cs d done)

    module _ (p q : PassState) (end : Result Unit JobError) (beside : EndsBeside contents m p q end) where
      abbrev LoadEndsFor : JobError → Type 0
      LoadEndsFor e = (e ≡ Memory) ⊎ (AnyMeetsListed contents m tags ps (passes_of xs) e ⊎ WorkIsRefused contents m p q e)

      failed : (e : JobError) → (e ≡ Memory) ⊎ AnyMeetsListed contents m tags ps (passes_of xs) e → LoadEndsFor e
      failed e (inl memory) = inl memory
      failed e (inr meets) = inr (inl meets)

      cause_of : (e : JobError) → EndsFirst e xs ⊎ (AllDone xs × (end ≡ Err e)) → LoadEndsFor e
      cause_of e (inl ends) = failed e (any_meets ps xs cs e d ends)
      cause_of e (inr t) = inr (inr (subst (λ (r : Result Unit JobError). IfErr r (WorkIsRefused contents m p q)) t.1 beside.cause))

      pub load_cause : {A : Type 0} (r : Result A JobError) → IfErr r (λ e. EndsFirst e xs ⊎ (AllDone xs × (end ≡ Err e))) → IfErr r LoadEndsFor
      load_cause (Ok a) c = tt
      load_cause (Err e) c = cause_of e c
