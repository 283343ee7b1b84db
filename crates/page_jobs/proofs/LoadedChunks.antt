-- What the workers of a load did with the chunks that they claimed.
use Rattle.std.proofs.Common.{◌≡◌, ℕ, ◌+◌, ◌-◌, ◌<◌, ◌≤◌, ◌⊎◌, List, [], ◌∷◌, ◌++◌, length, Option, Result, Ok, Err, refl, sym, ap, ◌∙◌, subst, inl, inr, arith, append_assoc}
use Rattle.std.specs.Prelude.{All, IfErr, OnOk}
use Rattle.std.proofs.lemmas.List.{append-nil, length-append}
use Rattle.block_tag.specs.declared.tag.Tag.{Tag}
use Rattle.segment_store.specs.Contents.{Pages}
use Rattle.grid.specs.Shape.{total}
use Rattle.chunk_claims.specs.Claims.{past_weight}
use Rattle.io_counts.specs.Found.{FoundMore}
use Rattle.backend_pass.specs.declared.manager.Manager.{Manager}
use Rattle.backend_pass.specs.Between.{HasNoTokens}
use Rattle.backend_pass.specs.Passes.{PassState}
use Rattle.page_jobs.specs.declared.ending.JobError.{JobError}
use Rattle.page_jobs.specs.declared.ending.JobError.TheVariants.{Memory}
use Rattle.page_jobs.specs.declared.loading.Loader.{Loader}
use Rattle.page_jobs.specs.declared.working.Worker.{Worker}
use Rattle.page_jobs.specs.Blocks.{blocks_from}
use Rattle.page_jobs.specs.Chunks.{Ascend, Claimed, CoversChunks, blocks_in_all, blocks_of, chunk_count, chunk_size, chunk_start}
use Rattle.page_jobs.specs.Dealt.{HaveDone}
use Rattle.page_jobs.specs.JobBlocks.{listed_tag}
use Rattle.page_jobs.specs.Jobs.{HaveNoTokens}
use Rattle.page_jobs.specs.Loads.{LoadsBlock, LoadsPart, MeetsListed}
use Rattle.page_jobs.specs.Working.{DoesBlocks, DoesChunks, EndsAfter, FailsAtBlock, WorksChunk, WorksChunks}
use Rattle.page_jobs.proofs.Ascending.{ascend_front}
use Rattle.page_jobs.proofs.ClaimedChunks.{IsOfDrawn, blocks_apart, blocks_more, chunks_below, drawn_none, drawn_to_end, drawn_to_fault, drew_past}
use Rattle.page_jobs.proofs.LoadedBlocks.{StopsAfter, TakesAll, free_then, stops_after, stops_later, takes_none, takes_on, takes_one}

-- what a loader does at the end of a chunk, and how it begins
abbrev pub loader_closes : ℕ → PassState → Loader → Loader → Result Unit JobError → Type 0
loader_closes chunk q k l end = end ≡ Ok tt

abbrev pub loader_begins : Loader → Type 0
loader_begins k = Unit {0}

module _ {L G : Type 0} (contents : L → Option Pages) (m : Manager L G) (tags : List Tag) where
  -- what it does with the block at a place
  abbrev pub loads_place : ℕ → PassState → PassState → Loader → Loader → Result Unit JobError → Type 0
  loads_place place p q k l end = LoadsBlock contents m (listed_tag tags place) p q end

  abbrev Takes : List ℕ → PassState → PassState → Type 0
  Takes places p q = TakesAll contents m tags places p q

  takes_blocks : (bs : List ℕ) (p q : PassState) (k l : Loader) → DoesBlocks loads_place bs p q k l → HasNoTokens contents m p → Takes bs p q
  takes_blocks [] p q k l did free = subst (λ (x : PassState). Takes [] p x) (sym did.0) (takes_none contents m tags p free)
  takes_blocks (b ∷ bs) p q k l did free =
      let r = did.0 in
      let one = takes_one contents m tags b p r did.2 in
      takes_on contents m tags (b ∷ []) bs p r q one (takes_blocks bs r q did.1 l did.3 (free_then contents m p r one.loads))

  -- chunks, each to its end
  takes_chunks : (n : ℕ) (cs : List ℕ) (p q : PassState) (k l : Loader) → DoesChunks loads_place loader_closes n cs p q k l → HasNoTokens contents m p → Takes (blocks_in_all n cs) p q
  takes_chunks n [] p q k l did free = subst (λ (x : PassState). Takes [] p x) (sym did.0) (takes_none contents m tags p free)
  takes_chunks n (c ∷ cs) p q k l did free =
      let r = did.0 in
      let one = takes_blocks (blocks_of n c) p r k did.3.task did.3.blocks free in
      takes_on contents m tags (blocks_of n c) (blocks_in_all n cs) p r q one (takes_chunks n cs r q did.1 l did.4 (free_then contents m p r one.loads))

  -- A chunk, up to a block whose read was refused
  record StopsIn (n chunk : ℕ) (p q : PassState) (e : JobError) : Type 0 where
    pub taken : List ℕ
    pub rest : List ℕ
    pub order : blocks_of n chunk ≡ taken ++ rest
    pub stops : StopsAfter contents m tags taken p q e

  stops_in : (chunk : ℕ) (p q : PassState) (k l : Loader) (e : JobError) → FailsAtBlock loads_place (length tags) chunk p q k l e → HasNoTokens contents m p → StopsIn (length tags) chunk p q e
  stops_in chunk p q k l e f free =
      let n = length tags in
      let from = chunk_start chunk in
      let below = f.within in
      let left = chunk_size n chunk - f.many in
      let size : chunk_size n chunk ≡ f.many + left = omega (arith, below) in
      record {
        taken = blocks_from from f.many;
        rest = blocks_from (from + f.many) left;
        order = ap (blocks_from from) size ∙ blocks_apart from f.many left;
        stops = stops_after contents m tags (blocks_from from f.many) (from + f.many) p f.pass q e (omega (arith, below)) (takes_blocks (blocks_from from f.many) p f.pass k f.task f.before free) f.fails;
      }

  stops_chunk : (chunk : ℕ) (p q : PassState) (k l : Loader) (e : JobError) → WorksChunk loads_place loader_closes (length tags) chunk p q k l (Err e) → HasNoTokens contents m p → StopsIn (length tags) chunk p q e
  stops_chunk chunk p q k l e (inl failed) free = stops_in chunk p q k l e failed free
  stops_chunk chunk p q k l e (inr closed) free = absurd (cc closed.ends)

  -- why a worker ends before its end
  abbrev pub EndsLoadFor : PassState → PassState → JobError → Type 0
  EndsLoadFor p q e = ((e ≡ Memory) × (q.view.met ≡ p.view.met)) ⊎ MeetsListed contents m tags p q e

  abbrev pub TookWhole : List ℕ → PassState → PassState → Claimed ℕ → Type 0
  TookWhole drawn p q c = (c.items ≡ blocks_in_all (length tags) c.chunks) × (q.view.met ≡ p.view.met) × (FoundMore (length c.items) p.io q.io) × (1 ≤ total (past_weight (chunk_count (length tags))) drawn)

  -- What a worker that drew these numbers did with the chunks that it claimed
  pub record LoadsClaims (drawn : List ℕ) (p q : PassState) (end : Result Unit JobError) (c : Claimed ℕ) : Type 0 where
    pub part : LoadsPart contents m tags c p q
    pub drew : IsOfDrawn (length tags) c.chunks drawn
    pub done : OnOk end (TookWhole drawn p q c)
    pub cause : IfErr end (EndsLoadFor p q)

  abbrev Claims : List ℕ → PassState → PassState → Result Unit JobError → Type 0
  Claims drawn p q end = (c : Claimed ℕ) × LoadsClaims drawn p q end c

  covers_whole : (n : ℕ) (whole : List ℕ) → Ascend whole → CoversChunks n record { chunks = whole; items = blocks_in_all n whole }
  covers_whole n whole up = record { whole = whole; last = []; ascend = up; split = sym (append-nil whole); at_most_one = omega arith; covered = omega arith; within = omega arith }

  part_whole : (whole : List ℕ) (p q : PassState) → Takes (blocks_in_all (length tags) whole) p q → Ascend whole → LoadsPart contents m tags record { chunks = whole; items = blocks_in_all (length tags) whole } p q
  part_whole whole p q t up = record { loads = t.loads; rest = []; order = sym (append-nil (blocks_in_all (length tags) whole)); took = t.took; covers = covers_whole (length tags) whole up }

  claims_whole : (past : ℕ) (whole drawn : List ℕ) (p q : PassState) → Takes (blocks_in_all (length tags) whole) p q → All (λ c. c < chunk_count (length tags)) whole → Ascend drawn → chunk_count (length tags) ≤ past → drawn ≡ whole ++ past ∷ [] → Claims drawn p q (Ok tt)
  claims_whole past whole drawn p q t below up high is =
      let n = length tags in (
        record { chunks = whole; items = blocks_in_all n whole },
        record {
          part = part_whole whole p q t (ascend_front whole (past ∷ []) (subst Ascend is up));
          drew = subst (IsOfDrawn n whole) (sym is) (drawn_to_end n past whole below high);
          done = (refl, t.met, t.found, subst (λ (l : List ℕ). 1 ≤ total (past_weight (chunk_count n)) l) (sym is) (drew_past n past whole high));
          cause = tt;
        },
      )

  claims_none : (drawn : List ℕ) (p q : PassState) (e : JobError) → Takes [] p q → e ≡ Memory → drawn ≡ [] → Claims drawn p q (Err e)
  claims_none drawn p q e t memory is =
      let n = length tags in (
        record { chunks = []; items = [] },
        record {
          part = part_whole [] p q t tt;
          drew = subst (IsOfDrawn n []) (sym is) (drawn_none n);
          done = tt;
          cause = inl (memory, t.met);
        },
      )

  claims_fault : (chunk : ℕ) (whole drawn : List ℕ) (p r q : PassState) (e : JobError) → Takes (blocks_in_all (length tags) whole) p r → StopsIn (length tags) chunk r q e
      → All (λ c. c < chunk_count (length tags)) whole → Ascend drawn → chunk < chunk_count (length tags) → drawn ≡ whole ++ chunk ∷ [] → Claims drawn p q (Err e)
  claims_fault chunk whole drawn p r q e t s below up low is =
      let n = length tags in
      let first = blocks_in_all n whole in
      let all = stops_later contents m tags first s.taken p r q e t s.stops in
      let order : blocks_in_all n (whole ++ chunk ∷ []) ≡ (first ++ s.taken) ++ s.rest = blocks_more n whole chunk ∙ ap (λ (l : List ℕ). first ++ l) s.order ∙ sym (append_assoc first s.taken s.rest) in
      let short = length-append first s.taken in
      let long = length-append (first ++ s.taken) s.rest in
      let same = ap length order in (
        record { chunks = whole ++ chunk ∷ []; items = first ++ s.taken },
        record {
          part = record {
            loads = all.loads;
            rest = s.rest;
            order = order;
            took = all.took;
            covers = record { whole = whole; last = chunk ∷ []; ascend = subst Ascend is up; split = refl; at_most_one = omega arith; covered = omega (arith, short); within = omega (arith, long, same) };
          };
          drew = subst (IsOfDrawn n (whole ++ chunk ∷ [])) (sym is) (drawn_to_fault n chunk whole below low);
          done = tt;
          cause = inr all.meets;
        },
      )

  -- what was claimed where a worker ended so, after the chunks that it dealt with to their end
  claims_ended : (whole drawn : List ℕ) (p r q : PassState) (i l : Loader) (end : Result Unit JobError) → Takes (blocks_in_all (length tags) whole) p r → All (λ c. c < chunk_count (length tags)) whole → Ascend drawn
      → EndsAfter loads_place loader_closes (length tags) whole drawn r q i l end → Claims drawn p q end
  claims_ended whole drawn p r q i l (Ok done) t below up ends =
      claims_whole ends.0.0 whole drawn p q (subst (λ (x : PassState). Takes (blocks_in_all (length tags) whole) p x) (sym ends.1) t) below up ends.0.1 ends.0.2
  claims_ended whole drawn p r q i l (Err e) t below up (inl short) =
      claims_none drawn p q e (subst (λ (x : PassState). Takes [] p x) (sym short.3) (subst (λ (cs : List ℕ). Takes (blocks_in_all (length tags) cs) p r) short.2 t)) short.0 short.1
  claims_ended whole drawn p r q i l (Err e) t below up (inr failed) =
      claims_fault failed.0 whole drawn p r q e t (stops_chunk failed.0 r q i l e failed.3 (free_then contents m p r t.loads)) below up failed.1 failed.2

  worker_claims : (drawn : List ℕ) (p q : PassState) (k l : Loader) (end : Result Unit JobError) → HasNoTokens contents m p → WorksChunks loads_place loader_closes (length tags) drawn p q k l end → Claims drawn p q end
  worker_claims drawn p q k l end free w =
      claims_ended w.whole drawn p w.pass q w.task l end (takes_chunks (length tags) w.whole p w.pass k w.task w.does_them free)
      (chunks_below loads_place loader_closes (length tags) w.whole p w.pass k w.task w.does_them) w.ascend w.ends

  -- what the workers that the passes became did, each with its claims
  abbrev pub DoLoads : List PassState → List (Worker Loader) → List (Claimed ℕ) → Type 0
  DoLoads [] [] [] = Unit {0}
  DoLoads (p ∷ ps) (x ∷ xs) (c ∷ cs) = LoadsClaims x.seat.me.0.drawn p x.pass x.end c × DoLoads ps xs cs
  DoLoads ps xs cs = ⊥

  pub do_loads : (ps : List PassState) (xs : List (Worker Loader)) → HaveNoTokens contents m ps → HaveDone loader_begins loads_place loader_closes (length tags) ps xs → (cs : List (Claimed ℕ)) × DoLoads ps xs cs
  do_loads [] [] free d = ([], tt)
  do_loads [] (x ∷ xs) free d = absurd d
  do_loads (p ∷ ps) [] free d = absurd d
  do_loads (p ∷ ps) (x ∷ xs) free d =
      let one = worker_claims x.seat.me.0.drawn p x.pass d.0.0 x.task x.end free.0 d.0.2 in
      let rest = do_loads ps xs free.1 d.1 in
      (one.0 ∷ rest.0, (one.1, rest.1))
