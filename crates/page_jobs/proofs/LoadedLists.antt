-- What a load of listed blocks comes to, once its workers have ended.
use Rattle.std.proofs.Common.{◌≡◌, ℕ, ◌+◌, ◌<◌, ◌≤◌, ◌⊎◌, List, [], ◌∷◌, ◌++◌, length, map, Option, Result, Ok, Err, sym, ap, ◌∙◌, subst, inl, inr, ⊎_elim, arith}
use Rattle.std.specs.Prelude.{IfErr, OnOk}
use Rattle.std.proofs.lemmas.List.{length-append}
use mathlib.Core.Option.{some, some-injective}
use lib.ListN.{get_elem?}
use Rattle.block_tag.specs.declared.tag.Tag.{Tag}
use Rattle.segment_store.specs.Contents.{Pages}
use Rattle.chunk_claims.specs.Claims.{sum_below}
use Rattle.backend_pass.specs.declared.manager.Manager.{Manager}
use Rattle.backend_pass.specs.Passes.{KeepsMark, PassState}
use Rattle.page_jobs.specs.declared.ending.JobError.{JobError}
use Rattle.page_jobs.specs.declared.ending.JobError.TheVariants.{Memory}
use Rattle.page_jobs.specs.declared.ending.Totals.{Totals}
use Rattle.page_jobs.specs.declared.loading.Loader.{Loader}
use Rattle.page_jobs.specs.declared.running.Ran.{Ran}
use Rattle.page_jobs.specs.declared.working.Worker.{Worker}
use Rattle.page_jobs.specs.Beside.{LastDid, StaysBeside, WorkIsRefused, WorksBeside}
use Rattle.page_jobs.specs.Chunks.{Claimed}
use Rattle.page_jobs.specs.Completeness.{IsDoneOrMemory, IsDoneShortOrMemory, NoDeviceFailsIn, NothingFailsIn}
use Rattle.page_jobs.specs.Dealt.{AllDone, EndsFirst, HasRun, total_drawn}
use Rattle.page_jobs.specs.Jobs.{FoundMoreIn, HaveNoTokens, workers_in}
use Rattle.page_jobs.specs.Loads.{AnyMeetsListed, EndsLoad, LoadsAll, LoadsParts, MarksStay}
use Rattle.page_jobs.specs.Relations.{MeetNothing}
use Rattle.page_jobs.proofs.Backends.{came_back}
use Rattle.page_jobs.proofs.BesideWork.{done_met, job_met, last_did, last_refused, last_stays}
use Rattle.page_jobs.proofs.Completing.{load_complete, load_short}
use Rattle.page_jobs.proofs.Deals.{free_front, workers_before}
use Rattle.page_jobs.proofs.LoadedChunks.{DoLoads, do_loads, loader_begins, loader_closes, loads_place}
use Rattle.page_jobs.proofs.LoadWorkers.{found_all, load_cause, load_parts, loads_all, passes_of, workers_long}
use Rattle.table_rule.proofs.Opens.{length_low, there_at}

-- What a load comes to, with this end
pub record LoadComesTo {L G : Type 0} (contents : L → Option Pages) (m : Manager L G) (tags : List Tag) (did : PassState → PassState → Type 0) (ps qs : List PassState) (end : Result Totals JobError) : Type 0 where
  pub passes : LoadsParts contents m tags (workers_in ps) (workers_in qs)
  pub last : StaysBeside contents m ps qs
  pub marks : MarksStay ps qs
  pub met : OnOk end (MeetNothing ps qs)
  pub beside : OnOk end (LastDid did ps qs)
  pub done : OnOk end (LoadsAll contents m tags (workers_in ps) (workers_in qs))
  pub found : OnOk end (FoundMoreIn (length tags) (workers_in ps) (workers_in qs))
  pub cause : IfErr end (EndsLoad contents m tags ps qs)
  pub short : NoDeviceFailsIn ps qs → IsDoneShortOrMemory end
  pub complete : NothingFailsIn contents m ps qs → IsDoneOrMemory end

pub marks_none : (ps : List PassState) → MarksStay ps ps
marks_none ps w p q at after = ap (λ (x : PassState). x.view.dirtied_or_synced) (some-injective q p (sym after ∙ at))

module _ {L G : Type 0} (contents : L → Option Pages) (m : Manager L G) (tags : List Tag) where
  -- no pass's mark is set
  pub marks_stay : (ps qs : List PassState) → LoadsParts contents m tags (workers_in ps) (workers_in qs) → StaysBeside contents m ps qs → MarksStay ps qs
  marks_stay ps qs parts last w p q at after =
      let c = came_back contents m ps qs last w q after in
      subst (λ (x : PassState). KeepsMark x q) (some-injective c.before p (sym c.at ∙ at)) (⊎_elim
      (λ (b : WorksBeside contents m c.before q). b.mark)
      (λ (t : (get_elem? (workers_in ps) w ≡ some c.before) × (get_elem? (workers_in qs) w ≡ some q)).
      let long = parts.listed in
      let below = length_low (workers_in ps) w c.before t.0 in
      let claimed = there_at parts.claimed w (omega (arith, long, below)) in
      (parts.each w c.before q claimed.0 t.0 t.1 claimed.1).loads.stays.mark)
      c.either)

  loads_met : (ps qs : List PassState) → LoadsAll contents m tags ps qs → MeetNothing ps qs
  loads_met ps qs all w p q at after =
      let below = length_low ps w p at in
      let long = all.listed in
      let c = there_at all.claimed w (omega (arith, below, long)) in
      (all.each w p q c.0 at after c.1).met

  if_done : {A : Type 0} (r : Result A JobError) (xs : List (Worker Loader)) (F : Type 0) → OnOk r (AllDone xs) → (AllDone xs → F) → OnOk r F
  if_done (Ok a) xs F done f = f done
  if_done (Err e) xs F done f = tt

  module _ (did : PassState → PassState → Type 0) (all : List PassState) (ran : Ran Loader) (many : 2 ≤ length all) (free : HaveNoTokens contents m all)
      (h : HasRun contents m (length tags) (loads_place contents m tags) loader_closes loader_begins did all ran) where
    long : length all ≡ length h.before + 1
    long = ap length h.split ∙ length-append h.before (h.last ∷ [])

    several : 0 < length h.before
    several = let l = long in omega (arith, l, many)

    before : workers_in all ≡ h.before
    before = workers_before all h.before h.last h.split

    did_claim : (cs : List (Claimed ℕ)) × DoLoads contents m tags h.before ran.workers.items cs
    did_claim = do_loads contents m tags h.before ran.workers.items (free_front contents m h.before (h.last ∷ []) (subst (HaveNoTokens contents m) h.split free)) h.done

    pub some_work : 0 < length ran.workers.items
    some_work = let d = did_claim in let l = workers_long contents m tags h.before ran.workers.items d.0 d.1 in let more = several in omega (arith, l, more)

    -- The passes are given back, with seats that drew the numbers below one, each once
    module _ (qs : List PassState) (back : qs ≡ map (λ (x : Worker Loader). x.pass) ran.workers.items ++ ran.last ∷ []) (once : (word : ℕ) × ((g : ℕ → ℕ) → total_drawn g ran.workers.items ≡ sum_below word g)) where
      abbrev ended : List PassState
      ended = passes_of ran.workers.items

      after : workers_in qs ≡ ended
      after = workers_before qs ended ran.last back

      parts_in : LoadsParts contents m tags h.before ended
      parts_in = let d = did_claim in load_parts contents m tags h.before ran.workers.items d.0 d.1 once.0 once.1

      of_workers : (F : List PassState → List PassState → Type 0) → F h.before ended → F (workers_in all) (workers_in qs)
      of_workers F f = subst (λ (l : List PassState). F l (workers_in qs)) (sym before) (subst (F h.before) (sym after) f)

      loaded : LoadsParts contents m tags (workers_in all) (workers_in qs)
      loaded = of_workers (LoadsParts contents m tags) parts_in

      stays : StaysBeside contents m all qs
      stays = last_stays contents m all qs h.before ended h.last ran.last h.split back parts_in.counted h.beside.works

      ends_for : (e : JobError) → (e ≡ Memory) ⊎ (AnyMeetsListed contents m tags h.before ended e ⊎ WorkIsRefused contents m h.last ran.last e) → EndsLoad contents m tags all qs e
      ends_for e (inl memory) = inl memory
      ends_for e (inr (inl meets)) = inr (inl (of_workers (λ ps us. AnyMeetsListed contents m tags ps us e) meets))
      ends_for e (inr (inr refused)) = inr (inr (last_refused contents m all qs h.before ended h.last ran.last h.split back parts_in.counted e refused))

      ends_load : {A : Type 0} (r : Result A JobError) → IfErr r (λ e. (e ≡ Memory) ⊎ (AnyMeetsListed contents m tags h.before ended e ⊎ WorkIsRefused contents m h.last ran.last e)) → IfErr r (EndsLoad contents m tags all qs)
      ends_load (Ok a) c = tt
      ends_load (Err e) c = ends_for e c

      module _ (r : Result Totals JobError) (xs : List (Worker Loader)) (same : xs ≡ ran.workers.items) (ok : OnOk r (AllDone xs)) (beside : OnOk r (ran.beside_end ≡ Ok tt))
          (cause : IfErr r (λ e. EndsFirst e xs ⊎ (AllDone xs × (ran.beside_end ≡ Err e)))) where
        well : OnOk r (AllDone ran.workers.items)
        well = subst (λ (l : List (Worker Loader)). OnOk r (AllDone l)) same ok

        why : IfErr r (λ e. EndsFirst e ran.workers.items ⊎ (AllDone ran.workers.items × (ran.beside_end ≡ Err e)))
        why = subst (λ (l : List (Worker Loader)). IfErr r (λ e. EndsFirst e l ⊎ (AllDone l × (ran.beside_end ≡ Err e)))) same cause

        whole : OnOk r (LoadsAll contents m tags h.before ended)
        whole = let d = did_claim in if_done r ran.workers.items _ well (loads_all contents m tags h.before ran.workers.items d.0 d.1 once.0 once.1 several)

        found : OnOk r (FoundMoreIn (length tags) h.before ended)
        found = let d = did_claim in if_done r ran.workers.items _ well (found_all contents m tags h.before ran.workers.items d.0 d.1 once.0 once.1 several)

        met : OnOk r (MeetNothing h.before ended)
        met = let d = did_claim in if_done r ran.workers.items _ well (λ done. loads_met h.before ended (loads_all contents m tags h.before ran.workers.items d.0 d.1 once.0 once.1 several done))

        ends : IfErr r (EndsLoad contents m tags all qs)
        ends = let d = did_claim in ends_load r (load_cause contents m tags h.before ran.workers.items d.0 d.1 once.0 once.1 h.last ran.last ran.beside_end h.beside r why)

        pub load_comes_to : LoadComesTo contents m tags did all qs r
        load_comes_to = record {
          passes = loaded;
          last = stays;
          marks = marks_stay all qs loaded stays;
          met = job_met contents m all qs h.before ended h.last ran.last h.split back parts_in.counted r met (done_met r ran.beside_end (ran.last.view.met ≡ h.last.view.met) beside h.beside.met);
          beside = last_did contents m all qs h.before ended h.last ran.last h.split back parts_in.counted did r (done_met r ran.beside_end (did h.last ran.last) beside h.did_beside);
          done = of_workers (λ ps us. OnOk r (LoadsAll contents m tags ps us)) whole;
          found = of_workers (λ ps us. OnOk r (FoundMoreIn (length tags) ps us)) found;
          cause = ends;
          short = load_short contents m tags all qs r ends;
          complete = load_complete contents m tags all qs r ends;
        }
