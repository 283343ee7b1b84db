-- What all workers of a job did, together.
use Rattle.std.proofs.Common.{◌≡◌, ℕ, zero, suc, ◌+◌, ◌*◌, ◌<◌, ◌≤◌, ◌⊎◌, List, [], ◌∷◌, ◌++◌, length, map, Option, Result, Ok, Err, refl, sym, ap, ap₂, ◌∙◌, subst, arith, inl, inr}
use Rattle.std.specs.Prelude.{OnOk, IfErr, IfOk}
use Rattle.std.proofs.lemmas.List.{append-nil}
use mathlib.Core.Option.{some, some-injective, some-ne-none}
use lib.ListN.{get_elem?}
use Rattle.grid.specs.Shape.{total}
use Rattle.chunk_claims.specs.Claims.{past_weight, sum_below}
use Rattle.chunk_claims.proofs.Weights.{sum_ones}
use Rattle.block_tag.specs.declared.tag.Fork.{Fork}
use Rattle.byte_devices.specs.Faults.{Rose}
use Rattle.page_layout.specs.declared.scan.ScanTotals.{ScanTotals}
use Rattle.page_layout.specs.Scan.{sum_of_totals}
use Rattle.segment_store.specs.Contents.{Pages}
use Rattle.text_window.specs.Texts.{IsTextBy}
use Rattle.frame_table.specs.Seats.{base_of}
use Rattle.io_counts.specs.Found.{FoundMore}
use Rattle.backend_pass.specs.declared.manager.Manager.{Manager}
use Rattle.backend_pass.specs.Passes.{PassState}
use Rattle.page_jobs.specs.declared.ending.JobError.{JobError}
use Rattle.page_jobs.specs.declared.ending.JobError.TheVariants.{Memory, OutFault}
use Rattle.page_jobs.specs.declared.ending.Totals.{Totals}
use Rattle.page_jobs.specs.declared.printing.Lines.{Lines}
use Rattle.page_jobs.specs.declared.listing.Lister.{Lister}
use Rattle.page_jobs.specs.declared.working.Worker.{Worker}
use Rattle.page_jobs.specs.Chunks.{AreAllClaimed, Claimed, CoversAll, blocks_in_all, chunk_count, items_in_all}
use Rattle.page_jobs.specs.ChunkTexts.{IsChunkText}
use Rattle.page_jobs.specs.Ending.{as_done, totals_of_scan}
use Rattle.page_jobs.specs.Printed.{BlockRead, reads_totals, totals_line}
use Rattle.backend_pass.specs.Between.{HasNoTokens}
use Rattle.page_jobs.specs.Relations.{MeetNothing}
use Rattle.page_jobs.specs.Parts.{EndsFor, MeetsFault, blocks_in}
use Rattle.page_jobs.specs.Dealt.{AllDone, AnyEnds, PutsAll, TotalsAreInRange, job_totals, total_drawn}
use Rattle.page_jobs.specs.Beside.{EndsBeside, WorkIsRefused}
use Rattle.page_jobs.specs.Jobs.{AllAtBase, AnyMeets, FoundMoreIn, HaveNoTokens, PutsTexts, ReadParts, ReadsAll, ReadsChunks}
use Rattle.page_jobs.proofs.BesideWork.{free_at}
use Rattle.page_jobs.proofs.ClaimedChunks.{AllDrewPast, AreOfDrawn, blocks_all, claimed_all, claimed_once, none_at, none_long, none_of_each, none_once, total_ones}
use Rattle.page_jobs.proofs.FoundPasses.{no_pass_found, one_more_found, so_many_found}
use Rattle.page_jobs.proofs.ListedChunks.{DoLists, ListsClaims}
use Rattle.page_jobs.proofs.Staying.{stays_none}
use Rattle.page_jobs.proofs.Texts.{PutsSome, stopped_in}
use Rattle.page_jobs.proofs.Sums.{reads_totals-append}

total_mapped : {A B : Type 0} (f : A → B) (g : B → ℕ) (l : List A) → total g (map f l) ≡ total (λ (a : A). g (f a)) l
unfolding total
total_mapped f g [] = refl
total_mapped f g (x ∷ l) = ap (λ (n : ℕ). g (f x) + n) (total_mapped f g l)

module _ {N A : Type 0} where
  -- the passes of workers, and what their seats drew
  abbrev pub passes_of : List (Worker (Lister N A)) → List PassState
  passes_of xs = map (λ (x : Worker (Lister N A)). x.pass) xs

  abbrev pub drawn_of : List (Worker (Lister N A)) → List (List ℕ)
  drawn_of xs = map (λ (x : Worker (Lister N A)). x.seat.me.0.drawn) xs

  -- the numbers that were drawn are those below one, each once
  abbrev pub DrewOnce : List (Worker (Lister N A)) → Type 0
  DrewOnce xs = (word : ℕ) × ((g : ℕ → ℕ) → total_drawn g xs ≡ sum_below word g)

  drew_once : (xs : List (Worker (Lister N A))) (once : DrewOnce xs) (g : ℕ → ℕ) → total (λ d. total g d) (drawn_of xs) ≡ sum_below once.0 g
  drew_once xs once g = total_mapped (λ (x : Worker (Lister N A)). x.seat.me.0.drawn) (λ d. total g d) xs ∙ once.1 g

  pub all_done : {B : Type 0} (xs : List (Worker (Lister N A))) (r : Result B JobError) (F : Type 0) → OnOk r (F × AllDone xs) → OnOk r (AllDone xs)
  all_done xs (Ok a) F ok = ok.1
  all_done xs (Err e) F ok = tt

module _ {L G : Type 0} (contents : L → Option Pages) (m : Manager L G) (rel : ℕ) (fork : Fork) where
  -- how a worker ended
  abbrev HowEnded : PassState → PassState → Type 0
  HowEnded p q = (q.view.met ≡ p.view.met) ⊎ ((e : JobError) × MeetsFault contents m rel fork p q e)

  why_ended : (p q : PassState) (e : JobError) → EndsFor contents m rel fork p q e → HowEnded p q
  why_ended p q e (inl short) = inl short.1
  why_ended p q e (inr meets) = inr (e, meets)

  -- where no worker began
  unread : (p : PassState) → HasNoTokens contents m p → ReadsChunks contents m rel fork record { chunks = []; items = [] } p p
  unread p free = record {
    stays = stays_none contents m p free.belongs;
    spent = free.spent;
    calls = sym (append-nil p.view.calls);
    known = tt;
    places = tt;
    covers = record { whole = []; last = []; ascend = tt; split = refl; at_most_one = omega arith; covered = omega arith; within = omega arith };
  }

  pub unread_parts : (ps : List PassState) → HaveNoTokens contents m ps → ReadParts contents m rel fork ps ps
  unread_parts ps free = record {
    counted = refl;
    claimed = none_of_each {A = BlockRead} ps;
    listed = none_long BlockRead ps;
    each = λ w p q c at there that.
        subst (λ (y : PassState). ReadsChunks contents m rel fork c p y) (some-injective p q (sym at ∙ there))
        (subst (λ (d : Claimed BlockRead). ReadsChunks contents m rel fork d p p) (sym (none_at ps w c that)) (unread p (free_at contents m ps w p free at)));
    ended = λ w p q at there. subst (λ (y : PassState). HowEnded p y) (some-injective p q (sym at ∙ there)) (inl refl);
    once = none_once BlockRead (blocks_in m rel fork) ps;
  }

  pub unread_puts : (lines : Lines) (ps : List PassState) (place : ℕ) (old new : Option (List ℕ)) (e : JobError) → HaveNoTokens contents m ps → (AllAtBase (base_of m.table) ps → place ≡ base_of m.table)
      → PutsSome (IsTextBy (IsChunkText contents m rel fork lines) place) (chunk_count (blocks_in m rel fork)) old new e → PutsTexts contents m rel fork lines ps ps old new (Err e)
  unread_puts lines ps place old new e free at h = record {
    parts = unread_parts ps free;
    place = place;
    at_base = at;
    many = h.many;
    within = h.within;
    text = h.text;
    texts = h.texts_are;
    last = [];
    ending = inl refl;
    puts = stopped_in (h.text ++ []) h.text [] old new e e refl h.puts;
    whole = tt;
  }

module _ {L G N A : Type 0} (contents : L → Option Pages) (m : Manager L G) (rel : ℕ) (fork : Fork) (base : ℕ) (lines : Lines) where
  abbrev Does : List PassState → List (Worker (Lister N A)) → List (Claimed BlockRead) → Type 0
  Does ps xs cs = DoLists contents m rel fork base lines ps xs cs

  pub passes_long : (ps : List PassState) (xs : List (Worker (Lister N A))) (cs : List (Claimed BlockRead)) → Does ps xs cs → length (passes_of xs) ≡ length ps
  passes_long [] [] [] d = refl
  passes_long (p ∷ ps) (x ∷ xs) (c ∷ cs) d = ap suc (passes_long ps xs cs d.1)
  passes_long ps xs cs d = absurd d

  pub workers_long : (ps : List PassState) (xs : List (Worker (Lister N A))) (cs : List (Claimed BlockRead)) → Does ps xs cs → length xs ≡ length ps
  workers_long [] [] [] d = refl
  workers_long (p ∷ ps) (x ∷ xs) (c ∷ cs) d = ap suc (workers_long ps xs cs d.1)
  workers_long ps xs cs d = absurd d

  claimed_long : (ps : List PassState) (xs : List (Worker (Lister N A))) (cs : List (Claimed BlockRead)) → Does ps xs cs → length cs ≡ length ps
  claimed_long [] [] [] d = refl
  claimed_long (p ∷ ps) (x ∷ xs) (c ∷ cs) d = ap suc (claimed_long ps xs cs d.1)
  claimed_long ps xs cs d = absurd d

  are_drawn : (ps : List PassState) (xs : List (Worker (Lister N A))) (cs : List (Claimed BlockRead)) → Does ps xs cs → AreOfDrawn (blocks_in m rel fork) cs (drawn_of xs)
  are_drawn [] [] [] d = tt
  are_drawn (p ∷ ps) (x ∷ xs) (c ∷ cs) d = (d.0.drew, are_drawn ps xs cs d.1)
  are_drawn ps xs cs d = absurd d

  -- What one of the workers did
  pub record DidAt (w : ℕ) (p q : PassState) (xs : List (Worker (Lister N A))) (c : Claimed BlockRead) : Type 0 where
    pub worker : Worker (Lister N A)
    pub there : get_elem? xs w ≡ some worker
    pub did : ListsClaims contents m rel fork base lines worker.seat.me.0.drawn p q worker.task worker.end c

  pub did_at : (w : ℕ) (ps : List PassState) (xs : List (Worker (Lister N A))) (cs : List (Claimed BlockRead)) (p q : PassState) (c : Claimed BlockRead) → Does ps xs cs → get_elem? ps w ≡ some p → get_elem? (passes_of xs) w ≡ some q → get_elem? cs w ≡ some c → DidAt w p q xs c
  did_at w [] [] [] p q c d at there that = absurd (some-ne-none p (sym at))
  did_at zero (a ∷ ps) (x ∷ xs) (b ∷ cs) p q c d at there that =
      subst (λ (y : PassState). DidAt zero y q (x ∷ xs) c) (some-injective a p at)
      (subst (λ (y : PassState). DidAt zero a y (x ∷ xs) c) (some-injective x.pass q there)
      (subst (λ (y : Claimed BlockRead). DidAt zero a x.pass (x ∷ xs) y) (some-injective b c that) record { worker = x; there = refl; did = d.0 }))
  did_at (suc w) (a ∷ ps) (x ∷ xs) (b ∷ cs) p q c d at there that =
      let h = did_at w ps xs cs p q c d.1 at there that in record { worker = h.worker; there = h.there; did = h.did }
  did_at w ps xs cs p q c d at there that = absurd d

  -- What one of them did that claimed these chunks
  pub record ClaimedAt (w : ℕ) (xs : List (Worker (Lister N A))) (c : Claimed BlockRead) : Type 0 where
    pub before : PassState
    pub worker : Worker (Lister N A)
    pub there : get_elem? xs w ≡ some worker
    pub did : ListsClaims contents m rel fork base lines worker.seat.me.0.drawn before worker.pass worker.task worker.end c

  pub claimed_at : (w : ℕ) (ps : List PassState) (xs : List (Worker (Lister N A))) (cs : List (Claimed BlockRead)) (c : Claimed BlockRead) → Does ps xs cs → get_elem? cs w ≡ some c → ClaimedAt w xs c
  claimed_at w [] [] [] c d at = absurd (some-ne-none c (sym at))
  claimed_at zero (p ∷ ps) (x ∷ xs) (b ∷ cs) c d at =
      subst (λ (y : Claimed BlockRead). ClaimedAt zero (x ∷ xs) y) (some-injective b c at) record { before = p; worker = x; there = refl; did = d.0 }
  claimed_at (suc w) (p ∷ ps) (x ∷ xs) (b ∷ cs) c d at =
      let h = claimed_at w ps xs cs c d.1 at in record { before = h.before; worker = h.worker; there = h.there; did = h.did }
  claimed_at w ps xs cs c d at = absurd d

  -- how each worker ended
  how_ended : (drawn : List ℕ) (p q : PassState) (l : Lister N A) (end : Result Unit JobError) (c : Claimed BlockRead) → ListsClaims contents m rel fork base lines drawn p q l end c → HowEnded contents m rel fork p q
  how_ended drawn p q l (Ok done) c h = inl h.done.0.2
  how_ended drawn p q l (Err e) c h = why_ended contents m rel fork p q e h.cause

  ended_at : (w : ℕ) (ps : List PassState) (xs : List (Worker (Lister N A))) (cs : List (Claimed BlockRead)) (p q : PassState) → Does ps xs cs → get_elem? ps w ≡ some p → get_elem? (passes_of xs) w ≡ some q → HowEnded contents m rel fork p q
  ended_at w [] [] [] p q d at there = absurd (some-ne-none p (sym at))
  ended_at zero (a ∷ ps) (x ∷ xs) (c ∷ cs) p q d at there =
      subst (λ (y : PassState). HowEnded contents m rel fork y q) (some-injective a p at)
      (subst (λ (y : PassState). HowEnded contents m rel fork a y) (some-injective x.pass q there) (how_ended x.seat.me.0.drawn a x.pass x.task x.end c d.0))
  ended_at (suc w) (a ∷ ps) (x ∷ xs) (c ∷ cs) p q d at there = ended_at w ps xs cs p q d.1 at there
  ended_at w ps xs cs p q d at there = absurd d

  pub read_parts : (ps : List PassState) (xs : List (Worker (Lister N A))) (cs : List (Claimed BlockRead)) → Does ps xs cs → DrewOnce xs → ReadParts contents m rel fork ps (passes_of xs)
  read_parts ps xs cs d once = record {
    counted = passes_long ps xs cs d;
    claimed = cs;
    listed = claimed_long ps xs cs d;
    each = λ w p q c at there that. (did_at w ps xs cs p q c d at there that).did.reads;
    ended = λ w p q at there. ended_at w ps xs cs p q d at there;
    once = claimed_once (blocks_in m rel fork) once.0 cs (drawn_of xs) (are_drawn ps xs cs d) (drew_once xs once);
  }

  done_at : (w : ℕ) (xs : List (Worker (Lister N A))) (x : Worker (Lister N A)) → AllDone xs → get_elem? xs w ≡ some x → x.end ≡ Ok tt
  done_at w [] x done at = absurd (some-ne-none x (sym at))
  done_at zero (y ∷ xs) x done at = subst (λ (z : Worker (Lister N A)). z.end ≡ Ok tt) (some-injective y x at) done.0
  done_at (suc w) (y ∷ xs) x done at = done_at w xs x done.1 at

  abbrev IsWhole : List ℕ → PassState → PassState → Lister N A → Claimed BlockRead → Type 0
  IsWhole drawn p q l c = (CoversAll (blocks_in m rel fork) c × (l.printed.totals ≡ reads_totals c.items) × (q.view.met ≡ p.view.met)) × (1 ≤ total (past_weight (chunk_count (blocks_in m rel fork))) drawn)

  done_well : (drawn : List ℕ) (p q : PassState) (l : Lister N A) (end : Result Unit JobError) (c : Claimed BlockRead) → ListsClaims contents m rel fork base lines drawn p q l end c → end ≡ Ok tt → IsWhole drawn p q l c
  done_well drawn p q l end c d ok = subst (λ (r : Result Unit JobError). OnOk r (IsWhole drawn p q l c)) ok d.done

  -- and each of its blocks was found
  found_well : (drawn : List ℕ) (p q : PassState) (l : Lister N A) (end : Result Unit JobError) (c : Claimed BlockRead) → ListsClaims contents m rel fork base lines drawn p q l end c → end ≡ Ok tt → FoundMore (length c.items) p.io q.io
  found_well drawn p q l end c d ok =
      subst (λ (n : ℕ). FoundMore n p.io q.io) (sym (done_well drawn p q l end c d ok).0.0)
      (subst (λ (r : Result Unit JobError). OnOk r (FoundMore (length (blocks_in_all (blocks_in m rel fork) c.chunks)) p.io q.io)) ok d.found)

  pub covers_at : (w : ℕ) (ps : List PassState) (xs : List (Worker (Lister N A))) (cs : List (Claimed BlockRead)) (c : Claimed BlockRead) → Does ps xs cs → AllDone xs → get_elem? cs w ≡ some c → CoversAll (blocks_in m rel fork) c
  covers_at w ps xs cs c d done at =
      let h = claimed_at w ps xs cs c d at in
      (done_well h.worker.seat.me.0.drawn h.before h.worker.pass h.worker.task h.worker.end c h.did (done_at w xs h.worker done h.there)).0.0

  -- each drew a number past the last chunk
  all_past : (ps : List PassState) (xs : List (Worker (Lister N A))) (cs : List (Claimed BlockRead)) → Does ps xs cs → AllDone xs → AllDrewPast (blocks_in m rel fork) (drawn_of xs)
  all_past [] [] [] d done = tt
  all_past (p ∷ ps) (x ∷ xs) (c ∷ cs) d done = ((done_well x.seat.me.0.drawn p x.pass x.task x.end c d.0 done.0).1, all_past ps xs cs d.1 done.1)
  all_past ps xs cs d done = absurd d

  drawn_long : (ps : List PassState) (xs : List (Worker (Lister N A))) (cs : List (Claimed BlockRead)) → Does ps xs cs → length (drawn_of xs) ≡ length ps
  drawn_long [] [] [] d = refl
  drawn_long (p ∷ ps) (x ∷ xs) (c ∷ cs) d = ap suc (drawn_long ps xs cs d.1)
  drawn_long ps xs cs d = absurd d

  -- what they count is what was read
  pub totals_read : (ps : List PassState) (xs : List (Worker (Lister N A))) (cs : List (Claimed BlockRead)) → Does ps xs cs → AllDone xs → job_totals xs ≡ reads_totals (items_in_all cs)
  totals_read [] [] [] d done = refl
  totals_read (p ∷ ps) (x ∷ xs) (c ∷ cs) d done =
      ap₂ (λ (t u : ScanTotals). sum_of_totals t u) (done_well x.seat.me.0.drawn p x.pass x.task x.end c d.0 done.0).0.1 (totals_read ps xs cs d.1 done.1)
      ∙ sym (reads_totals-append c.items (items_in_all cs))
  totals_read ps xs cs d done = absurd d

  pub all_claimed : (ps : List PassState) (xs : List (Worker (Lister N A))) (cs : List (Claimed BlockRead)) → 0 < length ps → Does ps xs cs → DrewOnce xs → AllDone xs → AreAllClaimed (blocks_in m rel fork) cs
  all_claimed ps xs cs many d once done =
      claimed_all (blocks_in m rel fork) once.0 cs (drawn_of xs) (are_drawn ps xs cs d) (drew_once xs once) (let l = drawn_long ps xs cs d in omega (arith, l, many)) (all_past ps xs cs d done)

  pub reads_all : (ps : List PassState) (xs : List (Worker (Lister N A))) (cs : List (Claimed BlockRead)) (totals : Totals) → 0 < length ps → Does ps xs cs → DrewOnce xs → AllDone xs → totals ≡ totals_of_scan (job_totals xs) → ReadsAll contents m rel fork ps (passes_of xs) totals
  reads_all ps xs cs totals many d once done total = record {
    claimed = cs;
    listed = claimed_long ps xs cs d;
    each = λ w p q c at there that.
        let h = did_at w ps xs cs p q c d at there that in
        let ok = done_at w xs h.worker done h.there in
        let f = done_well h.worker.seat.me.0.drawn p q h.worker.task h.worker.end c h.did ok in
        record { reads = h.did.reads; whole = f.0.0; met = f.0.2; found = found_well h.worker.seat.me.0.drawn p q h.worker.task h.worker.end c h.did ok };
    all = all_claimed ps xs cs many d once done;
    totals_is = total ∙ ap totals_of_scan (totals_read ps xs cs d done);
  }

  -- together they found as many as they read
  found_items : (ps : List PassState) (xs : List (Worker (Lister N A))) (cs : List (Claimed BlockRead)) → Does ps xs cs → AllDone xs → FoundMoreIn (total (λ (c : Claimed BlockRead). length c.items) cs) ps (passes_of xs)
  unfolding total
  found_items [] [] [] d done = no_pass_found
  found_items (p ∷ ps) (x ∷ xs) (c ∷ cs) d done =
      one_more_found (length c.items) (total (λ (b : Claimed BlockRead). length b.items) cs) p x.pass ps (passes_of xs) (found_well x.seat.me.0.drawn p x.pass x.task x.end c d.0 done.0) (found_items ps xs cs d.1 done.1)
  found_items ps xs cs d done = absurd d

  -- which is one for each block
  items_covered : (ps : List PassState) (xs : List (Worker (Lister N A))) (cs : List (Claimed BlockRead)) → Does ps xs cs → AllDone xs
      → total (λ (c : Claimed BlockRead). length c.items) cs ≡ total (λ (c : Claimed BlockRead). total (λ (b : ℕ). 1) (blocks_in_all (blocks_in m rel fork) c.chunks)) cs
  unfolding total
  items_covered [] [] [] d done = refl
  items_covered (p ∷ ps) (x ∷ xs) (c ∷ cs) d done =
      let whole = (done_well x.seat.me.0.drawn p x.pass x.task x.end c d.0 done.0).0.0 in
      omega (arith, whole, total_ones (blocks_in_all (blocks_in m rel fork) c.chunks), items_covered ps xs cs d.1 done.1)
  items_covered ps xs cs d done = absurd d

  found_all : (ps : List PassState) (xs : List (Worker (Lister N A))) (cs : List (Claimed BlockRead)) → 0 < length ps → Does ps xs cs → DrewOnce xs → AllDone xs → FoundMoreIn (blocks_in m rel fork) ps (passes_of xs)
  found_all ps xs cs many d once done =
      let n = blocks_in m rel fork in
      so_many_found (total (λ (c : Claimed BlockRead). length c.items) cs) n ps (passes_of xs)
      (items_covered ps xs cs d done ∙ blocks_all n cs (all_claimed ps xs cs many d once done) (λ (b : ℕ). 1) ∙ sum_ones n)
      (found_items ps xs cs d done)

  pub job_found : {B : Type 0} (ps : List PassState) (xs : List (Worker (Lister N A))) (cs : List (Claimed BlockRead)) (r : Result B JobError) → 0 < length ps → Does ps xs cs → DrewOnce xs → OnOk r (AllDone xs) → OnOk r (FoundMoreIn (blocks_in m rel fork) ps (passes_of xs))
  job_found ps xs cs (Ok b) many d once done = found_all ps xs cs many d once done
  job_found ps xs cs (Err e) many d once done = tt

  -- why the job ended
  any_meets : (ps : List PassState) (xs : List (Worker (Lister N A))) (cs : List (Claimed BlockRead)) (e : JobError) → Does ps xs cs → AnyEnds e xs → (e ≡ Memory) ⊎ AnyMeets contents m rel fork ps (passes_of xs) e
  any_meets [] [] [] e d a = absurd a
  any_meets (p ∷ ps) (x ∷ xs) (c ∷ cs) e d (inl is) = one (subst (λ (r : Result Unit JobError). IfErr r (EndsFor contents m rel fork p x.pass)) is d.0.cause)
    where
      one : EndsFor contents m rel fork p x.pass e → (e ≡ Memory) ⊎ (MeetsFault contents m rel fork p x.pass e ⊎ AnyMeets contents m rel fork ps (passes_of xs) e)
      one (inl memory) = inl memory.0
      one (inr meets) = inr (inl meets)
  any_meets (p ∷ ps) (x ∷ xs) (c ∷ cs) e d (inr a) = other (any_meets ps xs cs e d.1 a)
    where
      other : (e ≡ Memory) ⊎ AnyMeets contents m rel fork ps (passes_of xs) e → (e ≡ Memory) ⊎ (MeetsFault contents m rel fork p x.pass e ⊎ AnyMeets contents m rel fork ps (passes_of xs) e)
      other (inl memory) = inl memory
      other (inr meets) = inr (inr meets)
  any_meets ps xs cs e d a = absurd d

  module _ (ps : List PassState) (xs : List (Worker (Lister N A))) (cs : List (Claimed BlockRead)) (p q : PassState) (end : Result Unit JobError) (outs outs_now : ℕ) (d : DoLists contents m rel fork base lines ps xs cs) (beside : EndsBeside contents m p q end) where
    abbrev JobEndsFor : JobError → Type 0
    JobEndsFor e = (e ≡ Memory) ⊎ (AnyMeets contents m rel fork ps (passes_of xs) e ⊎ (WorkIsRefused contents m p q e ⊎ ((e ≡ OutFault) × Rose outs outs_now)))

    cause_of : (e : JobError) → (e ≡ Memory) ⊎ (AnyEnds e xs ⊎ ((end ≡ Err e) ⊎ ((e ≡ OutFault) × Rose outs outs_now))) → JobEndsFor e
    cause_of e (inl memory) = inl memory
    cause_of e (inr (inl ends)) = of (any_meets ps xs cs e d ends)
      where
        of : (e ≡ Memory) ⊎ AnyMeets contents m rel fork ps (passes_of xs) e → JobEndsFor e
        of (inl memory) = inl memory
        of (inr meets) = inr (inl meets)
    cause_of e (inr (inr (inl refused))) = inr (inr (inl (subst (λ (r : Result Unit JobError). IfErr r (WorkIsRefused contents m p q)) refused beside.cause)))
    cause_of e (inr (inr (inr out))) = inr (inr (inr out))

    pub job_cause : {B : Type 0} (r : Result B JobError) → IfErr r (λ e. (e ≡ Memory) ⊎ (AnyEnds e xs ⊎ ((end ≡ Err e) ⊎ ((e ≡ OutFault) × Rose outs outs_now)))) → IfErr r JobEndsFor
    job_cause (Ok b) c = tt
    job_cause (Err e) c = cause_of e c

  -- the workers' totals
  pub all_counted : (ps : List PassState) (xs : List (Worker (Lister N A))) (cs : List (Claimed BlockRead)) → Does ps xs cs → TotalsAreInRange xs
  all_counted [] [] [] d = tt
  all_counted (p ∷ ps) (x ∷ xs) (c ∷ cs) d = (d.0.counts, all_counted ps xs cs d.1)
  all_counted ps xs cs d = absurd d

  counted_few : (ps : List PassState) (xs : List (Worker (Lister N A))) (cs : List (Claimed BlockRead)) → blocks_in m rel fork < 4294967296 → Does ps xs cs → (job_totals xs).blocks ≤ 4294967296 * length ps
  counted_few [] [] [] fits d = omega arith
  counted_few (p ∷ ps) (x ∷ xs) (c ∷ cs) fits d =
      let one = d.0.few in
      let items = d.0.reads.covers.within in
      let blocks = d.0.few_blocks in
      let rest = counted_few ps xs cs fits d.1 in
      omega (arith, one, items, blocks, rest, fits)
  counted_few ps xs cs fits d = absurd d

  pub all_few : (ps : List PassState) (xs : List (Worker (Lister N A))) (cs : List (Claimed BlockRead)) → blocks_in m rel fork < 4294967296 → length ps ≤ 64 → Does ps xs cs → (job_totals xs).blocks ≤ 1099511627776
  all_few ps xs cs fits few d = let all = counted_few ps xs cs fits d in omega (arith, all, few)

  -- where all are done, no pass met a fault
  all_met : (ps : List PassState) (xs : List (Worker (Lister N A))) (cs : List (Claimed BlockRead)) → Does ps xs cs → AllDone xs → MeetNothing ps (passes_of xs)
  all_met [] [] [] d done w p q at there = absurd (some-ne-none p (sym at))
  all_met (a ∷ ps) (x ∷ xs) (c ∷ cs) d done zero p q at there =
      ap (λ (y : PassState). y.view.met) (sym (some-injective x.pass q there))
      ∙ (done_well x.seat.me.0.drawn a x.pass x.task x.end c d.0 done.0).0.2
      ∙ ap (λ (y : PassState). y.view.met) (some-injective a p at)
  all_met (a ∷ ps) (x ∷ xs) (c ∷ cs) d done (suc w) p q at there = all_met ps xs cs d.1 done.1 w p q at there
  all_met ps xs cs d done w p q at there = absurd d

  -- what was put
  puts_ending : (ps : List PassState) (xs : List (Worker (Lister N A))) (cs : List (Claimed BlockRead)) (B : Type 0) (last : List ℕ) → Does ps xs cs → (last ≡ []) ⊎ (B × AllDone xs × (last ≡ totals_line (job_totals xs)))
      → (last ≡ []) ⊎ (B × MeetNothing ps (passes_of xs) × (last ≡ totals_line (reads_totals (items_in_all cs))))
  puts_ending ps xs cs B last d (inl none) = inl none
  puts_ending ps xs cs B last d (inr h) = inr (h.0, all_met ps xs cs d h.1, h.2 ∙ ap totals_line (totals_read ps xs cs d h.1))

  puts_whole : (ps : List PassState) (xs : List (Worker (Lister N A))) (cs : List (Claimed BlockRead)) (B : Type 0) (last : List ℕ) (r : Result Totals JobError) → Does ps xs cs → OnOk r (AllDone xs) → OnOk (as_done r) (B × (last ≡ totals_line (job_totals xs)))
      → IfOk r (λ totals. totals ≡ totals_of_scan (job_totals xs)) → IfOk r (λ totals. B × (last ≡ totals_line (reads_totals (items_in_all cs))) × (totals ≡ totals_of_scan (reads_totals (items_in_all cs))))
  puts_whole ps xs cs B last (Ok totals) d done h is = let read = totals_read ps xs cs d done in (h.0, h.1 ∙ ap totals_line read, is ∙ ap totals_of_scan read)
  puts_whole ps xs cs B last (Err e) d done h is = tt

  pub puts_texts : (ps : List PassState) (xs : List (Worker (Lister N A))) (cs : List (Claimed BlockRead)) (place : ℕ) (old new : Option (List ℕ)) (r : Result Totals JobError) → Does ps xs cs
      → DrewOnce xs → OnOk r (AllDone xs) → IfOk r (λ totals. totals ≡ totals_of_scan (job_totals xs))
      → (AllAtBase (base_of m.table) (passes_of xs) → place ≡ base_of m.table) → PutsAll (IsTextBy (IsChunkText contents m rel fork lines) place) xs (chunk_count (blocks_in m rel fork)) old new (as_done r)
      → PutsTexts contents m rel fork lines ps (passes_of xs) old new r
  unfolding read_parts
  puts_texts ps xs cs place old new r d once done is at h = record {
    parts = read_parts ps xs cs d once;
    place = place;
    at_base = at;
    many = h.many;
    within = h.within;
    text = h.text;
    texts = h.texts_are;
    last = h.last;
    ending = puts_ending ps xs cs (h.many ≡ chunk_count (blocks_in m rel fork)) h.last d h.ending;
    puts = h.puts;
    whole = puts_whole ps xs cs (h.many ≡ chunk_count (blocks_in m rel fork)) h.last r d done h.whole is;
  }

  -- the whole, where the job is done
  pub job_done : (ps : List PassState) (xs : List (Worker (Lister N A))) (cs : List (Claimed BlockRead)) (r : Result Totals JobError) → 0 < length ps → Does ps xs cs → DrewOnce xs → OnOk r (AllDone xs) → IfOk r (λ totals. totals ≡ totals_of_scan (job_totals xs))
      → IfOk r (ReadsAll contents m rel fork ps (passes_of xs))
  job_done ps xs cs (Ok totals) many d once ok total = reads_all ps xs cs totals many d once ok total
  job_done ps xs cs (Err e) many d once ok total = tt
