-- What a scan or a dump of a fork comes to, once its workers have ended.
use Rattle.std.proofs.Common.{◌≡◌, ℕ, ◌+◌, ◌-◌, ◌<◌, ◌≤◌, ◌⊎◌, true, false, Bool, MatchBool, List, [], ◌∷◌, ◌++◌, length, map, suc, take, Option, Result, Ok, Err, refl, sym, ap, ◌∙◌, subst, arith, inl, inr}
use Rattle.std.specs.Prelude.{IfErr, IfOk, OnOk}
use Rattle.std.proofs.lemmas.List.{length-append}
use mathlib.Core.Option.{some}
use lib.ListN.{get_elem?}
use Rattle.block_tag.specs.declared.tag.Fork.{Fork}
use Rattle.block_tag.specs.Names.{names_block, tag_of_parts}
use Rattle.byte_devices.specs.Bytes.{Puts}
use Rattle.byte_devices.specs.Faults.{Rose}
use Rattle.page_layout.specs.declared.scan.ScanTotals.{ScanTotals}
use Rattle.page_layout.specs.Scan.{IsWithin}
use Rattle.segment_store.specs.Contents.{Pages}
use Rattle.pin_core.specs.State.{Page}
use Rattle.frame_table.specs.Seats.{base_of}
use Rattle.text_window.specs.Shares.{HoldsParts, IsMerged}
use Rattle.text_window.specs.Texts.{IsFinished, IsTextBy, Job}
use Rattle.backend_pass.specs.declared.manager.Manager.{Manager}
use Rattle.backend_pass.specs.Passes.{PassState}
use Rattle.page_jobs.specs.declared.ending.JobError.{JobError}
use Rattle.page_jobs.specs.declared.ending.JobError.TheVariants.{Memory, OutFault}
use Rattle.page_jobs.specs.declared.ending.Totals.{Totals}
use Rattle.page_jobs.specs.declared.listing.Lister.{Lister}
use Rattle.page_jobs.specs.declared.printing.Lines.{Lines}
use Rattle.page_jobs.specs.declared.running.Ran.{Ran}
use Rattle.page_jobs.specs.declared.working.Worker.{Worker}
use Rattle.page_jobs.specs.Chunks.{Claimed, chunk_count}
use Rattle.page_jobs.specs.ChunkTexts.{IsChunkText, OpensText}
use Rattle.page_jobs.specs.Dealt.{AllDone, AnyEnds, HasRun, HaveJoined, PutsAll, PutsEnd, PutsNoEnd, TotalsAreInRange, job_totals}
use Rattle.page_jobs.specs.Ending.{as_done, totals_of_scan}
use Rattle.page_jobs.specs.Jobs.{AllAtBase, EndsJob, FoundMoreIn, HaveNoTokens, IsOrigin, PutsTexts, ReadParts, ReadsAll, workers_in}
use Rattle.page_jobs.specs.Listings.{IsListed}
use Rattle.page_jobs.specs.Parts.{blocks_in}
use Rattle.page_jobs.specs.Printed.{BlockRead, text_of_pages}
use Rattle.grid.proofs.Lists.{at_longer}
use Rattle.page_jobs.specs.Working.{CanBegin}
use Rattle.page_jobs.proofs.BesideWork.{done_met, last_did, ends_job, job_met, last_stays, reads_met, stays_none}
use Rattle.page_jobs.proofs.Completing.{job_complete, job_short}
use Rattle.page_jobs.proofs.Deals.{free_front, free_taken, workers_before}
use Rattle.page_jobs.proofs.Delivered.{HasBack, all_delivered, first_at_base, has_back, none_above}
use Rattle.page_jobs.proofs.ListedChunks.{DoLists, HaveLists, closes_text, do_lists, lister_begins, lists_block}
use Rattle.page_jobs.proofs.Origin.{text_of_origin, text_of_some, totals_of_origin}
use Rattle.page_jobs.proofs.Sums.{within_none}
use Rattle.page_jobs.proofs.Texts.{PutsSome, put_nothing, puts_all, puts_some, stopped_at}
use Rattle.page_jobs.proofs.Whole.{DrewOnce, all_claimed, all_counted, all_few, job_cause, job_done, job_found, passes_long, passes_of, puts_texts, read_parts, unread_parts, unread_puts, workers_long}

-- a count that rose is at least what it was
pub rose_later : (before now : ℕ) → before < 18446744073709551616 → Rose before now → before ≤ now
rose_later before now fits rose = omega (arith, fits, rose)

-- the output's count of faults, where a put failed before the job's end or didn't
pub faults_later : (output : Bool) (outs mid now : ℕ) → outs < 18446744073709551616 → MatchBool output (Rose outs mid) (mid ≡ outs) → mid ≤ now → outs ≤ now
faults_later true outs mid now fits rose later = let r = rose_later outs mid fits rose in omega (arith, r, later)
faults_later false outs mid now fits same later = omega (arith, same, later)

-- and why there were no totals
abbrev pub NoTotals : Result Unit JobError → Result Unit JobError → ℕ → ℕ → JobError → Type 0
NoTotals worked beside outs now e = ((e ≡ OutFault) × Rose outs now) ⊎ ((now ≡ outs) × ((e ≡ Memory) ⊎ ((worked ≡ Err e) ⊎ (beside ≡ Err e))))

pub no_totals_for : (output : Bool) (worked beside : Result Unit JobError) (outs mid now : ℕ) (e : JobError) → MatchBool output (Rose outs mid) (mid ≡ outs) → PutsNoEnd output worked beside mid now e → NoTotals worked beside outs now e
no_totals_for true worked beside outs mid now e rose (inl out) = inl (out.0, subst (Rose outs) (sym out.1) rose)
no_totals_for false worked beside outs mid now e same (inl out) = inl (out.0, subst (λ (n : ℕ). Rose n now) same out.1)
no_totals_for output worked beside outs mid now e faults (inr other) =
    inr (other.1 ∙ subst (λ (b : Bool). MatchBool b (Rose outs mid) (mid ≡ outs)) other.0 faults, other.2)

-- with any other error than the output's its count is as it was
pub is_steady : {A : Type 0} (worked beside : Result Unit JobError) (outs now : ℕ) (r : Result A JobError) → IfErr r (NoTotals worked beside outs now) → IfErr r (λ e. (e ≡ OutFault) ⊎ (now ≡ outs))
is_steady worked beside outs now (Ok a) cause = tt
is_steady worked beside outs now (Err e) (inl out) = inl out.0
is_steady worked beside outs now (Err e) (inr other) = inr other.0

-- a job whose own task has these lines ran with workers that print them
pub ran_of : {L G N A : Type 0} (contents : L → Option Pages) (m : Manager L G) (rel : ℕ) (fork : Fork) (base : ℕ) (lines : Lines) (did : PassState → PassState → Type 0) (all : List PassState) (ran : Ran (Lister N A)) (task : Lister N A) → task.lines ≡ lines
    → HasRun contents m (blocks_in m rel fork) (lists_block contents m rel fork) (closes_text base) (lister_begins task.lines) did all ran → HasRun contents m (blocks_in m rel fork) (lists_block contents m rel fork) (closes_text base) (lister_begins lines) did all ran
ran_of contents m rel fork base lines did all ran task is h = subst (λ (x : Lines). HasRun contents m (blocks_in m rel fork) (lists_block contents m rel fork) (closes_text base) (lister_begins x) did all ran) is h

module _ {L G : Type 0} (contents : L → Option Pages) (m : Manager L G) (rel : ℕ) (fork : Fork) (lines : Lines) (did : PassState → PassState → Type 0) (all : List PassState) where
  -- no worker began
  pub not_listed : (place : ℕ) (old new : Option (List ℕ)) (outs outs_now : ℕ) (e : JobError) → HaveNoTokens contents m all → (AllAtBase (base_of m.table) (workers_in all) → place ≡ base_of m.table)
      → PutsSome (IsTextBy (IsChunkText contents m rel fork lines) place) (chunk_count (blocks_in m rel fork)) old new e
      → ((pages : List Page) → IsOrigin contents m rel fork pages → AllAtBase (base_of m.table) (workers_in all) → Puts {E = JobError} (text_of_pages lines pages) old new (Err e))
      → outs ≤ outs_now → NoTotals (Err Memory) (Ok tt) outs outs_now e → IsListed contents m rel fork lines did all all old new outs outs_now (Err e)
  not_listed place old new outs outs_now e free low put text later cause =
      let free_workers = free_taken contents m (length all - 1) all free in
      let ends = ends_for cause in
      record {
        passes = unread_parts contents m rel fork (workers_in all) free_workers;
        last = stays_none contents m all free;
        met = tt;
        beside = tt;
        done = tt;
        found = tt;
        puts = unread_puts contents m rel fork lines (workers_in all) place old new e free_workers low put;
        totals = λ pages origin at. tt;
        text = text;
        quiet = tt;
        later = later;
        steady = is_steady {A = Totals} (Err Memory) (Ok tt) outs outs_now (Err e) cause;
        cause = ends;
        short = job_short contents m rel fork all all outs outs_now (Err e) ends;
        complete = job_complete contents m rel fork all all outs outs_now (Err e) ends;
      }
    where
      ends_for : NoTotals (Err Memory) (Ok tt) outs outs_now e → EndsJob contents m rel fork all all outs outs_now e
      ends_for (inl out) = inr (inr (inr out))
      ends_for (inr (same, inl memory)) = inl memory
      ends_for (inr (same, inr (inl worked))) = inl (let is : e ≡ Memory = cc in is)
      ends_for (inr (same, inr (inr beside))) = absurd cc

  -- the job ended before it began
  pub not_begun : (old : Option (List ℕ)) (outs : ℕ) → HaveNoTokens contents m all → IsListed contents m rel fork lines did all all old old outs outs (Err Memory)
  not_begun old outs free = not_listed (base_of m.table) old old outs outs Memory free (λ at. refl)
      record { many = 0; within = omega arith; text = []; texts_are = refl; puts = stopped_at [] [] [] old old Memory refl (put_nothing old) }
      (λ pages origin at. stopped_at (text_of_pages lines pages) [] (text_of_pages lines pages) old old Memory refl (put_nothing old)) (omega arith) (inr (refl, inl refl))

  -- and once its window was there
  module _ (named : (block : ℕ) → block < blocks_in m rel fork → names_block (tag_of_parts rel fork block) ≡ true) (several : 2 ≤ length all) (free : HaveNoTokens contents m all)
      (job : Job) (chunks : job.chunks ≡ chunk_count (blocks_in m rel fork)) (first : (p : PassState) → get_elem? all 0 ≡ some p → job.base ≡ p.view.front)
      (output : Bool) (old mid new : Option (List ℕ)) (outs outs_mid outs_now : ℕ) (totals : ScanTotals) (delivered above : ℕ)
      (finished : IsFinished (IsChunkText contents m rel fork lines) job delivered above output mid) (none : above ≡ 0) (was : job.before ≡ old)
      (fits : outs < 18446744073709551616) (faults : MatchBool output (Rose outs outs_mid) (outs_mid ≡ outs)) (rises : outs_mid ≤ outs_now) where
    low_place : AllAtBase (base_of m.table) (workers_in all) → finished.place ≡ base_of m.table
    low_place at =
        let free_workers = free_taken contents m (length all - 1) all free in
        finished.at_base none ∙ first_at_base contents m rel fork (workers_in all) (workers_in all) job.base (some_workers all several) free_workers (unread_parts contents m rel fork (workers_in all) free_workers) first_of at
      where
        less : (p q : PassState) (ps : List PassState) → length (p ∷ (q ∷ ps)) - 1 ≡ suc (length ps)
        less p q ps = omega arith

        some_workers : (ps : List PassState) → 2 ≤ length ps → 0 < length (workers_in ps)
        some_workers [] s = absurd (omega arith)
        some_workers (p ∷ []) s = absurd (omega arith)
        some_workers (p ∷ (q ∷ ps)) s = subst (λ (n : ℕ). 0 < length (take n (p ∷ (q ∷ ps)))) (sym (less p q ps)) (omega arith)

        first_in : (ps : List PassState) (p : PassState) → 2 ≤ length ps → get_elem? (workers_in ps) 0 ≡ some p → get_elem? ps 0 ≡ some p
        first_in [] p s at_0 = absurd (omega arith)
        first_in (a ∷ []) p s at_0 = absurd (omega arith)
        first_in (a ∷ (b ∷ ps)) p s at_0 = subst (λ (n : ℕ). get_elem? (take n (a ∷ (b ∷ ps))) 0 ≡ some p) (less a b ps) at_0

        first_of : (p : PassState) → get_elem? (workers_in all) 0 ≡ some p → job.base ≡ p.view.front
        first_of p at_0 = first p (first_in all p several at_0)

    pub not_run : (worked beside : Result Unit JobError) (r : Result Totals JobError) → worked ≡ Err Memory → beside ≡ Ok tt → PutsEnd output worked beside totals mid new (as_done r)
        → OnOk r ((output ≡ false) × (worked ≡ Ok tt) × (beside ≡ Ok tt) × (outs_now ≡ outs_mid)) → IfErr r (λ e. PutsNoEnd output worked beside outs_mid outs_now e) → IsListed contents m rel fork lines did all all old new outs outs_now r
    not_run worked beside (Ok t) failed well put ok why = let no : worked ≡ Ok tt = ok.1 in absurd cc
    not_run worked beside (Err e) failed well put ok why =
        let puts = subst (λ (n : ℕ). PutsSome (IsTextBy (IsChunkText contents m rel fork lines) finished.place) n old new e) chunks
        (puts_some (IsChunkText contents m rel fork lines) job delivered above output worked beside totals Memory old mid new e finished was failed put) in
        not_listed finished.place old new outs outs_now e free low_place puts
        (λ pages origin at. text_of_some contents m rel fork lines named pages origin finished.place (low_place at) old new e puts)
        (faults_later output outs outs_mid outs_now fits faults rises)
        (subst (λ (w : Result Unit JobError). NoTotals w (Ok tt) outs outs_now e) failed (subst (λ (b : Result Unit JobError). NoTotals worked b outs outs_now e) well (no_totals_for output worked beside outs outs_mid outs_now e faults why)))

  -- a lister that begins can count the blocks of any fork, and can begin a chunk
  pub lister_starts : {N A : Type 0} (texts : ℕ → ℕ → List ℕ → Type 0) (job : Job) (k : Lister N A) → job.chunks ≡ chunk_count (blocks_in m rel fork)
      → ((place chunk : ℕ) (text : List ℕ) → IsChunkText contents m rel fork lines place chunk text → texts place chunk text) → lister_begins lines k
      → CanBegin (λ (l : Lister N A) (n : ℕ). IsWithin l.printed.totals l.printed.totals.blocks × (l.printed.totals.blocks + n ≤ 4294967296)) k × OpensText contents m rel fork texts job k
  lister_starts texts job k chunks takes b =
      let within : IsWithin k.printed.totals k.printed.totals.blocks = within_none k.printed.totals b.2 in
      let none : k.printed.totals.blocks ≡ 0 = ap (λ (t : ScanTotals). t.blocks) b.2 in
      let delivered = b.3.parts.0 in
      let above = b.3.parts.1 in (
        (λ n most. (within, omega (arith, none, most))),
        record {
          none = b.1;
          counts = within;
          parts = (omega (arith, delivered), omega (arith, above));
          chunks = chunks;
          takes = λ place chunk text is. takes place chunk text (subst (λ (x : Lines). IsChunkText contents m rel fork x place chunk text) b.0 is);
        },
      )

  module _ {N A : Type 0} (base : ℕ) (ran : Ran (Lister N A)) (several : 2 ≤ length all) (few : length all ≤ 64) (free : HaveNoTokens contents m all) (named : (block : ℕ) → block < blocks_in m rel fork → names_block (tag_of_parts rel fork block) ≡ true)
      (h : HasRun contents m (blocks_in m rel fork) (lists_block contents m rel fork) (closes_text base) (lister_begins lines) did all ran) where
    counted : length all ≡ length h.before + 1
    counted = ap length h.split ∙ length-append h.before (h.last ∷ [])

    some_work : 0 < length h.before
    some_work = let c = counted in omega (arith, c, several)

    before : workers_in all ≡ h.before
    before = workers_before all h.before h.last h.split

    free_workers : HaveNoTokens contents m h.before
    free_workers = free_front contents m h.before (h.last ∷ []) (subst (HaveNoTokens contents m) h.split free)

    lists_done : HaveLists contents m rel fork base lines h.before ran.workers.items
    lists_done = do_lists contents m rel fork base lines h.before ran.workers.items free_workers h.done

    -- there are as many workers as passes that work
    pub ran_long : length ran.workers.items + 1 ≡ length all
    ran_long = let l = workers_long contents m rel fork base lines h.before ran.workers.items lists_done.claimed lists_done.lists in let c = counted in omega (arith, l, c)

    pub some_ran : 0 < length ran.workers.items
    some_ran = let l = ran_long in omega (arith, l, several)

    abbrev xs : List (Worker (Lister N A))
    xs = ran.workers.items

    abbrev cs : List (Claimed BlockRead)
    cs = lists_done.claimed

    d : DoLists contents m rel fork base lines h.before ran.workers.items lists_done.claimed
    d = lists_done.lists

    pub in_range : TotalsAreInRange ran.workers.items
    in_range = all_counted contents m rel fork base lines h.before xs cs d

    pub fewest : (job_totals ran.workers.items).blocks ≤ 1099511627776
    fewest = all_few contents m rel fork base lines h.before xs cs h.few (let c = counted in omega (arith, c, few)) d

    -- the job's task, which has the shares back
    module _ (k l : Lister N A) (held : HoldsParts 0 k.shares) (joined : HaveJoined (λ i o j. IsMerged i.shares o.shares j.shares) ran.workers.items k l) where
      back_all : HasBack contents m rel fork base lines ran.workers.items l
      back_all = has_back contents m rel fork base lines h.before xs cs k l d held joined

      pub all_parts : (l.shares.delivered.parts + 1 ≡ length all) × (l.shares.above.parts + 1 ≡ length all)
      all_parts =
          let b = back_all.parts in
          let delivered = b.0 in
          let above = b.1 in
          let long = ran_long in
          (omega (arith, delivered, long), omega (arith, above, long))

      -- and the passes that are given back, with what was put
      module _ (once : DrewOnce ran.workers.items) (qs : List PassState) (back : qs ≡ map (λ (x : Worker (Lister N A)). x.pass) ran.workers.items ++ ran.last ∷ []) where
        after : workers_in qs ≡ passes_of ran.workers.items
        after = workers_before qs (passes_of xs) ran.last back

        long : length (passes_of ran.workers.items) ≡ length h.before
        long = passes_long contents m rel fork base lines h.before xs cs d

        -- of the passes that worked
        of_workers : (F : List PassState → List PassState → Type 0) → F h.before (passes_of ran.workers.items) → F (workers_in all) (workers_in qs)
        of_workers F f = subst (λ (l : List PassState). F l (workers_in qs)) (sym before) (subst (F h.before) (sym after) f)

        parts : ReadParts contents m rel fork h.before (passes_of ran.workers.items)
        parts = read_parts contents m rel fork base lines h.before xs cs d once

        module _ (job : Job) (at_base : job.base ≡ base) (chunks : job.chunks ≡ chunk_count (blocks_in m rel fork)) (first : (p : PassState) → get_elem? all 0 ≡ some p → base ≡ p.view.front)
            (output : Bool) (old mid new : Option (List ℕ)) (outs outs_mid outs_now : ℕ) (worked : Result Unit JobError) (totals : ScanTotals) (r : Result Totals JobError)
            (finished : IsFinished (IsChunkText contents m rel fork lines) job l.shares.delivered.amount l.shares.above.amount output mid) (was : job.before ≡ old)
            (well : OnOk worked (AllDone ran.workers.items)) (ill : IfErr worked (λ e. AnyEnds e ran.workers.items)) (summed : totals ≡ job_totals ran.workers.items)
            (fits : outs < 18446744073709551616) (faults : MatchBool output (Rose outs outs_mid) (outs_mid ≡ outs))
            (put : PutsEnd output worked ran.beside_end totals mid new (as_done r)) (ok : OnOk r ((output ≡ false) × (worked ≡ Ok tt) × (ran.beside_end ≡ Ok tt) × (outs_now ≡ outs_mid)))
            (answer : IfOk r (λ t. t ≡ totals_of_scan totals)) (rises : outs_mid ≤ outs_now) (why : IfErr r (λ e. PutsNoEnd output worked ran.beside_end outs_mid outs_now e)) where
          all_well : worked ≡ Ok tt → AllDone ran.workers.items
          all_well e = subst (λ (w : Result Unit JobError). OnOk w (AllDone ran.workers.items)) e well

          of_ok : {A : Type 0} (s : Result A JobError) (P Q : Type 0) → OnOk s P → (P → Q) → OnOk s Q
          of_ok (Ok a) P Q p f = f p
          of_ok (Err e) P Q p f = tt

          of_err : {A : Type 0} (s : Result A JobError) (P Q : JobError → Type 0) → IfErr s P → ((e : JobError) → P e → Q e) → IfErr s Q
          of_err (Ok a) P Q p f = tt
          of_err (Err e) P Q p f = f e p

          done : OnOk r (AllDone ran.workers.items)
          done = of_ok r _ (AllDone ran.workers.items) ok (λ o. all_well o.1)

          beside_well : OnOk r (ran.beside_end ≡ Ok tt)
          beside_well = of_ok r _ (ran.beside_end ≡ Ok tt) ok (λ o. o.2)

          is_total : IfOk r (λ t. t ≡ totals_of_scan (job_totals ran.workers.items))
          is_total = subst (λ (x : ScanTotals). IfOk r (λ t. t ≡ totals_of_scan x)) summed answer

          all_out : worked ≡ Ok tt → (l.shares.delivered.amount ≡ job.chunks) × AllDone ran.workers.items × (totals ≡ job_totals ran.workers.items)
          all_out e = (
            back_all.delivered ∙ all_delivered contents m rel fork base lines h.before xs cs d (all_well e) (all_claimed contents m rel fork base lines h.before xs cs some_work d once (all_well e)) ∙ sym chunks,
            all_well e,
            summed,
          )

          put_end : OnOk (as_done r) ((output ≡ false) × (worked ≡ Ok tt))
          put_end = as_well r ok
            where
              as_well : (s : Result Totals JobError) → OnOk s ((output ≡ false) × (worked ≡ Ok tt) × (ran.beside_end ≡ Ok tt) × (outs_now ≡ outs_mid)) → OnOk (as_done s) ((output ≡ false) × (worked ≡ Ok tt))
              as_well (Ok t) o = (o.0, o.1)
              as_well (Err e) o = tt

          puts_them : PutsAll (IsTextBy (IsChunkText contents m rel fork lines) finished.place) ran.workers.items (chunk_count (blocks_in m rel fork)) old new (as_done r)
          puts_them = subst (λ (n : ℕ). PutsAll (IsTextBy (IsChunkText contents m rel fork lines) finished.place) ran.workers.items n old new (as_done r)) chunks
              (puts_all (IsChunkText contents m rel fork lines) job l.shares.delivered.amount l.shares.above.amount output worked ran.beside_end totals xs old mid new (as_done r) finished put was all_out put_end)

          low : AllAtBase (base_of m.table) (passes_of ran.workers.items) → finished.place ≡ base_of m.table
          low at =
              let is : base ≡ base_of m.table = first_at_base contents m rel fork h.before (passes_of xs) base some_work free_workers parts first_of at in
              finished.at_base (back_all.above ∙ none_above contents m rel fork base lines h.before xs cs d (subst (λ (b : ℕ). AllAtBase b (passes_of ran.workers.items)) (sym is) at)) ∙ at_base ∙ is
            where
              first_of : (p : PassState) → get_elem? h.before 0 ≡ some p → base ≡ p.view.front
              first_of p at_0 = first p (ap (λ (l : List PassState). get_elem? l 0) h.split ∙ at_longer h.before (h.last ∷ []) 0 p at_0)

          cause_of : IfErr r (NoTotals worked ran.beside_end outs outs_now)
          cause_of = of_err r _ (NoTotals worked ran.beside_end outs outs_now) why (λ e w. no_totals_for output worked ran.beside_end outs outs_mid outs_now e faults w)

          fault_of : (e : JobError) → NoTotals worked ran.beside_end outs outs_now e → (e ≡ Memory) ⊎ (AnyEnds e ran.workers.items ⊎ ((ran.beside_end ≡ Err e) ⊎ ((e ≡ OutFault) × Rose outs outs_now)))
          fault_of e (inl out) = inr (inr (inr out))
          fault_of e (inr (same, inl memory)) = inl memory
          fault_of e (inr (same, inr (inl failed))) = inr (inl (subst (λ (w : Result Unit JobError). IfErr w (λ x. AnyEnds x ran.workers.items)) failed ill))
          fault_of e (inr (same, inr (inr refused))) = inr (inr (inl refused))

          whole : IfOk r (ReadsAll contents m rel fork h.before (passes_of ran.workers.items))
          whole = job_done contents m rel fork base lines h.before xs cs r some_work d once done is_total

          ends : IfErr r (EndsJob contents m rel fork all qs outs outs_now)
          ends = ends_job contents m all qs h.before (passes_of xs) h.last ran.last h.split back long rel fork outs outs_now r
              (job_cause contents m rel fork base lines h.before xs cs h.last ran.last ran.beside_end outs outs_now d h.beside r (of_err r _ _ cause_of fault_of))

          pub is_listed : IsListed contents m rel fork lines did all qs old new outs outs_now r
          is_listed = record {
            passes = of_workers (ReadParts contents m rel fork) parts;
            last = last_stays contents m all qs h.before (passes_of xs) h.last ran.last h.split back long h.beside.works;
            met = job_met contents m all qs h.before (passes_of xs) h.last ran.last h.split back long r (reads_met contents m rel fork h.before (passes_of xs) r whole) (done_met r ran.beside_end (ran.last.view.met ≡ h.last.view.met) beside_well h.beside.met);
            beside = last_did contents m all qs h.before (passes_of xs) h.last ran.last h.split back long did r (done_met r ran.beside_end (did h.last ran.last) beside_well h.did_beside);
            done = of_workers (λ a b. IfOk r (ReadsAll contents m rel fork a b)) whole;
            found = of_workers (λ a b. OnOk r (FoundMoreIn (blocks_in m rel fork) a b)) (job_found contents m rel fork base lines h.before xs cs r some_work d once done);
            puts = of_workers (λ a b. PutsTexts contents m rel fork lines a b old new r) (puts_texts contents m rel fork base lines h.before xs cs finished.place old new r d once done is_total low puts_them);
            totals = λ pages origin at. totals_of_origin contents m rel fork base lines h.before xs cs pages d named origin (subst (AllAtBase (base_of m.table)) after at) r some_work once done is_total;
            text = λ pages origin at. let at_xs = subst (AllAtBase (base_of m.table)) after at in text_of_origin contents m rel fork base lines h.before xs cs pages d named origin at_xs finished.place (low at_xs) old new r some_work once done puts_them;
            quiet = of_ok r _ (outs_now ≡ outs) ok (λ o. o.3 ∙ subst (λ (b : Bool). MatchBool b (Rose outs outs_mid) (outs_mid ≡ outs)) o.0 faults);
            later = faults_later output outs outs_mid outs_now fits faults rises;
            steady = is_steady worked ran.beside_end outs outs_now r cause_of;
            cause = ends;
            short = job_short contents m rel fork all qs outs outs_now r ends;
            complete = job_complete contents m rel fork all qs outs outs_now r ends;
          }
