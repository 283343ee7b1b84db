-- A job ends well where nothing fails, but for memory.
use Rattle.std.proofs.Common.{◌≡◌, ℕ, suc, ◌-◌, true, false, List, [], ◌∷◌, length, Option, Some, Result, Ok, Err, refl, sym, ap, ◌∙◌, subst, inl, inr, arith}
use Rattle.std.specs.Prelude.{IfErr}
use mathlib.Core.Option.{some}
use lib.ListN.{get_elem?}
use Rattle.block_tag.specs.declared.tag.Fork.{Fork}
use Rattle.block_tag.specs.declared.tag.Tag.{Tag}
use Rattle.block_tag.specs.Names.{tag_of_parts}
use Rattle.byte_devices.specs.Faults.{Rose}
use Rattle.segment_store.specs.Contents.{Pages}
use Rattle.pin_core.specs.declared.view.FailedCalls.{FailedCalls}
use Rattle.pin_core.specs.declared.view.View.{View}
use Rattle.frame_table.specs.Seats.{OnlyRises}
use Rattle.wal_flush.specs.declared.inserts.InsertError.{InsertError}
use Rattle.wal_flush.specs.declared.inserts.InsertError.TheVariants as put
use Rattle.buffer_frames.specs.Puts.{RefusalShows}
use Rattle.backend_pass.specs.declared.errors.FlushError.{FlushError}
use Rattle.backend_pass.specs.declared.errors.FlushError.TheVariants as flush
use Rattle.backend_pass.specs.declared.errors.ReadError.{ReadError}
use Rattle.backend_pass.specs.declared.errors.ReadError.TheVariants as read
use Rattle.backend_pass.specs.declared.manager.Manager.{Manager}
use Rattle.backend_pass.specs.FrameFlushes.{RefusesFrame}
use Rattle.backend_pass.specs.Passes.{NoDeviceFails, PassState}
use Rattle.backend_pass.specs.Reading.{NothingFails, ReadingRefused, met_read_refused}
use Rattle.page_jobs.specs.declared.ending.JobError.{JobError}
use Rattle.page_jobs.specs.declared.ending.JobError.TheVariants.{LogShort, Memory}
use Rattle.page_jobs.specs.declared.ending.Totals.{Totals}
use Rattle.page_jobs.specs.Beside.{LastIsRefused, WorkIsRefused, fault_of_flush}
use Rattle.page_jobs.specs.Completeness.{IsDoneFullOrMemory, IsDoneFullShortOrMemory, IsDoneOrMemory, IsDoneShortOrMemory, NoDeviceFailsIn, NothingFailsIn, OutIsQuiet}
use Rattle.page_jobs.specs.Jobs.{AnyMeets, EndsJob, workers_in}
use Rattle.page_jobs.specs.Loads.{AnyMeetsListed, EndsLoad}
use Rattle.page_jobs.specs.Reads.{fault_of_refusal}
use Rattle.page_jobs.specs.RewriteJobs.{EndsRewrite, FailsFirst}
use Rattle.page_jobs.specs.Rewriting.{fault_of_put}
use Rattle.backend_pass.proofs.Standing.{taken_from}

-- a log isn't seen down, and not
not_up : (v : View) → v.saw_down ≡ true → v.saw_down ≡ false → ⊥
not_up v down up = let no : true ≡ false = sym down ∙ up in absurd (cc)

none_rose : (before now : ℕ) → OutIsQuiet before now → Rose before now → ⊥
none_rose before now quiet rose = let same = quiet.same in let below = quiet.below in omega arith

-- Why a job ends, where of each of its passes this is known
module _ {L G : Type 0} (contents : L → Option Pages) (m : Manager L G) (Quiet : PassState → PassState → Type 0) (Ends : JobError → Type 0) (memory_ends : Ends Memory)
    (read_ends : (tag : Tag) (p b q : PassState) (why : ReadError) (e : JobError) → OnlyRises p.view b.view → fault_of_refusal why ≡ Some e → ReadingRefused contents m.table tag b q why → q.view.met ≡ met_read_refused why p.view.met → Quiet p q → Ends e)
    (work_ends : (p q : PassState) (e : JobError) → WorkIsRefused contents m p q e → Quiet p q → Ends e) where
  abbrev QuietIn : List PassState → List PassState → Type 0
  QuietIn ps qs = (w : ℕ) (p q : PassState) → get_elem? ps w ≡ some p → get_elem? qs w ≡ some q → Quiet p q

  workers_quiet : (ps qs : List PassState) → QuietIn ps qs → QuietIn (workers_in ps) (workers_in qs)
  workers_quiet ps qs n w p q at after = n w p q (taken_from (length ps - 1) w ps p at) (taken_from (length qs - 1) w qs q after)

  last_ends : (ps qs : List PassState) (e : JobError) → QuietIn ps qs → LastIsRefused contents m ps qs e → Ends e
  last_ends ps qs e n x = work_ends x.before x.after e x.refused (n (length ps - 1) x.before x.after x.was x.is)

  any_listed_ends : (tags : List Tag) (ps qs : List PassState) (e : JobError) → QuietIn ps qs → AnyMeetsListed contents m tags ps qs e → Ends e
  any_listed_ends tags [] [] e n any = absurd any
  any_listed_ends tags [] (q ∷ qs) e n any = absurd any
  any_listed_ends tags (p ∷ ps) [] e n any = absurd any
  any_listed_ends tags (p ∷ ps) (q ∷ qs) e n (inl x) = let y = x.meets in read_ends x.tag p y.before q y.why e y.since y.fault y.refused y.met (n 0 p q refl refl)
  any_listed_ends tags (p ∷ ps) (q ∷ qs) e n (inr any) = any_listed_ends tags ps qs e (λ w. n (suc w)) any

  load_ends : (tags : List Tag) (ps qs : List PassState) (e : JobError) → EndsLoad contents m tags ps qs e → QuietIn ps qs → Ends e
  load_ends tags ps qs e (inl memory) n = subst Ends (sym memory) memory_ends
  load_ends tags ps qs e (inr (inl any)) n = any_listed_ends tags (workers_in ps) (workers_in qs) e (workers_quiet ps qs n) any
  load_ends tags ps qs e (inr (inr last)) n = last_ends ps qs e n last

  module _ (rel : ℕ) (fork : Fork) where
    any_ends : (ps qs : List PassState) (e : JobError) → QuietIn ps qs → AnyMeets contents m rel fork ps qs e → Ends e
    any_ends [] [] e n any = absurd any
    any_ends [] (q ∷ qs) e n any = absurd any
    any_ends (p ∷ ps) [] e n any = absurd any
    any_ends (p ∷ ps) (q ∷ qs) e n (inl x) = read_ends (tag_of_parts rel fork x.block) p x.before q x.why e x.since x.fault x.refused x.met (n 0 p q refl refl)
    any_ends (p ∷ ps) (q ∷ qs) e n (inr any) = any_ends ps qs e (λ w. n (suc w)) any

    job_ends : (ps qs : List PassState) (outs outs_now : ℕ) (e : JobError) → EndsJob contents m rel fork ps qs outs outs_now e → QuietIn ps qs → OutIsQuiet outs outs_now → Ends e
    job_ends ps qs outs outs_now e (inl memory) n quiet = subst Ends (sym memory) memory_ends
    job_ends ps qs outs outs_now e (inr (inl any)) n quiet = any_ends (workers_in ps) (workers_in qs) e (workers_quiet ps qs n) any
    job_ends ps qs outs outs_now e (inr (inr (inl last))) n quiet = last_ends ps qs e n last
    job_ends ps qs outs outs_now e (inr (inr (inr out))) n quiet = absurd (none_rose outs outs_now quiet out.1)

    module _ (put_ends : (p q : PassState) (why : InsertError) → RefusalShows why q.view → Quiet p q → Ends (fault_of_put why)) where
      fails_end : (ps qs : List PassState) (e : JobError) → QuietIn ps qs → FailsFirst contents m rel fork ps qs e → Ends e
      fails_end [] [] e n fails = absurd fails
      fails_end [] (q ∷ qs) e n fails = absurd fails
      fails_end (p ∷ ps) [] e n fails = absurd fails
      fails_end (p ∷ ps) (q ∷ qs) e n (inl (inl x)) = read_ends (tag_of_parts rel fork x.block) p x.before q x.why e x.since x.fault x.refused x.met (n 0 p q refl refl)
      fails_end (p ∷ ps) (q ∷ qs) e n (inl (inr x)) = subst Ends x.fault (put_ends p q x.why x.fails.shows (n 0 p q refl refl))
      fails_end (p ∷ ps) (q ∷ qs) e n (inr later) = fails_end ps qs e (λ w. n (suc w)) later.1

      rewrite_ends : (ps qs : List PassState) (e : JobError) → EndsRewrite contents m rel fork ps qs e → QuietIn ps qs → Ends e
      rewrite_ends ps qs e (inl memory) n = subst Ends (sym memory) memory_ends
      rewrite_ends ps qs e (inr (inl fails)) n = fails_end (workers_in ps) (workers_in qs) e (workers_quiet ps qs n) fails
      rewrite_ends ps qs e (inr (inr last)) n = last_ends ps qs e n last.1

module _ {L G : Type 0} (contents : L → Option Pages) (m : Manager L G) where
  -- where no device fails, a read of a block is a fault only as a page is past the log's end
  read_short : (tag : Tag) (p b q : PassState) (why : ReadError) (e : JobError) → fault_of_refusal why ≡ Some e → ReadingRefused contents m.table tag b q why → q.view.met ≡ met_read_refused why p.view.met
      → NoDeviceFails p q → (lsn : ℕ) × (end : ℕ) × (why ≡ read.LogShort lsn end)
  read_short tag p b q (read.PastEnd block blocks) e is x met n = absurd (cc)
  read_short tag p b q read.PinsFull e is x met n = absurd (cc)
  read_short tag p b q (read.NoUnpinned count) e is x met n = absurd (cc)
  read_short tag p b q (read.ReadFault failed) e is x met n = let more = ap (λ (k : FailedCalls). k.reads) met in let same = ap (λ (k : FailedCalls). k.reads) n.met in absurd (omega arith)
  read_short tag p b q (read.WriteFault failed) e is x met n = let more = ap (λ (k : FailedCalls). k.writes) met in let same = ap (λ (k : FailedCalls). k.writes) n.met in absurd (omega arith)
  read_short tag p b q read.LogFault e is x met n = absurd (not_up q.view (ap (λ (v : View). v.saw_down) x.refused.until ∙ x.refused.tried.answers.1.flush.work.shows) n.up)
  read_short tag p b q (read.LogDown at) e is x met n = absurd (not_up q.view (ap (λ (v : View). v.saw_down) x.refused.until ∙ x.refused.tried.answers.1.flush.work.shows.2) n.up)
  read_short tag p b q (read.LogShort lsn end) e is x met n = (lsn, end, refl)
  read_short tag p b q (read.Unsound failed) e is x met n = absurd (cc)

  -- and where nothing fails it is none
  read_none : (tag : Tag) (p b q : PassState) (why : ReadError) (e : JobError) → OnlyRises p.view b.view → fault_of_refusal why ≡ Some e → ReadingRefused contents m.table tag b q why → q.view.met ≡ met_read_refused why p.view.met
      → NothingFails contents m.table p q → ⊥
  read_none tag p b q why e since is x met n =
      let s = read_short tag p b q why e is x met n.devices in
      let r = subst (ReadingRefused contents m.table tag b q) s.2 x in
      let tried = r.refused.tried in
      let flushes = tried.answers.1 in
      let copies = flushes.flush in
      let shows = copies.work.shows in
      let low = n.within tried.tag tried.named tried.listed copies.page copies.sound shows.4 in
      let first = since.end_seen in
      let later = r.refused.since.end_seen in
      let loaded = tried.since.end_seen in
      let kept = flushes.since.end_seen in
      let at = shows.0 in
      let short = shows.1 in
      let seen = shows.2 in
      omega arith

  -- so it is with the work of the last pass
  work_short : (p q : PassState) (why : FlushError) → RefusesFrame contents m.table p q why → NoDeviceFails p q → (lsn : ℕ) × (end : ℕ) × (why ≡ flush.LogShort lsn end)
  work_short p q (flush.WriteFault tag) x n = let more = ap (λ (k : FailedCalls). k.writes) x.met in let same = ap (λ (k : FailedCalls). k.writes) n.met in absurd (omega arith)
  work_short p q flush.LogFault x n = absurd (not_up q.view x.refused.answer.work.shows n.up)
  work_short p q (flush.LogDown at) x n = absurd (not_up q.view x.refused.answer.work.shows.2 n.up)
  work_short p q (flush.LogShort lsn end) x n = (lsn, end, refl)

  work_none : (p q : PassState) (why : FlushError) → RefusesFrame contents m.table p q why → NothingFails contents m.table p q → ⊥
  work_none p q why x n =
      let s = work_short p q why x n.devices in
      let r = subst (RefusesFrame contents m.table p q) s.2 x in
      let shows = r.refused.answer.work.shows in
      let low = n.within r.refused.tag r.refused.named r.refused.listed r.refused.answer.page r.refused.answer.sound shows.4 in
      let later = r.since.end_seen in
      let at = shows.0 in
      let short = shows.1 in
      let seen = shows.2 in
      omega arith

  -- and a put is refused only as the log is full
  put_full : (p q : PassState) (why : InsertError) → RefusalShows why q.view → NoDeviceFails p q → IsDoneFullOrMemory (Err (fault_of_put why))
  put_full p q (put.LogFull end) shows n = shows.0
  put_full p q (put.LogDown at) shows n = absurd (not_up q.view shows.0 n.up)
  put_full p q put.LogFault shows n = absurd (not_up q.view shows n.up)

  put_full_or_short : (p q : PassState) (why : InsertError) → RefusalShows why q.view → NoDeviceFails p q → IsDoneFullShortOrMemory (Err (fault_of_put why))
  put_full_or_short p q (put.LogFull end) shows n = shows.0
  put_full_or_short p q (put.LogDown at) shows n = absurd (not_up q.view shows.0 n.up)
  put_full_or_short p q put.LogFault shows n = absurd (not_up q.view shows n.up)

  -- the error that a page past the log's end is
  read_short_is : (tag : Tag) (p b q : PassState) (why : ReadError) (e : JobError) → fault_of_refusal why ≡ Some e → ReadingRefused contents m.table tag b q why → q.view.met ≡ met_read_refused why p.view.met
      → NoDeviceFails p q → (lsn : ℕ) × (end : ℕ) × (LogShort lsn end ≡ e)
  read_short_is tag p b q why e is x met n = let s = read_short tag p b q why e is x met n in (s.0, s.1, (let f : Some (LogShort s.0 s.1) ≡ Some e = sym (ap fault_of_refusal s.2) ∙ is in cc))

  work_short_is : (p q : PassState) (e : JobError) → WorkIsRefused contents m p q e → NoDeviceFails p q → (lsn : ℕ) × (end : ℕ) × (LogShort lsn end ≡ e)
  work_short_is p q e x n = let s = work_short p q x.why x.refuses n in (s.0, s.1, sym (ap fault_of_flush s.2) ∙ x.fault)

  module _ (rel : ℕ) (fork : Fork) where
    pub job_complete : (ps qs : List PassState) (outs outs_now : ℕ) (r : Result Totals JobError) → IfErr r (EndsJob contents m rel fork ps qs outs outs_now)
        → NothingFailsIn contents m ps qs → OutIsQuiet outs outs_now → IsDoneOrMemory r
    job_complete ps qs outs outs_now (Ok totals) cause n quiet = tt
    job_complete ps qs outs outs_now (Err e) cause n quiet = job_ends contents m (NothingFails contents m.table) (λ x. IsDoneOrMemory (Err x)) refl
        (λ tag p b q why x since is refused met f. absurd (read_none tag p b q why x since is refused met f))
        (λ p q x w f. absurd (work_none p q w.why w.refuses f))
        rel fork ps qs outs outs_now e cause n quiet

    pub job_short : (ps qs : List PassState) (outs outs_now : ℕ) (r : Result Totals JobError) → IfErr r (EndsJob contents m rel fork ps qs outs outs_now)
        → NoDeviceFailsIn ps qs → OutIsQuiet outs outs_now → IsDoneShortOrMemory r
    job_short ps qs outs outs_now (Ok totals) cause n quiet = tt
    job_short ps qs outs outs_now (Err e) cause n quiet = job_ends contents m NoDeviceFails (λ x. IsDoneShortOrMemory (Err x)) refl
        (λ tag p b q why x since is refused met f. let s = read_short_is tag p b q why x is refused met f in subst (λ (y : JobError). IsDoneShortOrMemory (Err y)) s.2 tt)
        (λ p q x w f. let s = work_short_is p q x w f in subst (λ (y : JobError). IsDoneShortOrMemory (Err y)) s.2 tt)
        rel fork ps qs outs outs_now e cause n quiet

    pub rewrite_complete : (ps qs : List PassState) (r : Result Totals JobError) → IfErr r (EndsRewrite contents m rel fork ps qs) → NothingFailsIn contents m ps qs → IsDoneFullOrMemory r
    rewrite_complete ps qs (Ok totals) cause n = tt
    rewrite_complete ps qs (Err e) cause n = rewrite_ends contents m (NothingFails contents m.table) (λ x. IsDoneFullOrMemory (Err x)) refl
        (λ tag p b q why x since is refused met f. absurd (read_none tag p b q why x since is refused met f))
        (λ p q x w f. absurd (work_none p q w.why w.refuses f))
        rel fork
        (λ p q why shows f. put_full p q why shows f.devices)
        ps qs e cause n

    pub rewrite_short : (ps qs : List PassState) (r : Result Totals JobError) → IfErr r (EndsRewrite contents m rel fork ps qs) → NoDeviceFailsIn ps qs → IsDoneFullShortOrMemory r
    rewrite_short ps qs (Ok totals) cause n = tt
    rewrite_short ps qs (Err e) cause n = rewrite_ends contents m NoDeviceFails (λ x. IsDoneFullShortOrMemory (Err x)) refl
        (λ tag p b q why x since is refused met f. let s = read_short_is tag p b q why x is refused met f in subst (λ (y : JobError). IsDoneFullShortOrMemory (Err y)) s.2 tt)
        (λ p q x w f. let s = work_short_is p q x w f in subst (λ (y : JobError). IsDoneFullShortOrMemory (Err y)) s.2 tt)
        rel fork put_full_or_short ps qs e cause n

  module _ (tags : List Tag) where
    pub load_complete : (ps qs : List PassState) (r : Result Totals JobError) → IfErr r (EndsLoad contents m tags ps qs) → NothingFailsIn contents m ps qs → IsDoneOrMemory r
    load_complete ps qs (Ok totals) cause n = tt
    load_complete ps qs (Err e) cause n = load_ends contents m (NothingFails contents m.table) (λ x. IsDoneOrMemory (Err x)) refl
        (λ tag p b q why x since is refused met f. absurd (read_none tag p b q why x since is refused met f))
        (λ p q x w f. absurd (work_none p q w.why w.refuses f))
        tags ps qs e cause n

    pub load_short : (ps qs : List PassState) (r : Result Totals JobError) → IfErr r (EndsLoad contents m tags ps qs) → NoDeviceFailsIn ps qs → IsDoneShortOrMemory r
    load_short ps qs (Ok totals) cause n = tt
    load_short ps qs (Err e) cause n = load_ends contents m NoDeviceFails (λ x. IsDoneShortOrMemory (Err x)) refl
        (λ tag p b q why x since is refused met f. let s = read_short_is tag p b q why x is refused met f in subst (λ (y : JobError). IsDoneShortOrMemory (Err y)) s.2 tt)
        (λ p q x w f. let s = work_short_is p q x w f in subst (λ (y : JobError). IsDoneShortOrMemory (Err y)) s.2 tt)
        tags ps qs e cause n
