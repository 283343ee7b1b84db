-- Backends that only read, once their job is over.
use Rattle.std.proofs.Common.{◌≡◌, ℕ, zero, suc, ◌-◌, ◌<◌, ◌≤◌, ◌⊎◌, false, List, [], ◌∷◌, length, Option, Some, refl, sym, ap, ◌∙◌, subst, inl, inr, ⊎_elim, arith}
use mathlib.Core.Logic.{dite}
use mathlib.Core.Option.{some, some-injective, some-ne-none}
use native.Mathlib.Decide.{dec_le}
use lib.ListN.{get_elem?}
use Rattle.grid.specs.Shape.{total}
use Rattle.block_tag.specs.declared.tag.Fork.{Fork}
use Rattle.block_tag.specs.declared.tag.Tag.{Tag}
use Rattle.segment_store.specs.Contents.{Pages}
use Rattle.pin_core.specs.declared.view.FailedCalls.{FailedCalls}
use Rattle.pin_core.specs.declared.view.View.{View}
use Rattle.history_core.specs.Log.{writes_in}
use Rattle.backend_pass.specs.declared.errors.FlushError.{FlushError}
use Rattle.backend_pass.specs.declared.errors.FlushError.TheVariants as flush
use Rattle.backend_pass.specs.declared.errors.ReadError.{ReadError}
use Rattle.backend_pass.specs.declared.errors.ReadError.TheVariants as read
use Rattle.backend_pass.specs.declared.manager.Manager.{Manager}
use Rattle.backend_pass.specs.Managers.{AreAll, AreNewPasses}
use Rattle.backend_pass.specs.Passes.{PassState}
use Rattle.backend_pass.specs.Between.{CanGoBack, HasNoTokens}
use Rattle.backend_pass.proofs.Between.{all_go_back, goes_back, new_goes_back}
use Rattle.backend_pass.specs.Closing.{EachPass, HasNoMark, PutNothing, met_by_passes}
use Rattle.backend_pass.specs.Reading.{met_read_refused}
use Rattle.backend_pass.proofs.Ended.{writes-both}
use Rattle.page_jobs.specs.declared.ending.JobError.TheVariants.{OutFault, ReadFault}
use Rattle.page_jobs.specs.Printed.{BlockRead, copied, unsound}
use Rattle.page_jobs.specs.Chunks.{Claimed, blocks_in_all}
use Rattle.page_jobs.specs.Parts.{MeetsFault, blocks_in}
use Rattle.page_jobs.specs.Reads.{calls_of_reads, fault_of_refusal}
use Rattle.page_jobs.specs.Beside.{StaysBeside, WorksBeside, fault_of_flush}
use Rattle.page_jobs.specs.Jobs.{AllAtBase, AnyMeets, HaveNoTokens, ReadParts, ReadsChunks, workers_in}
use Rattle.page_jobs.specs.Relations.{MeetNothing}
use Rattle.table_rule.proofs.Opens.{length_low, there_at}
use Rattle.backend_pass.proofs.Standing.{length_front, taken, taken_from}

pub at_base_each : (base : ℕ) (ps : List PassState) → ((i : ℕ) (p : PassState) → get_elem? ps i ≡ some p → p.view.front ≡ base) → AllAtBase base ps
at_base_each base [] each = tt
at_base_each base (p ∷ ps) each = (each 0 p refl, at_base_each base ps (λ i. each (suc i)))

-- reads put nothing
reads_put_nothing : (backend : ℕ) (fork : Fork) (blocks : List ℕ) (rs : List BlockRead) → writes_in (calls_of_reads backend 0 fork blocks rs) ≡ 0
unfolding total
reads_put_nothing backend fork blocks [] = refl
reads_put_nothing backend fork [] (r ∷ rs) = refl
reads_put_nothing backend fork (b ∷ blocks) (copied page place ∷ rs) = omega (arith, reads_put_nothing backend fork blocks rs)
reads_put_nothing backend fork (b ∷ blocks) (unsound ∷ rs) = reads_put_nothing backend fork blocks rs

pub puts_nothing : writes_in [] ≡ 0
unfolding total
puts_nothing = refl

-- a fault of reading that one pass met is met by all in all
met_by_one : (ps : List PassState) (i : ℕ) (p : PassState) → get_elem? ps i ≡ some p → 0 < p.view.met.reads → 0 < (met_by_passes ps).reads
met_by_one [] i p at more = absurd (some-ne-none p (sym at))
met_by_one (q ∷ ps) zero p at more = let same = ap (λ (x : PassState). x.view.met.reads) (some-injective q p at) in omega arith
met_by_one (q ∷ ps) (suc i) p at more = let later = met_by_one ps i p at more in omega arith

met_by_none : (ps : List PassState) → ((i : ℕ) (p : PassState) → get_elem? ps i ≡ some p → p.view.met.reads ≡ 0) → (met_by_passes ps).reads ≡ 0
met_by_none [] each = refl
met_by_none (p ∷ ps) each = let here = each 0 p refl in let later = met_by_none ps (λ i. each (suc i)) in omega arith

met_reads : (why : ReadError) (tag : Tag) (met : FailedCalls) → fault_of_refusal why ≡ Some (ReadFault tag) → 0 < (met_read_refused why met).reads
met_reads (read.PastEnd block blocks) tag met e = absurd (cc)
met_reads read.PinsFull tag met e = absurd (cc)
met_reads (read.NoUnpinned frames) tag met e = absurd (cc)
met_reads (read.ReadFault failed) tag met e = omega arith
met_reads (read.WriteFault failed) tag met e = absurd (cc)
met_reads read.LogFault tag met e = absurd (cc)
met_reads (read.LogDown at) tag met e = absurd (cc)
met_reads (read.LogShort lsn end) tag met e = absurd (cc)
met_reads (read.Unsound failed) tag met e = absurd (cc)

no_output_fault : (why : ReadError) → fault_of_refusal why ≡ Some OutFault → ⊥
no_output_fault (read.PastEnd block blocks) e = cc
no_output_fault read.PinsFull e = cc
no_output_fault (read.NoUnpinned frames) e = cc
no_output_fault (read.ReadFault failed) e = cc
no_output_fault (read.WriteFault failed) e = cc
no_output_fault read.LogFault e = cc
no_output_fault (read.LogDown at) e = cc
no_output_fault (read.LogShort lsn end) e = cc
no_output_fault (read.Unsound failed) e = cc

-- work beside the workers reads nothing and prints nothing
pub work_meets_no_read : (why : FlushError) (tag : Tag) → fault_of_flush why ≡ ReadFault tag → ⊥
work_meets_no_read (flush.WriteFault failed) tag e = cc
work_meets_no_read flush.LogFault tag e = cc
work_meets_no_read (flush.LogDown at) tag e = cc
work_meets_no_read (flush.LogShort lsn end) tag e = cc

pub work_meets_no_output : (why : FlushError) → fault_of_flush why ≡ OutFault → ⊥
work_meets_no_output (flush.WriteFault failed) e = cc
work_meets_no_output flush.LogFault e = cc
work_meets_no_output (flush.LogDown at) e = cc
work_meets_no_output (flush.LogShort lsn end) e = cc

module _ {L G : Type 0} (contents : L → Option Pages) (m : Manager L G) where
  pub free_each : (ps : List PassState) → ((i : ℕ) (p : PassState) → get_elem? ps i ≡ some p → HasNoTokens contents m p) → HaveNoTokens contents m ps
  free_each [] each = tt
  free_each (p ∷ ps) each = (each 0 p refl, free_each ps (λ i. each (suc i)))

  -- What a pass was before a job, in which it worked beside the workers, or was one of them
  pub record CameFrom (ps qs : List PassState) (i : ℕ) (q : PassState) : Type 0 where
    pub before : PassState
    pub at : get_elem? ps i ≡ some before
    pub either : WorksBeside contents m before q ⊎ ((get_elem? (workers_in ps) i ≡ some before) × (get_elem? (workers_in qs) i ≡ some q))

  pub came_back : (ps qs : List PassState) → StaysBeside contents m ps qs → (i : ℕ) (q : PassState) → get_elem? qs i ≡ some q → CameFrom ps qs i q
  came_back ps qs stays i q at = dite (dec_le (suc i) (length ps - 1)) worker beside
    where
      within : i < length ps
      within = let k = length_low qs i q at in let e = stays.counted in omega arith

      worker : suc i ≤ length ps - 1 → CameFrom ps qs i q
      worker below =
          let e = stays.counted in let f = length_front ps in
          let p = there_at (workers_in ps) i (omega arith) in
          record {
            before = p.0;
            at = sym (taken (length ps - 1) i ps (omega arith)) ∙ p.1;
            either = inr (p.1, taken (length qs - 1) i qs (omega arith) ∙ at);
          }

      beside : ¬ (suc i ≤ length ps - 1) → CameFrom ps qs i q
      beside above =
          let w = within in
          let last : length ps - 1 ≡ i = omega arith in
          let p = there_at ps i w in
          record {
            before = p.0;
            at = p.1;
            either = inl (stays.last p.0 q (ap (λ (j : ℕ). get_elem? ps j) last ∙ p.1) (ap (λ (j : ℕ). get_elem? qs j) last ∙ at));
          }

module _ {L G : Type 0} (contents : L → Option Pages) (m : Manager L G) (fork : Fork) where
  -- new passes have no token
  pub new_are_free : (n : ℕ) (ps : List PassState) → AreNewPasses contents m n ps → HaveNoTokens contents m ps
  new_are_free n ps new = free_each contents m ps (λ i p at. (new_goes_back contents m n i p (new.each i p at)).free)

  -- no pass meets a fault of the output
  pub none_meets_output : (ps qs : List PassState) → AnyMeets contents m 0 fork ps qs OutFault → ⊥
  none_meets_output [] qs any = any
  none_meets_output (p ∷ ps) [] any = any
  none_meets_output (p ∷ ps) (q ∷ qs) any = ⊎_elim (λ (h : MeetsFault contents m 0 fork p q OutFault). no_output_fault h.why h.fault) (λ later. none_meets_output ps qs later) any

  read_fault_met : (ps qs : List PassState) (tag : Tag) → AnyMeets contents m 0 fork ps qs (ReadFault tag) → (i : ℕ) × (q : PassState) × (get_elem? qs i ≡ some q) × (0 < q.view.met.reads)
  read_fault_met [] qs tag any = absurd any
  read_fault_met (p ∷ ps) [] tag any = absurd any
  read_fault_met (p ∷ ps) (q ∷ qs) tag any = ⊎_elim
      (λ (h : MeetsFault contents m 0 fork p q (ReadFault tag)). (0, q, refl, subst (λ (x : FailedCalls). 0 < x.reads) (sym h.met) (met_reads h.why tag p.view.met h.fault)))
      (λ later. let f = read_fault_met ps qs tag later in (suc f.0, f.1, f.2, f.3))
      any

  -- new passes have put nothing
  pub new_put_nothing : (n : ℕ) (ps : List PassState) → AreNewPasses contents m n ps → EachPass PutNothing ps
  new_put_nothing n ps new i p at = ap (λ (v : View). writes_in v.calls) (new.each i p at).view ∙ puts_nothing

  pub new_tore_nothing : (n : ℕ) (ps : List PassState) → AreNewPasses contents m n ps → EachPass (λ p. p.view.torn ≡ []) ps
  new_tore_nothing n ps new i p at = ap (λ (v : View). v.torn) (new.each i p at).view

  -- The pass number i of n, which has done nothing but reads
  record HasOnlyRead (n i : ℕ) (q : PassState) : Type 0 where
    given : CanGoBack contents m n i q
    mark : q.view.dirtied_or_synced ≡ false
    puts : writes_in q.view.calls ≡ 0

  module _ (n : ℕ) (ps qs : List PassState) (new : AreNewPasses contents m n ps) (several : 1 < n) (parts : ReadParts contents m 0 fork (workers_in ps) (workers_in qs)) (last : StaysBeside contents m ps qs) where
    as_many : length qs ≡ n
    as_many = last.counted ∙ new.counted

    came_from : (i : ℕ) (q : PassState) → get_elem? qs i ≡ some q → CameFrom contents m ps qs i q
    came_from = came_back contents m ps qs last

    fresh : (i : ℕ) (p : PassState) → get_elem? ps i ≡ some p → HasOnlyRead n i p
    fresh i p at = let h = new.each i p at in record {
      given = new_goes_back contents m n i p h;
      mark = ap (λ (v : View). v.dirtied_or_synced) h.view;
      puts = new_put_nothing n ps new i p at;
    }

    worked : (i : ℕ) (c : Claimed BlockRead) (p q : PassState) → HasOnlyRead n i p → ReadsChunks contents m 0 fork c p q → HasOnlyRead n i q
    worked i c p q h r = record {
      given = goes_back contents m n i p q h.given r.stays.same.keeps r.stays.belongs r.spent;
      mark = r.stays.mark ∙ h.mark;
      puts = let blocks = blocks_in_all (blocks_in m 0 fork) c.chunks in
          let both = writes-both p.view.calls (calls_of_reads p.view.number 0 fork blocks c.items) in
          let none = reads_put_nothing p.view.number fork blocks c.items in
          let before = h.puts in
          ap writes_in r.calls ∙ omega arith;
    }

    stood_by : (i : ℕ) (p q : PassState) → HasOnlyRead n i p → WorksBeside contents m p q → HasOnlyRead n i q
    stood_by i p q h w = record {
      given = goes_back contents m n i p q h.given w.same.keeps w.belongs (w.callers.tokens ∙ h.given.free.spent);
      mark = w.mark ∙ h.mark;
      puts = ap writes_in w.callers.calls.calls ∙ h.puts;
    }

    each : (i : ℕ) (q : PassState) → get_elem? qs i ≡ some q → HasOnlyRead n i q
    each i q at = let c = came_from i q at in ⊎_elim
        (λ (w : WorksBeside contents m c.before q). stood_by i c.before q (fresh i c.before c.at) w)
        (λ (t : (get_elem? (workers_in ps) i ≡ some c.before) × (get_elem? (workers_in qs) i ≡ some q)).
        let long = parts.listed in
        let below = length_low (workers_in ps) i c.before t.0 in
        let claimed = there_at parts.claimed i (omega (arith, long, below)) in
        worked i claimed.0 c.before q (fresh i c.before c.at) (parts.each i c.before q claimed.0 t.0 t.1 claimed.1))
        c.either

    pub all_given : AreAll m qs
    all_given = all_go_back contents m n qs (omega arith) as_many (λ i q at. (each i q at).given)

    pub none_marked : EachPass HasNoMark qs
    none_marked i q at = (each i q at).mark

    pub nothing_put : EachPass PutNothing qs
    nothing_put i q at = (each i q at).puts

    -- where the passes met no more faults of reading than before, none was met
    pub none_met : MeetNothing ps qs → (met_by_passes qs).reads ≡ 0
    none_met met = met_by_none qs (λ i q at. let c = came_from i q at in
        ap (λ (x : FailedCalls). x.reads) (met i c.before q c.at at) ∙ ap (λ (v : View). v.met.reads) (new.each i c.before c.at).view)

    pub fault_met : (tag : Tag) → AnyMeets contents m 0 fork (workers_in ps) (workers_in qs) (ReadFault tag) → 0 < (met_by_passes qs).reads
    fault_met tag any = let f = read_fault_met (workers_in ps) (workers_in qs) tag any in met_by_one qs f.0 f.1 (taken_from (length qs - 1) f.0 qs f.1 f.2) f.3

    pub at_base : (base : ℕ) → EachPass (λ p. p.view.front ≡ base) qs → AllAtBase base (workers_in qs)
    at_base base fronts = at_base_each base (workers_in qs) (λ i p at. fronts i p (taken_from (length qs - 1) i qs p at))
