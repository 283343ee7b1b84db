-- What the last pass did beside the workers.
use Rattle.std.proofs.Common.{◌≡◌, ℕ, zero, suc, ◌-◌, ◌⊎◌, true, List, [], ◌∷◌, ◌++◌, length, Option, Result, Ok, Err, refl, sym, ap, ◌∙◌, subst, inl, inr, arith}
use Rattle.std.specs.Prelude.{IfErr, IfOk, OnOk}
use Rattle.std.proofs.lemmas.List.{length-append}
use mathlib.Core.Option.{some, some-injective, some-ne-none}
use lib.ListN.{get_elem?}
use Rattle.block_tag.specs.declared.tag.Fork.{Fork}
use Rattle.byte_devices.specs.Faults.{Rose}
use Rattle.segment_store.specs.Contents.{Pages}
use Rattle.backend_pass.specs.declared.errors.FlushError.{FlushError}
use Rattle.backend_pass.specs.declared.errors.FlushError.TheVariants as flush
use Rattle.backend_pass.specs.declared.manager.Manager.{Manager}
use Rattle.backend_pass.specs.FrameFlushes.{RefusesFrame}
use Rattle.backend_pass.specs.Managers.{Belongs}
use Rattle.backend_pass.specs.Passes.{PassState}
use Rattle.backend_pass.proofs.Keeping.{callers_none}
use Rattle.grid.proofs.Lists.{at_last}
use Rattle.page_jobs.specs.declared.ending.JobError.{JobError}
use Rattle.page_jobs.specs.declared.ending.JobError.TheVariants.{LogDown, Memory, OutFault}
use Rattle.page_jobs.specs.declared.ending.Totals.{Totals}
use Rattle.page_jobs.specs.Beside.{LastDid, LastIsRefused, StaysBeside, WorkIsRefused, WorksBeside, fault_of_flush}
use Rattle.page_jobs.specs.Jobs.{AnyMeets, EndsJob, HaveNoTokens, ReadsAll, workers_in}
use Rattle.backend_pass.specs.Between.{HasNoTokens}
use Rattle.page_jobs.specs.Relations.{MeetNothing}
use Rattle.page_jobs.specs.RewriteJobs.{EndsRewrite, FailsFirst, RewritesFork}
use Rattle.page_jobs.proofs.Deals.{less_one, workers_before}
use Rattle.page_jobs.proofs.Staying.{same_none}
use Rattle.table_rule.proofs.Opens.{length_low, there_at}

-- each pass of them
pub free_at : {L G : Type 0} (contents : L → Option Pages) (m : Manager L G) (ps : List PassState) (w : ℕ) (p : PassState) → HaveNoTokens contents m ps → get_elem? ps w ≡ some p → HasNoTokens contents m p
free_at contents m [] w p free at = absurd (some-ne-none p (sym at))
free_at contents m (x ∷ ps) zero p free at = subst (HasNoTokens contents m) (some-injective x p at) free.0
free_at contents m (x ∷ ps) (suc w) p free at = free_at contents m ps w p free.1 at

last_of : (all ps : List PassState) (p : PassState) → all ≡ ps ++ p ∷ [] → get_elem? all (length all - 1) ≡ some p
last_of all ps p e =
    ap (λ (l : List PassState). get_elem? l (length l - 1)) e
    ∙ ap (λ (n : ℕ). get_elem? (ps ++ p ∷ []) n) (less_one ps p)
    ∙ at_last ps p

meet_nothing : (p q : PassState) → q.view.met ≡ p.view.met → (ps qs : List PassState) → length qs ≡ length ps → MeetNothing ps qs → MeetNothing (ps ++ p ∷ []) (qs ++ q ∷ [])
meet_nothing p q same [] [] long met zero x y at there =
    ap (λ (z : PassState). z.view.met) (sym (some-injective q y there)) ∙ same ∙ ap (λ (z : PassState). z.view.met) (some-injective p x at)
meet_nothing p q same [] [] long met (suc w) x y at there = absurd (some-ne-none x (sym at))
meet_nothing p q same [] (b ∷ qs) long met w x y at there = absurd (omega arith)
meet_nothing p q same (a ∷ ps) [] long met w x y at there = absurd (omega arith)
meet_nothing p q same (a ∷ ps) (b ∷ qs) long met zero x y at there = met zero x y at there
meet_nothing p q same (a ∷ ps) (b ∷ qs) long met (suc w) x y at there = meet_nothing p q same ps qs (omega arith) (λ i. met (suc i)) w x y at there

-- what holds where the work ended well holds where the job did
pub done_met : {A : Type 0} (r : Result A JobError) (end : Result Unit JobError) (F : Type 0) → OnOk r (end ≡ Ok tt) → OnOk end F → OnOk r F
done_met (Ok a) end F ok met = subst (λ (e : Result Unit JobError). OnOk e F) ok met
done_met (Err e) end F ok met = tt

module _ {L G : Type 0} (contents : L → Option Pages) (m : Manager L G) where
  pub beside_none : (p : PassState) → Belongs contents m p → WorksBeside contents m p p
  beside_none p b = record { belongs = b; same = same_none p; callers = callers_none p; mark = refl }

  -- where no work began
  pub stays_none : (ps : List PassState) → HaveNoTokens contents m ps → StaysBeside contents m ps ps
  stays_none ps free = record {
    counted = refl;
    last = λ p q at there. subst (WorksBeside contents m p) (some-injective p q (sym at ∙ there)) (beside_none p (free_at contents m ps (length ps - 1) p free at).belongs);
  }

  shows_down : (why : FlushError) (at : ℕ) (p q : PassState) → RefusesFrame contents m.table p q why → fault_of_flush why ≡ LogDown at → q.view.saw_down ≡ true
  shows_down (flush.WriteFault tag) at p q r e = absurd (cc)
  shows_down flush.LogFault at p q r e = absurd (cc)
  shows_down (flush.LogDown end) at p q r e = r.refused.answer.work.shows.2
  shows_down (flush.LogShort lsn end) at p q r e = absurd (cc)

  pub work_is_refused : (why : FlushError) (e : JobError) (p q : PassState) → RefusesFrame contents m.table p q why → e ≡ fault_of_flush why → WorkIsRefused contents m p q e
  work_is_refused why e p q r is = record { why = why; fault = sym is; refuses = r; down = λ at said. shows_down why at p q r (sym is ∙ said) }

  pub reads_met : (rel : ℕ) (fork : Fork) (ps qs : List PassState) (r : Result Totals JobError) → IfOk r (ReadsAll contents m rel fork ps qs) → OnOk r (MeetNothing ps qs)
  reads_met rel fork ps qs (Ok totals) reads = λ w x y at after.
      let below = length_low ps w x at in
      let long = reads.listed in
      let c = there_at reads.claimed w (omega arith) in
      (reads.each w x y c.0 at after c.1).met
  reads_met rel fork ps qs (Err e) reads = tt

  pub rewrites_met : (rel : ℕ) (fork : Fork) (ps qs : List PassState) (r : Result Totals JobError) → IfOk r (RewritesFork contents m rel fork ps qs) → OnOk r (MeetNothing ps qs)
  rewrites_met rel fork ps qs (Ok totals) whole = λ w x y at after.
      let below = length_low ps w x at in
      let long = whole.listed in
      let claimed = there_at whole.claimed w (omega arith) in
      (whole.each w x y claimed.0 at after claimed.1).met
  rewrites_met rel fork ps qs (Err e) whole = tt

  module _ (all all' ps qs : List PassState) (p q : PassState) (before : all ≡ ps ++ p ∷ []) (after : all' ≡ qs ++ q ∷ []) (long : length qs ≡ length ps) where
    as_many : length all' ≡ length all
    as_many =
        let a = ap length before ∙ length-append ps (p ∷ []) in
        let b = ap length after ∙ length-append qs (q ∷ []) in
        omega arith

    was_last : get_elem? all (length all - 1) ≡ some p
    was_last = last_of all ps p before

    is_last : get_elem? all' (length all - 1) ≡ some q
    is_last = ap (λ (n : ℕ). get_elem? all' (n - 1)) (sym as_many) ∙ last_of all' qs q after

    pub last_stays : WorksBeside contents m p q → StaysBeside contents m all all'
    last_stays w = record {
      counted = as_many;
      last = λ x y at there.
          subst (λ (z : PassState). WorksBeside contents m z y) (some-injective p x (sym was_last ∙ at))
          (subst (λ (z : PassState). WorksBeside contents m p z) (some-injective q y (sym is_last ∙ there)) w);
    }

    all_meet_nothing : MeetNothing ps qs → q.view.met ≡ p.view.met → MeetNothing all all'
    all_meet_nothing met same =
        subst (λ (l : List PassState). MeetNothing l all') (sym before)
        (subst (λ (l : List PassState). MeetNothing (ps ++ p ∷ []) l) (sym after) (meet_nothing p q same ps qs long met))

    pub job_met : {A : Type 0} (r : Result A JobError) → OnOk r (MeetNothing ps qs) → OnOk r (q.view.met ≡ p.view.met) → OnOk r (MeetNothing all all')
    job_met (Ok a) met same = all_meet_nothing met same
    job_met (Err e) met same = tt

    pub last_did : {A : Type 0} (did : PassState → PassState → Type 0) (r : Result A JobError) → OnOk r (did p q) → OnOk r (LastDid did all all')
    last_did did (Ok a) d = λ x y at there. subst (λ (z : PassState). did z y) (some-injective p x (sym was_last ∙ at)) (subst (did p) (some-injective q y (sym is_last ∙ there)) d)
    last_did did (Err e) d = tt

    pub last_refused : (e : JobError) → WorkIsRefused contents m p q e → LastIsRefused contents m all all' e
    last_refused e r = record { before = p; after = q; was = was_last; is = is_last; refused = r }

    worked : workers_in all ≡ ps
    worked = workers_before all ps p before

    working : workers_in all' ≡ qs
    working = workers_before all' qs q after

    module _ (rel : ℕ) (fork : Fork) where
      ends_for : (outs outs_now : ℕ) (e : JobError) → (e ≡ Memory) ⊎ (AnyMeets contents m rel fork ps qs e ⊎ (WorkIsRefused contents m p q e ⊎ ((e ≡ OutFault) × Rose outs outs_now)))
          → EndsJob contents m rel fork all all' outs outs_now e
      ends_for outs outs_now e (inl memory) = inl memory
      ends_for outs outs_now e (inr (inl any)) = inr (inl
          (subst (λ (l : List PassState). AnyMeets contents m rel fork l (workers_in all') e) (sym worked)
          (subst (λ (l : List PassState). AnyMeets contents m rel fork ps l e) (sym working) any)))
      ends_for outs outs_now e (inr (inr (inl refused))) = inr (inr (inl (last_refused e refused)))
      ends_for outs outs_now e (inr (inr (inr out))) = inr (inr (inr out))

      pub ends_job : {A : Type 0} (outs outs_now : ℕ) (r : Result A JobError)
          → IfErr r (λ e. (e ≡ Memory) ⊎ (AnyMeets contents m rel fork ps qs e ⊎ (WorkIsRefused contents m p q e ⊎ ((e ≡ OutFault) × Rose outs outs_now))))
          → IfErr r (EndsJob contents m rel fork all all' outs outs_now)
      ends_job outs outs_now (Ok a) c = tt
      ends_job outs outs_now (Err e) c = ends_for outs outs_now e c

      fails_for : (e : JobError) → (e ≡ Memory) ⊎ (FailsFirst contents m rel fork ps qs e ⊎ (((totals : Totals) × RewritesFork contents m rel fork ps qs totals) × WorkIsRefused contents m p q e))
          → EndsRewrite contents m rel fork all all' e
      fails_for e (inl memory) = inl memory
      fails_for e (inr (inl fails)) = inr (inl
          (subst (λ (l : List PassState). FailsFirst contents m rel fork l (workers_in all') e) (sym worked)
          (subst (λ (l : List PassState). FailsFirst contents m rel fork ps l e) (sym working) fails)))
      fails_for e (inr (inr t)) = inr (inr (
        (
          t.0.0,
          subst (λ (l : List PassState). RewritesFork contents m rel fork l (workers_in all') t.0.0) (sym worked)
              (subst (λ (l : List PassState). RewritesFork contents m rel fork ps l t.0.0) (sym working) t.0.1),
        ),
        last_refused e t.1,
      ))

      pub ends_rewrite : {A : Type 0} (r : Result A JobError)
          → IfErr r (λ e. (e ≡ Memory) ⊎ (FailsFirst contents m rel fork ps qs e ⊎ (((totals : Totals) × RewritesFork contents m rel fork ps qs totals) × WorkIsRefused contents m p q e)))
          → IfErr r (EndsRewrite contents m rel fork all all')
      ends_rewrite (Ok a) c = tt
      ends_rewrite (Err e) c = fails_for e c
