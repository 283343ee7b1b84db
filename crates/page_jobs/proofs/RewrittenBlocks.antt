-- A worker's blocks of a rewrite, one after the other.
use Rattle.std.proofs.Common.{◌≡◌, ◌≤◌, ℕ, List, [], ◌∷◌, ◌++◌, length, Option, Result, Ok, Err, refl, sym, ap, ◌∙◌, subst, arith, append_assoc, inl, inr}
use Rattle.std.specs.Prelude.{OnOk, IfErr}
use Rattle.std.proofs.lemmas.List.{append-nil, length-append}
use Rattle.std.proofs.lemmas.Result.{IfErr-weaker, on_ok_weaker}
use Rattle.block_tag.specs.declared.tag.Fork.{Fork}
use Rattle.block_tag.specs.Names.{tag_of_parts}
use Rattle.page_layout.specs.declared.outcomes.PageRewrite.{PageRewrite}
use Rattle.page_layout.specs.declared.outcomes.RewriteTotals.{RewriteTotals}
use Rattle.page_layout.specs.Outcomes.{IsRewriteWithin, sum_of_rewrite_totals, totals_of_outcomes, with_outcome}
use Rattle.segment_store.specs.Contents.{Pages}
use Rattle.pin_core.specs.declared.view.Call.{Call}
use Rattle.pin_core.specs.declared.view.FailedCalls.{FailedCalls}
use Rattle.pin_core.specs.declared.view.View.{View}
use Rattle.frame_table.specs.Seats.{OnlyRises}
use Rattle.frame_table.proofs.Rising.{rises_none, rises_on}
use Rattle.buffer_frames.specs.Puts.{met_put}
use Rattle.backend_pass.specs.declared.manager.Manager.{Manager}
use Rattle.backend_pass.specs.Managers.{Belongs}
use Rattle.backend_pass.specs.Passes.{PassState}
use Rattle.backend_pass.specs.Reading.{met_read_refused}
use Rattle.backend_pass.proofs.Seated.{but_torn, torn_on}
use Rattle.page_jobs.specs.declared.ending.JobError.{JobError}
use Rattle.page_jobs.specs.declared.ending.JobError.TheVariants.{Memory}
use Rattle.backend_pass.specs.Between.{HasNoTokens}
use Rattle.page_jobs.specs.Rewrites.{AreOf, EachOutcome, IfRead, IsEnded, IsUnput, Outcome, Rule, StopsAtFailure, unsound, kept, refused, changed, outcome_block, outcome_calls, calls_for, outcome_totals, rule_of, result_of}
use Rattle.page_jobs.specs.Rewriting.{AllUnderCleanup, CountsRewrites, EndsRewriteFor, FollowsRule, GoesOn, HoldsUntil, RewritesBlock, RewritesBlocks, RewritesWhole, UnderCleanup}
use Rattle.page_jobs.proofs.BlockRewrites.{reads_since}
use Rattle.page_jobs.proofs.RewriteSums.{rewrites_joined, rewrites_none, with_outcome-is}
use Rattle.page_jobs.proofs.Staying.{stays_none}
use Rattle.page_jobs.proofs.TornBlocks.{torn_both, torn_none}

each_append : (P : Outcome → Type 0) (os us : List Outcome) → EachOutcome P os → EachOutcome P us → EachOutcome P (os ++ us)
each_append P [] us a b = b
each_append P (o ∷ os) us a b = (a.0, each_append P os us a.1 b)

each_split : (P : Outcome → Type 0) (os us : List Outcome) → EachOutcome P (os ++ us) → EachOutcome P os × EachOutcome P us
each_split P [] us a = (tt, a)
each_split P (o ∷ os) us a = let rest = each_split P os us a.1 in ((a.0, rest.0), rest.1)

on_any : {A E : Type 0} (r : Result A E) (F : Type 0) → F → OnOk r F
on_any (Ok a) F x = x
on_any (Err e) F x = tt

-- the outcomes of some blocks, as many as those, and of the blocks after them
of_append : (bs cs : List ℕ) (os us : List Outcome) → AreOf bs os → AreOf cs us → length os ≡ length bs → AreOf (bs ++ cs) (os ++ us)
of_append [] cs [] us a b long = b
of_append [] cs (o ∷ os) us a b long = absurd a
of_append (block ∷ bs) cs [] us a b long = absurd (omega arith)
of_append (block ∷ bs) cs (o ∷ os) us a b long = (a.0, of_append bs cs os us a.1 b (omega arith))

of_more : (bs cs : List ℕ) (os : List Outcome) → AreOf bs os → AreOf (bs ++ cs) os
of_more bs cs [] a = tt
of_more [] cs (o ∷ os) a = absurd a
of_more (block ∷ bs) cs (o ∷ os) a = (a.0, of_more bs cs os a.1)

-- a block has one outcome at most
pub of_few : (bs : List ℕ) (os : List Outcome) → AreOf bs os → length os ≤ length bs
of_few bs [] a = omega arith
of_few [] (o ∷ os) a = absurd a
of_few (block ∷ bs) (o ∷ os) a = let rest = of_few bs os a.1 in omega arith

calls_for-append : (r : Rule) (os us : List Outcome) → calls_for r (os ++ us) ≡ calls_for r os ++ calls_for r us
calls_for-append r [] us = refl
calls_for-append r (o ∷ os) us = ap (λ (l : List Call). outcome_calls r o ++ l) (calls_for-append r os us) ∙ sym (append_assoc (outcome_calls r o) (calls_for r os) (calls_for r us))

stops_later : (os us : List Outcome) → EachOutcome IsEnded os → StopsAtFailure us → StopsAtFailure (os ++ us)
stops_later [] us ended stops = stops
stops_later (o ∷ os) us ended stops = (inl ended.0, stops_later os us ended.1 stops)

if_read : (o : Outcome) (P Q : Type 0) → (P → Q) → IfRead o P → IfRead o Q
if_read (unsound b) P Q f x = tt
if_read (kept b i p n) P Q f x = f x
if_read (refused b i p n) P Q f x = f x
if_read (changed b i p n m) P Q f x = f x

holds_wider : (frame : ℕ) (calls : List Call) (v w x : View) → HoldsUntil frame calls v w → OnlyRises w x → HoldsUntil frame calls v x
holds_wider frame calls v w x h more = record { done = h.done; since = h.since; calls_are = h.calls_are; held = h.held; until = rises_on h.done w x h.until more }

-- a lock that was taken between two views was taken between two that are farther apart
under_wider : (number packed : ℕ) (before after : List Call) (u v w x : View) → OnlyRises u v → OnlyRises w x → UnderCleanup number packed before after v w → UnderCleanup number packed before after u x
under_wider number packed before after u v w x earlier later h = record { frame = h.frame; asked = h.asked; granted = h.granted; since = rises_on u v h.asked earlier h.since; grants = h.grants; tagged = h.tagged; calls_are = h.calls_are; until = holds_wider h.frame after h.granted w x h.until later }

all_wider : (r : Rule) (number : ℕ) (u v w x : View) → OnlyRises u v → OnlyRises w x → (calls : List Call) (os : List Outcome) → AllUnderCleanup r number v w calls os → AllUnderCleanup r number u x calls os
all_wider r number u v w x earlier later calls [] all = tt
all_wider r number u v w x earlier later calls (o ∷ os) all = (
  if_read o _ _ (under_wider number (r.tag (outcome_block o)) calls (calls ++ outcome_calls r o) u v w x earlier later) all.0,
  all_wider r number u v w x earlier later (calls ++ outcome_calls r o) os all.1,
)

under_on : (r : Rule) (number : ℕ) (u v w : View) → OnlyRises u v → OnlyRises v w → (calls : List Call) (os us : List Outcome) → AllUnderCleanup r number u v calls os → AllUnderCleanup r number v w (calls ++ calls_for r os) us → AllUnderCleanup r number u w calls (os ++ us)
under_on r number u v w earlier later calls [] us a b = all_wider r number u v w w earlier (rises_none w) calls us (subst (λ (l : List Call). AllUnderCleanup r number v w l us) (append-nil calls) b)
under_on r number u v w earlier later calls (o ∷ os) us a b = (
  if_read o _ _ (under_wider number (r.tag (outcome_block o)) calls (calls ++ outcome_calls r o) u u v w (rises_none u) later) a.0,
  under_on r number u v w earlier later (calls ++ outcome_calls r o) os us a.1 (subst (λ (l : List Call). AllUnderCleanup r number v w l us) (sym (append_assoc calls (outcome_calls r o) (calls_for r os))) b),
)

module _ {L G : Type 0} (contents : L → Option Pages) (m : Manager L G) (rel : ℕ) (fork : Fork) where
  goes_none : (p : PassState) → Belongs contents m p → GoesOn contents m p p
  goes_none p b = record { belongs = b; same = but_torn p p (stays_none contents m p b).same; front = omega arith }

  goes_on : (p q r : PassState) → GoesOn contents m p q → GoesOn contents m q r → GoesOn contents m p r
  goes_on p q r a b = record { belongs = b.belongs; same = torn_on p q r a.same b.same; front = let x = a.front in let y = b.front in omega arith }

  -- no block was dealt with
  pub blocks_none : (bs : List ℕ) (p : PassState) → HasNoTokens contents m p → RewritesBlocks contents m rel fork bs [] p p
  blocks_none bs p free = record {
    goes = goes_none p free.belongs;
    spent = free.spent;
    locks = λ f. refl;
    mark = λ unput. refl;
    torn = torn_none (rule_of rel fork) [] p.view.torn p.view.torn refl;
    calls = sym (append-nil p.view.calls);
    order = tt;
    follow = tt;
    stopped = tt;
    locked = tt;
  }

  -- none was to be dealt with, and maybe there was no memory
  pub rewrites_nothing : (p : PassState) (t : RewriteTotals) (end : Result Unit JobError) → HasNoTokens contents m p → IsRewriteWithin t t.blocks → IfErr end (λ e. e ≡ Memory) → CountsRewrites contents m rel fork [] p p t t end
  rewrites_nothing p t end free within cause = let none = blocks_none [] p free in record {
    outcomes = [];
    course = none;
    within = within;
    few = omega arith;
    whole = on_any end (RewritesWhole contents m rel fork [] [] p p) record { course = none; whole = refl; ended = tt; met = refl };
    totals = on_any end (t ≡ sum_of_rewrite_totals t (outcome_totals [])) (sym (rewrites_none t));
    cause = IfErr-weaker end (λ e. e ≡ Memory) (EndsRewriteFor contents m rel fork p p) (λ e x. inl (x, refl)) cause;
  }

  ends_since : (p q r : PassState) (e : JobError) (made : List Call) → GoesOn contents m p q → q.view.calls ≡ p.view.calls ++ made → EndsRewriteFor contents m rel fork q r e → q.view.met ≡ p.view.met → EndsRewriteFor contents m rel fork p r e
  ends_since p q r e made goes calls (inl memory) met = inl (memory.0, memory.1 ∙ met)
  ends_since p q r e made goes calls (inr (inl x)) met = inr (inl record {
    block = x.block;
    inside = x.inside;
    why = x.why;
    fault = x.fault;
    before = x.before;
    since = rises_on p.view q.view x.before.view goes.same.keeps.advances x.since;
    refused = x.refused;
    last = x.last;
    met = x.met ∙ ap (λ (n : FailedCalls). met_read_refused x.why n) met;
  })
  ends_since p q r e made goes calls (inr (inr x)) met = inr (inr record {
    block = x.block;
    inside = x.inside;
    why = x.why;
    fault = x.fault;
    fails = let f = x.fails in record {
      frame = f.frame;
      page = f.page;
      before = f.before;
      after = f.after;
      since = rises_on p.view q.view f.before.view goes.same.keeps.advances f.since;
      refuses = f.refuses;
      until = f.until;
      met = f.met ∙ ap (λ (n : FailedCalls). met_put (Err x.why) n) met;
      shows = f.shows;
      was = f.was;
      changes = f.changes;
      reads = reads_since p.view.number q.view.number (tag_of_parts rel fork x.block) f.was p.view.calls made q.view.calls r.view.calls goes.same.keeps.number calls f.reads;
    };
  })

  -- some blocks after the others
  blocks_on : (bs cs : List ℕ) (os us : List Outcome) (p q r : PassState) → RewritesBlocks contents m rel fork bs os p q → RewritesBlocks contents m rel fork cs us q r → length os ≡ length bs → EachOutcome IsEnded os → RewritesBlocks contents m rel fork (bs ++ cs) (os ++ us) p r
  blocks_on bs cs os us p q r a b long ended = record {
    goes = goes_on p q r a.goes b.goes;
    spent = b.spent;
    locks = λ f. b.locks f ∙ a.locks f;
    mark = λ unput. let both = each_split IsUnput os us unput in b.mark both.1 ∙ a.mark both.0;
    torn = torn_both (rule_of rel fork) os us p.view.torn q.view.torn r.view.torn a.torn b.torn;
    calls = b.calls
        ∙ ap (λ (l : List Call). l ++ calls_for (rule_of rel fork) us) a.calls
        ∙ append_assoc p.view.calls (calls_for (rule_of rel fork) os) (calls_for (rule_of rel fork) us)
        ∙ ap (λ (l : List Call). p.view.calls ++ l) (sym (calls_for-append (rule_of rel fork) os us));
    order = of_append bs cs os us a.order b.order long;
    follow = each_append (FollowsRule contents m rel fork p.view.number) os us a.follow (subst (λ (n : ℕ). EachOutcome (FollowsRule contents m rel fork n) us) a.goes.same.keeps.number b.follow);
    stopped = stops_later os us ended b.stopped;
    locked = under_on (rule_of rel fork) p.view.number p.view q.view r.view a.goes.same.keeps.advances b.goes.same.keeps.advances p.view.calls os us a.locked
        (subst (λ (n : ℕ). AllUnderCleanup (rule_of rel fork) n q.view r.view (p.view.calls ++ calls_for (rule_of rel fork) os) us) a.goes.same.keeps.number
        (subst (λ (l : List Call). AllUnderCleanup (rule_of rel fork) q.view.number q.view r.view l us) a.calls b.locked));
  }

  -- so it is counted; the first blocks, which ended well, have an outcome each
  pub rewrites_past : (bs cs : List ℕ) (p q r : PassState) (t u v : RewriteTotals) (end : Result Unit JobError) → CountsRewrites contents m rel fork bs p q t u (Ok tt) → CountsRewrites contents m rel fork cs q r u v end
      → (d : CountsRewrites contents m rel fork (bs ++ cs) p r t v end) × (length bs ≤ length d.outcomes)
  rewrites_past bs cs p q r t u v end a b =
      let w = a.whole in
      let l = length-append a.outcomes b.outcomes in
      let k = length-append bs cs in
      let both = blocks_on bs cs a.outcomes b.outcomes p q r a.course b.course w.whole w.ended in (
        record {
          outcomes = a.outcomes ++ b.outcomes;
          course = both;
          within = b.within;
          few = let x = a.few in let y = b.few in omega (arith, l, x, y);
          whole = on_ok_weaker end (λ (d : RewritesWhole contents m rel fork cs b.outcomes q r). record { course = both; whole = (let x = d.whole in let y = w.whole in omega (arith, l, k, x, y)); ended = each_append IsEnded a.outcomes b.outcomes w.ended d.ended; met = d.met ∙ w.met }) b.whole;
          totals = on_ok_weaker end (λ d. rewrites_joined t u v a.outcomes b.outcomes a.totals d) b.totals;
          cause = IfErr-weaker end (EndsRewriteFor contents m rel fork q r) (EndsRewriteFor contents m rel fork p r) (λ e x. ends_since p q r e (calls_for (rule_of rel fork) a.outcomes) a.course.goes a.course.calls x w.met) b.cause;
        },
        (let y = w.whole in omega (arith, l, y)),
      )

  pub rewrites_on : (bs cs : List ℕ) (p q r : PassState) (t u v : RewriteTotals) (end : Result Unit JobError) → CountsRewrites contents m rel fork bs p q t u (Ok tt) → CountsRewrites contents m rel fork cs q r u v end → CountsRewrites contents m rel fork (bs ++ cs) p r t v end
  rewrites_on bs cs p q r t u v end a b = (rewrites_past bs cs p q r t u v end a b).0

  blocks_wider : (bs cs : List ℕ) (os : List Outcome) (p q : PassState) → RewritesBlocks contents m rel fork bs os p q → RewritesBlocks contents m rel fork (bs ++ cs) os p q
  blocks_wider bs cs os p q a = record { goes = a.goes; spent = a.spent; locks = a.locks; mark = a.mark; torn = a.torn; calls = a.calls; order = of_more bs cs os a.order; follow = a.follow; stopped = a.stopped; locked = a.locked }

  -- where it ended at one of the first blocks it ended at one of all
  pub rewrites_wider : (bs cs : List ℕ) (p q : PassState) (t u : RewriteTotals) (e : JobError) → CountsRewrites contents m rel fork bs p q t u (Err e) → CountsRewrites contents m rel fork (bs ++ cs) p q t u (Err e)
  rewrites_wider bs cs p q t u e a = record { outcomes = a.outcomes; course = blocks_wider bs cs a.outcomes p q a.course; within = a.within; few = a.few; whole = tt; totals = tt; cause = a.cause }

  told_one : (what : PageRewrite) (os : List Outcome) → length os ≡ 1 → EachOutcome (λ o. (what ≡ result_of o) × IsEnded o) os → (outcome_totals os ≡ totals_of_outcomes (what ∷ [])) × EachOutcome IsEnded os
  told_one what [] one each = absurd (omega arith)
  told_one what (o ∷ []) one each = (ap (λ (w : PageRewrite). totals_of_outcomes (w ∷ [])) (sym each.0.0), (each.0.1, tt))
  told_one what (o ∷ u ∷ os) one each = absurd (omega arith)

  -- a block
  pub block_counts : (block : ℕ) (p q : PassState) (t u : RewriteTotals) (what : PageRewrite) → RewritesBlock contents m rel fork block p q (Ok what) → u ≡ with_outcome t what → IsRewriteWithin u u.blocks → CountsRewrites contents m rel fork (block ∷ []) p q t u (Ok tt)
  block_counts block p q t u what x total within =
      let told = told_one what x.outcomes x.done.0 x.done.1 in
      let sum = total ∙ with_outcome-is t what in
      record {
        outcomes = x.outcomes;
        course = x.course;
        within = within;
        few = let more = ap (λ (y : RewriteTotals). y.blocks) sum in let one = x.done.0 in omega arith;
        whole = record { course = x.course; whole = x.done.0; ended = told.1; met = x.done.2 };
        totals = sum ∙ ap (λ (y : RewriteTotals). sum_of_rewrite_totals t y) (sym told.0);
        cause = tt;
      }
