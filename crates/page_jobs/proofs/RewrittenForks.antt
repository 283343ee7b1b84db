-- What a rewrite of a fork comes to, once its workers have ended.
use Rattle.std.proofs.Common.{◌≡◌, ℕ, ◌+◌, ◌<◌, ◌≤◌, ◌⊎◌, ◌^◌, true, List, [], ◌∷◌, ◌++◌, length, map, Option, Result, Ok, Err, sym, ap, ◌∙◌, subst, arith}
use Rattle.std.specs.Prelude.{IfErr, IfOk, OnOk}
use Rattle.std.proofs.lemmas.List.{length-append}
use Rattle.block_tag.specs.declared.tag.Fork.{Fork}
use Rattle.block_tag.specs.Names.{names_block, tag_of_parts}
use Rattle.page_layout.specs.declared.outcomes.RewriteTotals.{RewriteTotals}
use Rattle.page_layout.specs.Outcomes.{IsRewriteWithin}
use Rattle.segment_store.specs.Contents.{Pages}
use Rattle.chunk_claims.specs.Claims.{sum_below}
use Rattle.backend_pass.specs.declared.manager.Manager.{Manager}
use Rattle.backend_pass.specs.Passes.{PassState}
use Rattle.page_jobs.specs.declared.ending.JobError.{JobError}
use Rattle.page_jobs.specs.declared.ending.Totals.{Totals}
use Rattle.page_jobs.specs.declared.rewriting.Rewriter.{Rewriter}
use Rattle.page_jobs.specs.declared.running.Ran.{Ran}
use Rattle.page_jobs.specs.declared.working.Worker.{Worker}
use Rattle.page_jobs.specs.Beside.{LastDid, StaysBeside}
use Rattle.page_jobs.specs.Chunks.{Claimed}
use Rattle.page_jobs.specs.Dealt.{AllDone, EndsFirst, HasRun, total_drawn}
use Rattle.page_jobs.specs.Ending.{totals_of_rewrite}
use Rattle.page_jobs.specs.Jobs.{HaveNoTokens, workers_in}
use Rattle.page_jobs.specs.Parts.{blocks_in}
use Rattle.page_jobs.specs.Relations.{MeetNothing}
use Rattle.page_jobs.specs.Rewriters.{AreRewritesCounted, rewritten_totals}
use Rattle.page_jobs.specs.RewriteJobs.{EndsRewrite, RewriteParts, RewritesFork}
use Rattle.page_jobs.specs.Rewrites.{Outcome}
use Rattle.page_jobs.specs.Working.{CanBegin}
use Rattle.page_jobs.proofs.BesideWork.{done_met, last_did, ends_rewrite, job_met, last_stays, rewrites_met}
use Rattle.page_jobs.proofs.Deals.{free_front, workers_before}
use Rattle.page_jobs.proofs.RewriteSums.{none_within}
use Rattle.page_jobs.proofs.RewrittenChunks.{DoRewrites, do_rewrites, rewriter_begins, rewrites_block, rewrites_closes}
use Rattle.page_jobs.proofs.RewriteWorkers.{rewrite_cause, rewrite_done, rewrite_parts, rewrites_counted, rewrites_few, workers_long}

-- the task of a worker that begins can count the blocks of any fork
pub rewriter_fits : (k : Rewriter) → rewriter_begins k → CanBegin (λ (l : Rewriter) (n : ℕ). IsRewriteWithin l.totals l.totals.blocks × (l.totals.blocks + n ≤ 2 ^ 32)) k
rewriter_fits k begins n few = let none = ap (λ (t : RewriteTotals). t.blocks) begins in (none_within k.totals begins, omega (arith, none, few))

-- What a rewrite comes to, with this end
pub record ComesTo {L G : Type 0} (contents : L → Option Pages) (m : Manager L G) (rel : ℕ) (fork : Fork) (did : PassState → PassState → Type 0) (ps qs : List PassState) (end : Result Totals JobError) : Type 0 where
  pub passes : RewriteParts contents m rel fork (workers_in ps) (workers_in qs)
  pub last : StaysBeside contents m ps qs
  pub met : OnOk end (MeetNothing ps qs)
  pub beside : OnOk end (LastDid did ps qs)
  pub done : IfOk end (RewritesFork contents m rel fork (workers_in ps) (workers_in qs))
  pub cause : IfErr end (EndsRewrite contents m rel fork ps qs)

module _ {L G : Type 0} (contents : L → Option Pages) (m : Manager L G) (rel : ℕ) (fork : Fork) (did : PassState → PassState → Type 0) (all : List PassState) (ran : Ran Rewriter)
    (many : 2 ≤ length all) (free : HaveNoTokens contents m all) (named : (block : ℕ) → block < blocks_in m rel fork → names_block (tag_of_parts rel fork block) ≡ true)
    (h : HasRun contents m (blocks_in m rel fork) (rewrites_block contents m rel fork) rewrites_closes rewriter_begins did all ran) where
  long : length all ≡ length h.before + 1
  long = ap length h.split ∙ length-append h.before (h.last ∷ [])

  several : 0 < length h.before
  several = let l = long in omega (arith, l, many)

  before : workers_in all ≡ h.before
  before = workers_before all h.before h.last h.split

  -- The workers as they are handed to the end of the rewrite
  module _ (xs : List (Worker Rewriter)) (same : xs ≡ ran.workers.items) where
    did_claim : (cs : List (Claimed Outcome)) × DoRewrites contents m rel fork (blocks_in m rel fork) h.before xs cs
    did_claim = subst (λ (l : List (Worker Rewriter)). (cs : List (Claimed Outcome)) × DoRewrites contents m rel fork (blocks_in m rel fork) h.before l cs) (sym same)
        (do_rewrites contents m rel fork (blocks_in m rel fork) h.before ran.workers.items (free_front contents m h.before (h.last ∷ []) (subst (HaveNoTokens contents m) h.split free)) h.done)

    pub some_work : 0 < length xs
    some_work = let d = did_claim in let l = workers_long contents m rel fork (blocks_in m rel fork) h.before xs d.0 d.1 in let more = several in omega (arith, l, more)

    pub in_range : AreRewritesCounted xs
    in_range = let d = did_claim in rewrites_counted contents m rel fork (blocks_in m rel fork) h.before xs d.0 d.1

    pub fewest : length all ≤ 64 → (rewritten_totals xs).blocks ≤ 1099511627776
    fewest limit = let d = did_claim in let few = rewrites_few contents m rel fork (blocks_in m rel fork) h.before xs d.0 h.few d.1 in let l = long in omega (arith, few, l, limit)

    -- and the passes that are given back, with seats that drew the numbers below one, each once
    module _ (qs : List PassState) (back : qs ≡ map (λ (x : Worker Rewriter). x.pass) ran.workers.items ++ ran.last ∷ []) (once : (word : ℕ) × ((g : ℕ → ℕ) → total_drawn g ran.workers.items ≡ sum_below word g)) where
      abbrev ended : List PassState
      ended = map (λ (x : Worker Rewriter). x.pass) xs

      back_is : qs ≡ ended ++ ran.last ∷ []
      back_is = back ∙ ap (λ (l : List (Worker Rewriter)). map (λ (x : Worker Rewriter). x.pass) l ++ ran.last ∷ []) (sym same)

      after : workers_in qs ≡ ended
      after = workers_before qs ended ran.last back_is

      drawn_once : (g : ℕ → ℕ) → total_drawn g xs ≡ sum_below once.0 g
      drawn_once g = ap (total_drawn g) same ∙ once.1 g

      parts_in : RewriteParts contents m rel fork h.before ended
      parts_in = let d = did_claim in rewrite_parts contents m rel fork h.before xs d.0 d.1 once.0 drawn_once named

      rewritten : RewriteParts contents m rel fork (workers_in all) (workers_in qs)
      rewritten = subst (λ (l : List PassState). RewriteParts contents m rel fork l (workers_in qs)) (sym before) (subst (RewriteParts contents m rel fork h.before) (sym after) parts_in)

      module _ (r : Result Totals JobError) (ok : IfOk r (λ totals. (totals ≡ totals_of_rewrite (rewritten_totals xs)) × AllDone xs)) (beside : OnOk r (ran.beside_end ≡ Ok tt))
          (cause : IfErr r (λ e. EndsFirst e xs ⊎ (AllDone xs × (ran.beside_end ≡ Err e)))) where
        whole_in : IfOk r (RewritesFork contents m rel fork h.before ended)
        whole_in = let d = did_claim in rewrite_done contents m rel fork h.before xs d.0 d.1 once.0 drawn_once several r ok

        whole : IfOk r (RewritesFork contents m rel fork (workers_in all) (workers_in qs))
        whole = subst (λ (l : List PassState). IfOk r (RewritesFork contents m rel fork l (workers_in qs))) (sym before) (subst (λ (l : List PassState). IfOk r (RewritesFork contents m rel fork h.before l)) (sym after) whole_in)

        ends : IfErr r (EndsRewrite contents m rel fork all qs)
        ends = let d = did_claim in ends_rewrite contents m all qs h.before ended h.last ran.last h.split back_is parts_in.counted rel fork r
            (rewrite_cause contents m rel fork h.before xs d.0 d.1 once.0 drawn_once several h.last ran.last ran.beside_end h.beside r cause)

        pub comes_to : ComesTo contents m rel fork did all qs r
        comes_to = record {
          passes = rewritten;
          last = last_stays contents m all qs h.before ended h.last ran.last h.split back_is parts_in.counted h.beside.works;
          met = job_met contents m all qs h.before ended h.last ran.last h.split back_is parts_in.counted r
              (rewrites_met contents m rel fork h.before ended r whole_in) (done_met r ran.beside_end (ran.last.view.met ≡ h.last.view.met) beside h.beside.met);
          beside = last_did contents m all qs h.before ended h.last ran.last h.split back_is parts_in.counted did r (done_met r ran.beside_end (did h.last ran.last) beside h.did_beside);
          done = whole;
          cause = ends;
        }
