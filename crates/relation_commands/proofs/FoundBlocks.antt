-- What the passes of a listing found: each block once.
use Rattle.std.proofs.Common.{◌≡◌, ℕ, zero, suc, ◌+◌, ◌-◌, ◌^◌, ◌<◌, ◌≤◌, List, [], ◌∷◌, length, take, Option, Result, Ok, Err, refl, sym, ap, ◌∙◌, arith}
use Rattle.std.specs.Prelude.{OnOk}
use mathlib.Core.Option.{some, some-injective, some-ne-none}
use lib.ListN.{get_elem?}
use Rattle.segment_store.specs.Contents.{Pages}
use Rattle.table_rule.proofs.Opens.{there_at}
use Rattle.io_counts.specs.Counts.{no_io}
use Rattle.io_counts.specs.Found.{AreAllBelowLast, found_of}
use Rattle.io_counts.specs.Sums.{io_shown, sums_of}
use Rattle.io_counts.proofs.Sums.{below_last, found_sum, sums_found}
use Rattle.backend_pass.specs.declared.manager.Manager.{Manager}
use Rattle.backend_pass.specs.Closing.{EachPass}
use Rattle.backend_pass.specs.Counts.{io_in_all}
use Rattle.backend_pass.specs.Managers.{AreNewPasses}
use Rattle.backend_pass.specs.Passes.{PassState}
use Rattle.backend_pass.proofs.CountedWrites.{found_kept}
use Rattle.backend_pass.proofs.Standing.{taken_from}
use Rattle.page_jobs.specs.declared.ending.JobError.{JobError}
use Rattle.page_jobs.specs.declared.ending.Totals.{Totals}
use Rattle.page_jobs.specs.Beside.{StaysBeside}
use Rattle.page_jobs.specs.Jobs.{FoundMoreIn, workers_in}

-- passes that counted nothing found nothing
none_found : (ps : List PassState) → EachPass (λ p. p.io ≡ no_io) ps → found_of (io_in_all ps) ≡ 0
none_found [] none = refl
none_found (p ∷ ps) none =
    let here = ap found_of (none 0 p refl) in
    let later = none_found ps (λ i. none (suc i)) in
    let both = found_sum p.io (io_in_all ps) in
    omega (arith, here, later, both)

-- no pass found more than all together
found_within : (ps : List PassState) (i : ℕ) (p : PassState) → get_elem? ps i ≡ some p → found_of p.io ≤ found_of (io_in_all ps)
found_within [] i p at = absurd (some-ne-none p (sym at))
found_within (x ∷ ps) zero p at =
    let same = ap (λ (y : PassState). found_of y.io) (some-injective x p at) in
    let both = found_sum x.io (io_in_all ps) in
    omega (arith, same, both)
found_within (x ∷ ps) (suc i) p at =
    let later = found_within ps i p at in
    let both = found_sum x.io (io_in_all ps) in
    omega (arith, later, both)

-- what all found is what the last one found, and the others
found_last : (ps : List PassState) (last : ℕ) (p : PassState) → length ps ≡ suc last → get_elem? ps last ≡ some p
    → found_of (io_in_all ps) ≡ found_of (io_in_all (take last ps)) + found_of p.io
found_last [] last p counted at = absurd (some-ne-none p (sym at))
found_last (x ∷ []) zero p counted at =
    let same = ap (λ (y : PassState). found_of y.io) (some-injective x p at) in
    let both = found_sum x.io no_io in
    omega (arith, same, both)
found_last (x ∷ y ∷ ps) zero p counted at = absurd (omega arith)
found_last (x ∷ ps) (suc last) p counted at =
    let rest = found_last ps last p (omega arith) at in
    let all = found_sum x.io (io_in_all ps) in
    let others = found_sum x.io (io_in_all (take last ps)) in
    omega (arith, rest, all, others)

-- the last one found what it had before, which is nothing
added_up : (all workers before was now blocks : ℕ) → all ≡ workers + now → workers ≡ before + blocks → before ≡ 0 → now ≡ was → was ≡ 0 → all ≡ blocks
added_up all workers before was now blocks sum more none same unread = omega arith

module _ {L G : Type 0} (contents : L → Option Pages) (m : Manager L G) (blocks : ℕ) (ps qs : List PassState) (new : AreNewPasses contents m (length ps) ps) (several : 2 ≤ length ps)
    (last : StaysBeside contents m ps qs) where
  none : EachPass (λ p. p.io ≡ no_io) ps
  none i p at = (new.each i p at).io

  -- new passes found each block once, as those that work did so, and the last one read nothing
  all_found : blocks < 2 ^ 32 → FoundMoreIn blocks (workers_in ps) (workers_in qs) → found_of (io_in_all qs) ≡ blocks
  all_found few found =
      let as_many = last.counted in
      let before = none_found (workers_in ps) (λ i p at. none i p (taken_from (length ps - 1) i ps p at)) in
      let most = found.most in
      let below : EachPass (λ q. AreAllBelowLast q.io) (workers_in qs) =
      λ i q at. below_last q.io blocks (let w = found_within (workers_in qs) i q at in omega (arith, w, most, before)) (omega arith) in
      let exact = found.exact below in
      let p = there_at ps (length ps - 1) (omega arith) in
      let q = there_at qs (length qs - 1) (omega (arith, as_many)) in
      let same_place : length qs - 1 ≡ length ps - 1 = ap (λ (n : ℕ). n - 1) as_many in
      let beside = last.last p.0 q.0 p.1 (ap (λ (i : ℕ). get_elem? qs i) (sym same_place) ∙ q.1) in
      let kept : found_of q.0.io ≡ found_of p.0.io = ap found_of (found_kept p.0 q.0 beside.callers.io) in
      let unread = ap found_of (none (length ps - 1) p.0 p.1) in
      let all = found_last qs (length qs - 1) q.0 (omega (arith, as_many)) q.1 in
      added_up (found_of (io_in_all qs)) (found_of (io_in_all (workers_in qs))) (found_of (io_in_all (workers_in ps))) (found_of p.0.io) (found_of q.0.io) blocks all exact before kept unread

  -- so the hits and reads that are shown add up to the blocks
  pub found_shown : (job : Result Totals JobError) (n : ℕ) → blocks < 2 ^ 32 → OnOk job (FoundMoreIn blocks (workers_in ps) (workers_in qs)) → blocks ≡ n
      → OnOk job ((sums_of (io_shown (io_in_all qs))).hits + (sums_of (io_shown (io_in_all qs))).reads ≡ n)
  found_shown (Ok totals) n few found all = sums_found (io_in_all qs) ∙ all_found few found ∙ all
  found_shown (Err e) n few found all = tt
