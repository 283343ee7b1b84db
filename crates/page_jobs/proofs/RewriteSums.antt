-- Totals of blocks that were rewritten.
use Rattle.std.proofs.Common.{◌≡◌, List, [], ◌∷◌, ◌++◌, map, refl, sym, ap, subst, ◌∙◌, arith, add-zero, zero-add, add_assoc}
use Rattle.std.proofs.lemmas.List.{map-append}
use Rattle.page_layout.specs.declared.outcomes.PageRewrite.{PageRewrite}
use Rattle.page_layout.specs.declared.outcomes.PageRewrite.TheVariants.{Invalid, New, Used}
use Rattle.page_layout.specs.declared.outcomes.RewriteTotals.{RewriteTotals}
use Rattle.page_layout.specs.declared.rewrite.Rewrite.TheVariants.{Same, Changed, Skipped}
use Rattle.page_layout.specs.Outcomes.{IsRewriteWithin, no_rewrite_totals, sum_of_rewrite_totals, totals_of_outcomes, with_outcome}
use Rattle.page_layout.proofs.Sums.{totals_of_outcomes-append}
use Rattle.page_jobs.specs.Rewrites.{Outcome, result_of, outcome_totals}

pub outcome_totals-append : (os us : List Outcome) → outcome_totals (os ++ us) ≡ sum_of_rewrite_totals (outcome_totals os) (outcome_totals us)
outcome_totals-append os us = ap totals_of_outcomes (map-append result_of os us) ∙ totals_of_outcomes-append (map result_of os) (map result_of us)

pub with_outcome-is : (t : RewriteTotals) (what : PageRewrite) → with_outcome t what ≡ sum_of_rewrite_totals t (totals_of_outcomes (what ∷ []))
with_outcome-is t Invalid = simp add-zero
with_outcome-is t New = simp add-zero
with_outcome-is t (Used Same) = simp add-zero
with_outcome-is t (Used Skipped) = simp add-zero
with_outcome-is t (Used (Changed dead)) = simp (add-zero, zero-add)

pub rewrites_none : (t : RewriteTotals) → sum_of_rewrite_totals t no_rewrite_totals ≡ t
rewrites_none t = simp add-zero

pub rewrites_first : (t : RewriteTotals) → sum_of_rewrite_totals no_rewrite_totals t ≡ t
rewrites_first t = simp zero-add

pub rewrites_assoc : (t u v : RewriteTotals) → sum_of_rewrite_totals (sum_of_rewrite_totals t u) v ≡ sum_of_rewrite_totals t (sum_of_rewrite_totals u v)
rewrites_assoc t u v = simp add_assoc

pub rewrites_joined : (t u v : RewriteTotals) (os us : List Outcome) → u ≡ sum_of_rewrite_totals t (outcome_totals os) → v ≡ sum_of_rewrite_totals u (outcome_totals us) → v ≡ sum_of_rewrite_totals t (outcome_totals (os ++ us))
rewrites_joined t u v os us first second =
    second
    ∙ ap (λ (x : RewriteTotals). sum_of_rewrite_totals x (outcome_totals us)) first
    ∙ rewrites_assoc t (outcome_totals os) (outcome_totals us)
    ∙ ap (λ (x : RewriteTotals). sum_of_rewrite_totals t x) (sym (outcome_totals-append os us))

-- the totals of nothing
pub none_within : (t : RewriteTotals) → t ≡ no_rewrite_totals → IsRewriteWithin t t.blocks
none_within t none = subst (λ (u : RewriteTotals). IsRewriteWithin u u.blocks) (sym none) record { blocks_are = refl; changed = omega arith; same = omega arith; skipped = omega arith; new = omega arith; invalid = omega arith; dead = omega arith }
