-- The totals of two lists of pages are the sums of theirs, and their texts stand one after the other.
use Rattle.std.proofs.Common.{◌≡◌, ◌+◌, ℕ, suc, List, [], ◌∷◌, ◌++◌, length, sym, ◌∙◌, ap, ap₂, refl, arith, append_assoc, add-zero, zero-add, cond, map}
use Rattle.std.proofs.lemmas.List.{length-append, map-append}
use Rattle.std.proofs.lemmas.List.Sums.{sum_by-append}
use Rattle.page_layout.specs.declared.outcomes.PageRewrite.{PageRewrite}
use Rattle.page_layout.specs.declared.scan.ScanTotals.{ScanTotals}
use Rattle.page_layout.specs.declared.summary.PageSummary.{PageSummary}
use Rattle.page_layout.specs.declared.summary.PageSummary.TheVariants.{Invalid, New, Used}
use Rattle.page_layout.specs.Dump.{dump_lines_from, dump_lines_of}
use Rattle.page_layout.specs.Outcomes.{dead_of, is_changed_outcome, is_invalid_outcome, is_new_outcome, is_same_outcome, is_skipped_outcome, page_rewrite_of, rewrite_totals_of, sum_of_rewrite_totals, totals_of_outcomes}
use Rattle.page_layout.specs.Scan.{counted, is_invalid, is_new, is_used, pointers_of, sum_of_totals, totals_of, totals_of_summaries}
use Rattle.page_layout.specs.Summary.{summary_of}

pub totals_of_summaries-append : (ss ts : List PageSummary) → totals_of_summaries (ss ++ ts) ≡ sum_of_totals (totals_of_summaries ss) (totals_of_summaries ts)
totals_of_summaries-append ss ts =
    rw (
      length-append ss ts,
      sum_by-append (λ (s : PageSummary). cond (is_used s) 1 0) ss ts,
      sum_by-append (λ (s : PageSummary). cond (is_new s) 1 0) ss ts,
      sum_by-append (λ (s : PageSummary). cond (is_invalid s) 1 0) ss ts,
      sum_by-append (λ (s : PageSummary). (pointers_of s).normal) ss ts,
      sum_by-append (λ (s : PageSummary). (pointers_of s).redirect) ss ts,
      sum_by-append (λ (s : PageSummary). (pointers_of s).dead) ss ts,
      sum_by-append (λ (s : PageSummary). (pointers_of s).unused) ss ts,
    ) refl

-- the totals of a scan
pub totals_of-append : (ps qs : List (List ℕ)) → totals_of (ps ++ qs) ≡ sum_of_totals (totals_of ps) (totals_of qs)
totals_of-append ps qs = ap totals_of_summaries (map-append summary_of ps qs) ∙ totals_of_summaries-append (map summary_of ps) (map summary_of qs)

-- with one page more
pub counted-is : (t : ScanTotals) (s : PageSummary) → counted t s ≡ sum_of_totals t (totals_of_summaries (s ∷ []))
counted-is t Invalid = simp add-zero
counted-is t New = simp add-zero
counted-is t (Used u) = simp (add-zero, zero-add)

pub totals_of-push : (ps : List (List ℕ)) (p : List ℕ) (t v : ScanTotals) (s : PageSummary) → v ≡ counted t s → t ≡ totals_of ps → s ≡ summary_of p → v ≡ totals_of (ps ++ p ∷ [])
totals_of-push ps p t v s is first second =
    is ∙ counted-is t s ∙ ap₂ (λ (u : ScanTotals) (x : PageSummary). sum_of_totals u (totals_of_summaries (x ∷ []))) first second ∙ sym (totals_of-append ps (p ∷ []))

pub totals_of_outcomes-append : (ss ts : List PageRewrite) → totals_of_outcomes (ss ++ ts) ≡ sum_of_rewrite_totals (totals_of_outcomes ss) (totals_of_outcomes ts)
totals_of_outcomes-append ss ts =
    rw (
      length-append ss ts,
      sum_by-append (λ (s : PageRewrite). cond (is_changed_outcome s) 1 0) ss ts,
      sum_by-append (λ (s : PageRewrite). cond (is_same_outcome s) 1 0) ss ts,
      sum_by-append (λ (s : PageRewrite). cond (is_skipped_outcome s) 1 0) ss ts,
      sum_by-append (λ (s : PageRewrite). cond (is_new_outcome s) 1 0) ss ts,
      sum_by-append (λ (s : PageRewrite). cond (is_invalid_outcome s) 1 0) ss ts,
      sum_by-append dead_of ss ts,
    ) refl

-- the totals of a rewrite
pub rewrite_totals_of-append : (ps qs : List (List ℕ)) → rewrite_totals_of (ps ++ qs) ≡ sum_of_rewrite_totals (rewrite_totals_of ps) (rewrite_totals_of qs)
rewrite_totals_of-append ps qs = ap totals_of_outcomes (map-append page_rewrite_of ps qs) ∙ totals_of_outcomes-append (map page_rewrite_of ps) (map page_rewrite_of qs)

-- the lines of a dump
pub dump_lines_from-append : (block : ℕ) (ps qs : List (List ℕ)) → dump_lines_from block (ps ++ qs) ≡ dump_lines_from block ps ++ dump_lines_from (block + length ps) qs
dump_lines_from-append block [] qs = ap (λ (n : ℕ). dump_lines_from n qs) (sym (add-zero block))
dump_lines_from-append block (p ∷ ps) qs =
    let n : block + 1 + length ps ≡ block + suc (length ps) = omega arith in
    ap (λ (l : List ℕ). dump_lines_of block p ++ l) (dump_lines_from-append (block + 1) ps qs)
    ∙ sym (append_assoc (dump_lines_of block p) (dump_lines_from (block + 1) ps) (dump_lines_from (block + 1 + length ps) qs))
    ∙ ap (λ (m : ℕ). (dump_lines_of block p ++ dump_lines_from (block + 1) ps) ++ dump_lines_from m qs) n
