-- Totals of blocks that were read, and the numbers that they can have.
use Rattle.std.proofs.Common.{◌≡◌, List, ◌++◌, map, refl, sym, ap, subst, ◌∙◌, arith, add-zero, zero-add, add_assoc}
use Rattle.std.proofs.lemmas.List.{map-append}
use Rattle.page_layout.specs.declared.scan.ScanTotals.{ScanTotals}
use Rattle.page_layout.specs.Scan.{IsWithin, no_totals, sum_of_totals, totals_of_summaries}
use Rattle.page_layout.proofs.Sums.{totals_of_summaries-append}
use Rattle.page_jobs.specs.Printed.{BlockRead, read_summary, reads_totals}

-- the totals of two lists of reads
pub reads_totals-append : (rs ss : List BlockRead) → reads_totals (rs ++ ss) ≡ sum_of_totals (reads_totals rs) (reads_totals ss)
reads_totals-append rs ss = ap totals_of_summaries (map-append read_summary rs ss) ∙ totals_of_summaries-append (map read_summary rs) (map read_summary ss)

pub sum_none : (t : ScanTotals) → sum_of_totals no_totals t ≡ t
sum_none t = simp zero-add

pub none_sum : (t : ScanTotals) → sum_of_totals t no_totals ≡ t
none_sum t = simp add-zero

pub sum_assoc : (t u v : ScanTotals) → sum_of_totals (sum_of_totals t u) v ≡ sum_of_totals t (sum_of_totals u v)
sum_assoc t u v = simp add_assoc

-- the totals of nothing
pub within_none : (t : ScanTotals) → t ≡ no_totals → IsWithin t t.blocks
within_none t none = subst (λ (u : ScanTotals). IsWithin u u.blocks) (sym none) record { blocks_are = refl; used = omega arith; new = omega arith; invalid = omega arith; normal = omega arith; redirect = omega arith; dead = omega arith; unused = omega arith }
