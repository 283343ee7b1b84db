-- The totals of a scan don't depend on log positions.
use Rattle.std.proofs.Common.{◌≡◌, ◌+◌, ◌-◌, ◌*◌, ◌/◌, ◌≤◌, ℕ, suc, Bool, cond, List, [], ◌∷◌, length, map, drop, sym, ap, ap₂, ◌∙◌, refl, inl, inr, arith}
use Rattle.std.specs.List.{range_with_len}
use Rattle.std.proofs.lemmas.List.{drop-drop}
use Rattle.byteorder.specs.Endian.{little_number}
use Rattle.page_layout.specs.declared.summary.PageSummary.{PageSummary}
use Rattle.page_layout.specs.declared.summary.PageSummary.TheVariants.{Invalid, New, Used}
use Rattle.page_layout.specs.declared.summary.PointerCounts.{PointerCounts}
use Rattle.page_layout.specs.Fields.{header_of, item_count, item_of, pointer_at, with_lsn}
use Rattle.page_layout.specs.Pointers.{counts_of_states, first_items, items_of}
use Rattle.page_layout.specs.Positions.{DifferInPositions, DiffersInPosition}
use Rattle.page_layout.specs.Scan.{sum_of_totals, totals_of, totals_of_summaries}
use Rattle.page_layout.specs.Soundness.{IsUsedPage}
use Rattle.page_layout.specs.Summary.{summary_of, used_of}
use Rattle.page_layout.proofs.Positions.{stays_used}
use Rattle.page_layout.proofs.Sums.{totals_of-append}

-- what stands after the position is as before
pub drop_after : (lsn n : ℕ) (page : List ℕ) → 8 ≤ n → drop n (with_lsn lsn page) ≡ drop n page
unfolding with_lsn
drop_after lsn n page from =
    let at : 8 + (n - 8) ≡ n = omega arith in
    let front : drop (n - 8) (drop 8 (with_lsn lsn page)) ≡ drop (n - 8) (drop 8 page) = refl in
    ap (λ (m : ℕ). drop m (with_lsn lsn page)) (sym at) ∙ sym (drop-drop (n - 8) 8 (with_lsn lsn page)) ∙ front ∙ drop-drop (n - 8) 8 page ∙ ap (λ (m : ℕ). drop m page) at

pub pointer_at-with_lsn : (lsn : ℕ) (page : List ℕ) (place : ℕ) → pointer_at (with_lsn lsn page) place ≡ pointer_at page place
unfolding pointer_at
pointer_at-with_lsn lsn page place = ap (little_number 4) (drop_after lsn (24 + 4 * place) page (omega arith))

pub item_count-with_lsn : (lsn : ℕ) (page : List ℕ) → item_count (with_lsn lsn page) ≡ item_count page
unfolding item_count
item_count-with_lsn lsn page = ap (λ (rest : List ℕ). (little_number 2 rest - 24) / 4) (drop_after lsn 12 page (omega arith))

-- so its line pointers are the same
pub items_of-with_lsn : (lsn : ℕ) (page : List ℕ) → items_of (with_lsn lsn page) ≡ items_of page
items_of-with_lsn lsn page =
    let same = λ (place : ℕ). pointer_at-with_lsn lsn page place in
    ap (first_items (with_lsn lsn page)) (item_count-with_lsn lsn page) ∙ λ i. map (λ place. item_of (same place i)) (range_with_len 0 (item_count page))

summary_of-used : (page : List ℕ) → IsUsedPage page → summary_of page ≡ Used (used_of page)
unfolding summary_of
summary_of-used page is = ap₂ (λ (sound new : Bool). cond sound (cond new New (Used (used_of page))) Invalid) is.sound is.used

-- and so are the totals of the page
pub totals_of-with_lsn : (lsn : ℕ) (page : List ℕ) → IsUsedPage page → totals_of (with_lsn lsn page ∷ []) ≡ totals_of (page ∷ [])
unfolding used_of
totals_of-with_lsn lsn page is =
    let one = λ (s : PageSummary). totals_of_summaries (s ∷ []) in
    ap one (summary_of-used (with_lsn lsn page) (stays_used lsn page is))
    ∙ ap (λ (counts : PointerCounts). one (Used (record { header = header_of page; items = item_count page; pointers = counts }))) (ap counts_of_states (items_of-with_lsn lsn page))
    ∙ sym (ap one (summary_of-used page is))

either : (page other : List ℕ) → DiffersInPosition page other → totals_of (other ∷ []) ≡ totals_of (page ∷ [])
either page other (inl same) = ap (λ (p : List ℕ). totals_of (p ∷ [])) same
either page other (inr differs) = ap (λ (p : List ℕ). totals_of (p ∷ [])) differs.1.1 ∙ totals_of-with_lsn differs.1.0 page differs.0

pub totals_of-positions : (pages others : List (List ℕ)) → DifferInPositions pages others → totals_of others ≡ totals_of pages
totals_of-positions [] [] is = refl
totals_of-positions [] (q ∷ qs) is = let count = is.count in absurd (omega arith)
totals_of-positions (p ∷ ps) [] is = let count = is.count in absurd (omega arith)
totals_of-positions (p ∷ ps) (q ∷ qs) is =
    let count = is.count in
    let rest : length qs ≡ length ps = omega arith in
    totals_of-append (q ∷ []) qs
    ∙ ap₂ sum_of_totals (either p q (is.each 0 p q refl refl)) (totals_of-positions ps qs (record { count = rest; each = λ block. is.each (suc block) }))
    ∙ sym (totals_of-append (p ∷ []) ps)
