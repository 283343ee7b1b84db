-- The text of a scan, one page more at a time.
use Rattle.std.proofs.Common.{◌≡◌, ◌<◌, ◌≤◌, ◌+◌, ℕ, suc, List, [], ◌∷◌, ◌++◌, length, get_or, take, drop, codes, sym, ◌∙◌, ap, arith, append_assoc, add-zero, refl}
use Rattle.std.proofs.lemmas.List.{append-nil, length-take, take_all, take_more, take-append-drop}
use Rattle.page_layout.specs.Summary.{summary_of}
use Rattle.page_layout.proofs.Sums.{totals_of-push}
use Rattle.page_layout.specs.Text.{scan_line_of}
use Rattle.page_layout.specs.Scan.{counted, scan_lines_from, scan_text, totals_of, totals_text}

-- the lines of two lists of pages
pub scan_lines_from-append : (block : ℕ) (ps qs : List (List ℕ)) → scan_lines_from block (ps ++ qs) ≡ scan_lines_from block ps ++ scan_lines_from (block + length ps) qs
scan_lines_from-append block [] qs = ap (λ (n : ℕ). scan_lines_from n qs) (sym (add-zero block))
scan_lines_from-append block (p ∷ ps) qs =
    let n : block + 1 + length ps ≡ block + suc (length ps) = omega arith in
    ap (λ (l : List ℕ). scan_line_of block p ++ l) (scan_lines_from-append (block + 1) ps qs)
    ∙ sym (append_assoc (scan_line_of block p) (scan_lines_from (block + 1) ps) (scan_lines_from (block + 1 + length ps) qs))
    ∙ ap (λ (m : ℕ). (scan_line_of block p ++ scan_lines_from (block + 1) ps) ++ scan_lines_from m qs) n

one_line : (block : ℕ) (p : List ℕ) → scan_lines_from block (p ∷ []) ≡ scan_line_of block p
one_line block p = append-nil (scan_line_of block p)

-- one page more
pub lines_more : (pages : List (List ℕ)) (k : ℕ) → k < length pages → scan_lines_from 0 (take (k + 1) pages) ≡ scan_lines_from 0 (take k pages) ++ scan_line_of k (get_or pages k [])
lines_more pages k below =
    let p = get_or pages k [] in
    let n : 0 + length (take k pages) ≡ k = grind (arith, length-take) in
    ap (λ (ps : List (List ℕ)). scan_lines_from 0 ps) (take_more pages k [] below)
    ∙ scan_lines_from-append 0 (take k pages) (p ∷ [])
    ∙ ap (λ (m : ℕ). scan_lines_from 0 (take k pages) ++ scan_lines_from m (p ∷ [])) n
    ∙ ap (λ (l : List ℕ). scan_lines_from 0 (take k pages) ++ l) (one_line k p)

-- the totals of one page more
pub totals_more : (pages : List (List ℕ)) (k : ℕ) → k < length pages → totals_of (take (k + 1) pages) ≡ counted (totals_of (take k pages)) (summary_of (get_or pages k []))
totals_more pages k below =
    let p = get_or pages k [] in
    ap totals_of (take_more pages k [] below) ∙ sym (totals_of-push (take k pages) p (totals_of (take k pages)) _ (summary_of p) refl refl refl)

-- the text goes on after the lines of the first pages
pub text_after : (pages : List (List ℕ)) (k : ℕ) → k ≤ length pages → (rest : List ℕ) × (scan_text pages ≡ scan_lines_from 0 (take k pages) ++ rest)
unfolding scan_text
text_after pages k within =
    let more = scan_lines_from (0 + length (take k pages)) (drop k pages) in
    let last = totals_text (totals_of pages) ++ codes "\n" in (
      more ++ last,
      ap (λ (ps : List (List ℕ)). scan_lines_from 0 ps ++ last) (sym (take-append-drop k pages))
          ∙ ap (λ (l : List ℕ). l ++ last) (scan_lines_from-append 0 (take k pages) (drop k pages))
          ∙ append_assoc (scan_lines_from 0 (take k pages)) more last,
    )

-- with one line more
pub text_after_line : (pages : List (List ℕ)) (k : ℕ) → k < length pages → (rest : List ℕ) × (scan_text pages ≡ scan_lines_from 0 (take k pages) ++ (scan_line_of k (get_or pages k []) ++ rest))
text_after_line pages k below =
    let after = text_after pages (k + 1) (omega arith) in
    (after.0, after.1 ∙ ap (λ (l : List ℕ). l ++ after.0) (lines_more pages k below) ∙ append_assoc (scan_lines_from 0 (take k pages)) (scan_line_of k (get_or pages k [])) after.0)

-- the totals follow all lines
pub text_end : (pages : List (List ℕ)) (n : ℕ) → n ≡ length pages → scan_text pages ≡ scan_lines_from 0 (take n pages) ++ (totals_text (totals_of (take n pages)) ++ codes "\n")
unfolding scan_text
text_end pages n is =
    let all : take n pages ≡ pages = take_all n pages (omega arith) in
    ap (λ (ps : List (List ℕ)). scan_lines_from 0 ps ++ (totals_text (totals_of ps) ++ codes "\n")) (sym all)
