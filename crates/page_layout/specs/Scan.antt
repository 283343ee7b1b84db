-- What a scan prints of the pages of a relation: a line for each, then the totals.
use Rattle.std.specs.Prelude.{◌≡◌, ℕ, ◌+◌, ◌*◌, ◌≤◌, Bool, true, false, List, [], ◌∷◌, ◌++◌, codes}
use Rattle.std.specs.Prelude.{count_by, length, map, sum_by}
use Rattle.std.specs.Fmt.{decimal}
use Rattle.page_layout.specs.declared.scan.ScanTotals.{ScanTotals}
use Rattle.page_layout.specs.declared.summary.PointerCounts.{PointerCounts}
use Rattle.page_layout.specs.declared.summary.PageSummary.{PageSummary}
use Rattle.page_layout.specs.declared.summary.PageSummary.TheVariants.{Invalid, New, Used}
use Rattle.page_layout.specs.Summary.{summary_of}
use Rattle.page_layout.specs.Text.{joined, scan_line_of}

abbrev pub no_totals : ScanTotals
no_totals = record { blocks = 0; used = 0; new = 0; invalid = 0; normal = 0; redirect = 0; dead = 0; unused = 0 }

-- whether a page is used, new or invalid
abbrev pub is_used : PageSummary → Bool
is_used Invalid = false
is_used New = false
is_used (Used u) = true

abbrev pub is_new : PageSummary → Bool
is_new Invalid = false
is_new New = true
is_new (Used u) = false

abbrev pub is_invalid : PageSummary → Bool
is_invalid Invalid = true
is_invalid New = false
is_invalid (Used u) = false

abbrev pub no_pointers : PointerCounts
no_pointers = record { normal = 0; redirect = 0; dead = 0; unused = 0 }

-- the line pointers of a used page, and none of another
abbrev pub pointers_of : PageSummary → PointerCounts
pointers_of Invalid = no_pointers
pointers_of New = no_pointers
pointers_of (Used u) = u.pointers

-- how many pages there are of each kind, and how many line pointers of each state the used ones
-- have
abbrev pub totals_of_summaries : List PageSummary → ScanTotals
totals_of_summaries summaries = record {
  blocks = length summaries;
  used = count_by is_used summaries;
  new = count_by is_new summaries;
  invalid = count_by is_invalid summaries;
  normal = sum_by (λ s. (pointers_of s).normal) summaries;
  redirect = sum_by (λ s. (pointers_of s).redirect) summaries;
  dead = sum_by (λ s. (pointers_of s).dead) summaries;
  unused = sum_by (λ s. (pointers_of s).unused) summaries;
}

-- the totals of pages
abbrev pub totals_of : List (List ℕ) → ScanTotals
totals_of pages = totals_of_summaries (map summary_of pages)

-- totals with a page more
abbrev pub counted : ScanTotals → PageSummary → ScanTotals
counted t Invalid = record t { blocks = t.blocks + 1; invalid = t.invalid + 1 }
counted t New = record t { blocks = t.blocks + 1; new = t.new + 1 }
counted t (Used u) = record t {
  blocks = t.blocks + 1;
  used = t.used + 1;
  normal = t.normal + u.pointers.normal;
  redirect = t.redirect + u.pointers.redirect;
  dead = t.dead + u.pointers.dead;
  unused = t.unused + u.pointers.unused;
}

-- the sums of two totals
abbrev pub sum_of_totals : ScanTotals → ScanTotals → ScanTotals
sum_of_totals t u = record {
  blocks = t.blocks + u.blocks;
  used = t.used + u.used;
  new = t.new + u.new;
  invalid = t.invalid + u.invalid;
  normal = t.normal + u.normal;
  redirect = t.redirect + u.redirect;
  dead = t.dead + u.dead;
  unused = t.unused + u.unused;
}

unfoldable pub totals_text : ScanTotals → List ℕ
totals_text t =
    joined (codes "blocks " ∷ decimal t.blocks ∷ codes " used " ∷ decimal t.used ∷ codes " new "
    ∷ decimal t.new ∷ codes " invalid " ∷ decimal t.invalid ∷ codes " normal " ∷ decimal t.normal
    ∷ codes " redirect " ∷ decimal t.redirect ∷ codes " dead " ∷ decimal t.dead ∷ codes " unused "
    ∷ decimal t.unused ∷ [])

-- the lines of pages, the first of which is this block
abbrev pub scan_lines_from : ℕ → List (List ℕ) → List ℕ
scan_lines_from block [] = []
scan_lines_from block (page ∷ pages) = scan_line_of block page ++ scan_lines_from (block + 1) pages

-- the lines of all blocks from 0 on, then the line of their totals
unfoldable pub scan_text : List (List ℕ) → List ℕ
scan_text pages = scan_lines_from 0 pages ++ (totals_text (totals_of pages) ++ codes "\n")

-- no number is above what this many pages can give, each with fewer than 65536 line pointers
pub record IsWithin (t : ScanTotals) (blocks : ℕ) : Type 0 where
  pub blocks_are : t.blocks ≡ blocks
  pub used : t.used ≤ blocks
  pub new : t.new ≤ blocks
  pub invalid : t.invalid ≤ blocks
  pub normal : t.normal ≤ 65535 * blocks
  pub redirect : t.redirect ≤ 65535 * blocks
  pub dead : t.dead ≤ 65535 * blocks
  pub unused : t.unused ≤ 65535 * blocks
