-- What a scan prints of a page.
use Rattle.std.specs.Prelude.{ℕ, ◌/◌, ◌%◌, ◌^◌, List, [], ◌∷◌, ◌++◌, true, codes}
use Rattle.std.specs.Fmt.{decimal, digits}
use Rattle.page_layout.specs.declared.page.Header.{Header}
use Rattle.page_layout.specs.declared.summary.PointerCounts.{PointerCounts}
use Rattle.page_layout.specs.declared.summary.UsedPage.{UsedPage}
use Rattle.page_layout.specs.declared.summary.PageSummary.{PageSummary}
use Rattle.page_layout.specs.declared.summary.PageSummary.TheVariants.{Invalid, New, Used}
use Rattle.page_layout.specs.Summary.{summary_of}

-- pieces of a text, one after another
abbrev pub joined : List (List ℕ) → List ℕ
joined [] = []
joined (piece ∷ []) = piece
joined (piece ∷ next ∷ pieces) = piece ++ joined (next ∷ pieces)

-- a log position: its high and its low 32 bits in upper-case hexadecimal
unfoldable pub position_text : ℕ → List ℕ
position_text lsn =
    joined (digits 16 true (lsn / 2 ^ 32) ∷ codes "/" ∷ digits 16 true (lsn % 2 ^ 32) ∷ [])

unfoldable pub pointers_text : PointerCounts → List ℕ
pointers_text p =
    joined (codes "normal " ∷ decimal p.normal ∷ codes " redirect " ∷ decimal p.redirect
    ∷ codes " dead " ∷ decimal p.dead ∷ codes " unused " ∷ decimal p.unused ∷ [])

unfoldable pub header_text : Header → List ℕ
header_text h =
    joined (codes "lsn " ∷ position_text h.lsn ∷ codes " flags " ∷ decimal h.flags ∷ codes " lower "
    ∷ decimal h.lower ∷ codes " upper " ∷ decimal h.upper ∷ codes " special " ∷ decimal h.special
    ∷ [])

unfoldable pub used_text : UsedPage → List ℕ
used_text u =
    joined (header_text u.header ∷ codes " items " ∷ decimal u.items ∷ codes " "
    ∷ pointers_text u.pointers ∷ [])

abbrev pub summary_text : PageSummary → List ℕ
summary_text Invalid = codes "invalid"
summary_text New = codes "new"
summary_text (Used used) = used_text used

-- the line of a block
unfoldable pub line_of : ℕ → PageSummary → List ℕ
line_of block summary = joined (decimal block ∷ codes " " ∷ summary_text summary ∷ codes "\n" ∷ [])

-- the line of a block, whose page is this
abbrev pub scan_line_of : ℕ → List ℕ → List ℕ
scan_line_of block page = line_of block (summary_of page)
