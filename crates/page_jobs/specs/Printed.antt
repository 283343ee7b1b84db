-- What a job prints of the blocks that it reads.
use Rattle.std.specs.Prelude.{ℕ, ◌+◌, List, [], ◌∷◌, ◌++◌, codes, map}
use Rattle.pin_core.specs.State.{Page}
use Rattle.page_layout.specs.declared.scan.ScanTotals.{ScanTotals}
use Rattle.page_layout.specs.declared.summary.PageSummary.{PageSummary}
use Rattle.page_layout.specs.declared.summary.PageSummary.TheVariants.{Invalid}
use Rattle.page_layout.specs.Dump.{dump_lines_of, dump_text}
use Rattle.page_layout.specs.Scan.{scan_text, totals_of_summaries, totals_text}
use Rattle.page_layout.specs.Summary.{summary_of}
use Rattle.page_layout.specs.Text.{line_of, scan_line_of}
use Rattle.page_jobs.specs.declared.printing.Lines.{Lines}
use Rattle.page_jobs.specs.declared.printing.Lines.TheVariants.{Scan, Dump}
use Rattle.page_jobs.specs.declared.reading.PageRead.{PageRead}
use Rattle.page_jobs.specs.declared.reading.PageRead.TheVariants.{Sound, Unsound}

-- the lines of a block, whose page is this
abbrev pub page_lines : Lines → ℕ → Page → List ℕ
page_lines Scan block page = scan_line_of block page
page_lines Dump block page = dump_lines_of block page

-- the lines of a block, of whose page this was found: `page`, if it is sound
abbrev pub found_lines : Lines → ℕ → PageRead → Page → List ℕ
found_lines lines block Sound page = page_lines lines block page
found_lines lines block Unsound page = line_of block Invalid

abbrev pub found_summary : PageRead → Page → PageSummary
found_summary Sound page = summary_of page
found_summary Unsound page = Invalid

-- the lines of a list of pages: all of the text but the last line
abbrev pub lines_from : Lines → ℕ → List Page → List ℕ
lines_from lines block [] = []
lines_from lines block (page ∷ pages) =
    page_lines lines block page ++ lines_from lines (block + 1) pages

-- the whole text
abbrev pub text_of_pages : Lines → List Page → List ℕ
text_of_pages Scan pages = scan_text pages
text_of_pages Dump pages = dump_text pages

-- the last line
abbrev pub totals_line : ScanTotals → List ℕ
totals_line t = totals_text t ++ codes "\n"

-- What a job reads of a block: a copy of its page, at a place in the log, or that its page isn't
-- sound
pub data BlockRead : Type 0 where
  copied : Page → ℕ → BlockRead
  unsound : BlockRead

-- what is printed, and counted, of a block that was read
abbrev pub read_lines : Lines → ℕ → BlockRead → List ℕ
read_lines lines block (copied page place) = page_lines lines block page
read_lines lines block unsound = line_of block Invalid

abbrev pub read_summary : BlockRead → PageSummary
read_summary (copied page place) = summary_of page
read_summary unsound = Invalid

-- what is printed of these blocks, one after the other
abbrev pub reads_lines : Lines → List ℕ → List BlockRead → List ℕ
reads_lines lines blocks [] = []
reads_lines lines [] (r ∷ rs) = []
reads_lines lines (b ∷ blocks) (r ∷ rs) = read_lines lines b r ++ reads_lines lines blocks rs

abbrev pub reads_totals : List BlockRead → ScanTotals
reads_totals rs = totals_of_summaries (map read_summary rs)
