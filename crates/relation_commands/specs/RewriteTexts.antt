-- What a rewrite prints.
use Rattle.std.specs.Prelude.{ℕ, ◌+◌, ◌*◌, List, [], ◌∷◌, codes}
use Rattle.page_layout.specs.declared.outcomes.RewriteTotals.{RewriteTotals}
use Rattle.page_layout.specs.Outcomes.{rewrite_totals_of, rewrite_totals_text}
use Rattle.page_layout.specs.Text.{joined, position_text}
use Rattle.pin_core.specs.State.{Page}
use Rattle.history_core.specs.Log.{record_size}
use Rattle.relation_commands.specs.Limits.{log_base}

-- the line of the totals, and that of the log, with the positions where it begins and ends
abbrev pub rewrite_lines : RewriteTotals → ℕ → ℕ → List ℕ
rewrite_lines totals base end =
    joined
    (rewrite_totals_text totals ∷ codes "\nlog " ∷ position_text base ∷ codes " "
    ∷ position_text end ∷ codes "\n" ∷ [])

-- how many of the pages a rewrite changes
abbrev pub changed_pages : List Page → ℕ
changed_pages pages = (rewrite_totals_of pages).changed

-- where the log ends once they are rewritten
abbrev pub log_end_of : List Page → ℕ
log_end_of pages = log_base pages + record_size * changed_pages pages

-- the text of a rewrite of a relation of these pages
abbrev pub rewrite_text : List Page → List ℕ
rewrite_text pages = rewrite_lines (rewrite_totals_of pages) (log_base pages) (log_end_of pages)
