-- What a scan tells of a page.
use Rattle.std.specs.Prelude.{List, ℕ, if◌then◌else◌}
use Rattle.page_layout.specs.declared.summary.PageSummary.{PageSummary}
use Rattle.page_layout.specs.declared.summary.PageSummary.TheVariants.{Invalid, New, Used}
use Rattle.page_layout.specs.declared.summary.UsedPage.{UsedPage}
use Rattle.page_layout.specs.Fields.{header_of, item_count}
use Rattle.page_layout.specs.Soundness.{is_new_page, is_sound_page}
use Rattle.page_layout.specs.Pointers.{counts_of_states, items_of}

-- a page that is sound and not new: its header, and its line pointers by their states
unfoldable pub used_of : List ℕ → UsedPage
used_of page = record { header = header_of page; items = item_count page; pointers = counts_of_states (items_of page) }

-- what is told of a page: that it isn't sound, that it is new, or what it has
unfoldable pub summary_of : List ℕ → PageSummary
summary_of page =
    if is_sound_page page then (if is_new_page page then New else Used (used_of page)) else Invalid
