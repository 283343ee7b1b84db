-- Where the log of a rewrite begins, and whether it can have its records.
use Rattle.std.specs.Prelude.{ℕ, ◌+◌, ◌*◌, ◌/◌, ◌<◌, List, [], ◌∷◌, max, if◌then◌else◌}
use Rattle.page_layout.specs.Fields.{lsn_of}
use Rattle.page_layout.specs.Soundness.{is_sound_page}
use Rattle.pin_core.specs.State.{Page}
use Rattle.history_core.specs.Log.{record_size}
use Rattle.history_core.specs.State.{last_position}

-- the log position of a page that is sound, and 0 of another
abbrev pub sound_lsn : Page → ℕ
sound_lsn page = if is_sound_page page then lsn_of page else 0

-- the largest log position of the sound pages, or 0
abbrev pub largest_lsn : List Page → ℕ
largest_lsn [] = 0
largest_lsn (page ∷ pages) = max (sound_lsn page) (largest_lsn pages)

-- the next multiple of 8
abbrev pub rounded_up : ℕ → ℕ
rounded_up lsn = (lsn + 7) / 8 * 8

-- where the log of a rewrite of these pages begins
unfoldable pub log_base : List Page → ℕ
log_base pages = rounded_up (largest_lsn pages)

-- a record of each of this many blocks could pass the last position
abbrev pub PassesLimit : ℕ → ℕ → Type 0
PassesLimit largest blocks = last_position < rounded_up largest + record_size * blocks
