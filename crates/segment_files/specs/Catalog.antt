-- Which entries of a catalogue can't be open together.
use Rattle.std.specs.Prelude.{◌≡◌, ℕ, ◌<◌, Bool, false, ◌&&◌, ◌||◌, ◌==◌, List, length, take}
use Rattle.std.specs.Prelude.{slice_get}
use Rattle.std.specs.List.{list_any}
use Rattle.std.specs.Option.{option_map_or}
use Rattle.block_tag.specs.Names.{fork_number}
use Rattle.segment_store.specs.Paths.{is_file_of}
use Rattle.segment_files.specs.declared.catalog.CatalogFile.{CatalogFile}

-- two entries are of one fork of a relation, or the path of one is that of a segment of the other
abbrev pub clashes : CatalogFile → CatalogFile → Bool
clashes a b = (a.rel.0 == b.rel.0 && fork_number a.fork == fork_number b.fork)
    || (is_file_of a.path.now b.path.now || is_file_of b.path.now a.path.now)

-- whether the entry at this place clashes with an earlier one
abbrev pub clashes_before : List CatalogFile → ℕ → Bool
clashes_before entries place =
    option_map_or (λ entry. list_any (clashes entry) (take place entries)) (slice_get entries place)
    false

-- no entry clashes with another
abbrev pub HaveNoClashes : List CatalogFile → Type 0
HaveNoClashes entries = (place : ℕ) → place < length entries → clashes_before entries place ≡ false
