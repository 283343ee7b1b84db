-- A place within the list has an entry, which may clash with those before it.
use Rattle.std.proofs.Common.{◌≡◌, ◌<◌, ℕ, List, Option, false, length, get_or, take, ap}
use Rattle.std.specs.List.{list_any}
use Rattle.std.specs.Option.{option_map_or}
use Rattle.std.proofs.lemmas.Option.{slice_get-get_or}
use Rattle.segment_files.specs.declared.catalog.CatalogFile.{CatalogFile}
use Rattle.segment_files.specs.Catalog.{clashes, clashes_before}

pub clashes_before-within : (entries : List CatalogFile) (place : ℕ) (d : CatalogFile) → place < length entries
    → clashes_before entries place ≡ list_any (clashes (get_or entries place d)) (take place entries)
clashes_before-within entries place d within =
    ap (λ (e : Option CatalogFile). option_map_or (λ (x : CatalogFile). list_any (clashes x) (take place entries)) e false) (slice_get-get_or entries place d within)
