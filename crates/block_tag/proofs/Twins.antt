-- A place within the list has an entry, whose first twin is looked for before it.
use Rattle.std.proofs.Common.{◌≡◌, ◌<◌, ℕ, List, Option, length, get_or, take, ap}
use Rattle.std.specs.List.{position}
use Rattle.std.specs.Prelude.{option_and_then}
use Rattle.std.proofs.lemmas.Option.{slice_get-get_or}
use Rattle.block_tag.specs.declared.catalogue.RelEntry.{RelEntry}
use Rattle.block_tag.specs.Catalogue.{earlier_twin, is_twin}

pub earlier_twin-within : (entries : List RelEntry) (place : ℕ) (d : RelEntry) → place < length entries
    → earlier_twin entries place ≡ position (is_twin (get_or entries place d)) (take place entries)
earlier_twin-within entries place d within =
    ap (λ (e : Option RelEntry). option_and_then (λ (x : RelEntry). position (is_twin x) (take place entries)) e) (slice_get-get_or entries place d within)
