-- A catalogue of relations.
use Rattle.std.specs.Prelude.{◌≡◌, ℕ, ◌≤◌, ◌<◌, Bool, ◌&&◌, ◌==◌, List, length, take, slice_get}
use Rattle.std.specs.Prelude.{slice_index, Option, Some, None, option_and_then, option_map}
use Rattle.std.specs.Prelude.{unwrap_or}
use Rattle.std.specs.List.{position}
use Rattle.block_tag.specs.declared.tag.Fork.{Fork}
use Rattle.block_tag.specs.declared.catalogue.RelEntry.{RelEntry}
use Rattle.block_tag.specs.declared.catalogue.CatalogError.{CatalogError}
use Rattle.block_tag.specs.declared.catalogue.CatalogError.TheVariants.{TooMany, Twice, Memory}
use Rattle.block_tag.specs.Names.{fork_number}

-- whether two entries name one relation
abbrev pub is_twin : RelEntry → RelEntry → Bool
is_twin a b = a.tablespace == b.tablespace && (a.database == b.database && a.relation == b.relation)

-- how many blocks a fork has
abbrev pub blocks_of : RelEntry → Fork → ℕ
blocks_of e fork = slice_index e.blocks (fork_number fork)

-- how many blocks a fork of the relation at this place has; none if there is no relation
abbrev pub blocks_at : List RelEntry → ℕ → Fork → ℕ
blocks_at entries place fork =
    unwrap_or (option_map (λ e. blocks_of e fork) (slice_get entries place)) 0

-- the first entry before this place that names the same relation
abbrev pub earlier_twin : List RelEntry → ℕ → Option ℕ
earlier_twin entries place =
    option_and_then (λ e. position (is_twin e) (take place entries)) (slice_get entries place)

-- no entry names the relation of an earlier one
abbrev pub HasNoTwins : List RelEntry → Type 0
HasNoTwins entries = (place : ℕ) → place < length entries → earlier_twin entries place ≡ None

-- the first place whose relation stands earlier, and the first place where it stands
pub record IsFirstTwin (entries : List RelEntry) (first second : ℕ) : Type 0 where
  pub twin : earlier_twin entries second ≡ Some first
  pub earliest : (place : ℕ) → place < second → earlier_twin entries place ≡ None

pub record IsCatalogue (entries : List RelEntry) : Type 0 where
  pub few : length entries ≤ 1024
  pub apart : HasNoTwins entries

pub record IsRefusedTwice (entries : List RelEntry) (first second : ℕ) : Type 0 where
  pub few : length entries ≤ 1024
  pub first_twin : IsFirstTwin entries first second

-- why a list of relations is no catalogue; out of memory comes only for one that would be a
-- catalogue
abbrev pub IsRefusalOf : List RelEntry → CatalogError → Type 0
IsRefusalOf entries (TooMany count) = (count ≡ length entries) × (1024 < count)
IsRefusalOf entries (Twice first second) = IsRefusedTwice entries first second
IsRefusalOf entries Memory = IsCatalogue entries
