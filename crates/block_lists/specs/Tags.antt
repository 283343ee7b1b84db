-- The list of the blocks of tags: in the order of the tags' numbers, each once.
use Rattle.std.specs.Prelude.{◌≡◌, ℕ, ◌<◌, ◌≤◌, ◌++◌, List, [], All, Contains, Some, length, map}
use Rattle.std.specs.Prelude.{option_map, slice_get, true, unwrap_or}
use Rattle.std.specs.List.Sorted.{IsStrictlyIncreasing}
use Rattle.block_tag.specs.Names.{names_block, packed_tag, unpacked_tag}
use Rattle.block_tag.specs.declared.catalogue.RelEntry.{RelEntry}
use Rattle.block_tag.specs.declared.tag.Tag.{Tag}
use Rattle.block_lists.specs.Lists.{AreBlockNumbers, list_text, numbers_of}

-- the tag names a block of a relation of the catalogue
pub record IsNamedIn (catalogue : List RelEntry) (tag : Tag) : Type 0 where
  pub block : names_block tag ≡ true
  pub relation : tag.rel.0 < length catalogue

-- the numbers of a tag's block in a catalogue; none if the catalogue lacks the tag's relation
abbrev pub numbers_in : List RelEntry → Tag → List ℕ
numbers_in catalogue tag =
    unwrap_or (option_map (λ relation. numbers_of relation tag) (slice_get catalogue tag.rel.0)) []

-- the tag is read from its number
abbrev pub IsRead : Tag → Type 0
IsRead tag = unpacked_tag (packed_tag tag) ≡ Some tag

-- the same tags, in the order of their numbers, each once
pub record IsOrderOf (tags listed : List Tag) : Type 0 where
  pub rises : IsStrictlyIncreasing (map packed_tag listed)
  pub keeps : (tag : Tag) → Contains tags tag → Contains listed tag
  pub adds_none : (tag : Tag) → Contains listed tag → Contains tags tag
  pub few : length listed ≤ length tags

-- behind the text that there was stands the list of the tags' blocks, in the order of the tags'
-- numbers, each once; it has this many
pub record ListsTags (catalogue : List RelEntry) (tags : List Tag) (old new : List ℕ) (count : ℕ)
    : Type 0 where
  pub listed : List Tag
  pub counted : length listed ≡ count
  pub order : IsOrderOf tags listed
  pub good : All AreBlockNumbers (map (numbers_in catalogue) listed)
  pub text : new ≡ old ++ list_text (map (numbers_in catalogue) listed)
