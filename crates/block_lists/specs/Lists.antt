-- The text of a list of blocks, the list that a text is, and why a text is none.
use Rattle.std.specs.Prelude.{◌≡◌, ℕ, ◌+◌, ◌-◌, ◌^◌, ◌<◌, ◌≤◌, ◌==◌, List, [], ◌∷◌, All, codes}
use Rattle.std.specs.Prelude.{decimal, flat_map, get_or, if◌then◌else◌, length, slice_index}
use Rattle.std.specs.List.{concat, onto_first}
use Rattle.block_tag.specs.Names.{fork_number}
use Rattle.block_tag.specs.declared.catalogue.RelEntry.{RelEntry}
use Rattle.block_tag.specs.declared.tag.Tag.{Tag}
use Rattle.block_lists.specs.declared.reading.ListError.{ListError}
use Rattle.block_lists.specs.declared.reading.ListError.TheVariants.{BadLine, TooMany, Memory}

-- the numbers of a block: tablespace, database, relation, fork, and the block's own, which isn't
-- the invalid one
pub record AreBlockNumbers (block : List ℕ) : Type 0 where
  pub five : length block ≡ 5
  pub words : All (λ n. n < 2 ^ 32) block
  pub fork : slice_index block 3 ≤ 3
  pub valid : slice_index block 4 ≤ 4294967294

-- the numbers of a tag's block, for the tag's relation
abbrev pub numbers_of : RelEntry → Tag → List ℕ
numbers_of relation tag =
    relation.tablespace ∷ relation.database ∷ relation.relation ∷ fork_number tag.fork ∷ tag.block
    ∷ []

-- the line of a block: its numbers in decimal, a space between any two, and a newline
unfoldable pub block_line : List ℕ → List ℕ
block_line block =
    concat (decimal (slice_index block 0) ∷ codes " " ∷ decimal (slice_index block 1) ∷ codes " "
    ∷ decimal (slice_index block 2) ∷ codes " " ∷ decimal (slice_index block 3) ∷ codes " "
    ∷ decimal (slice_index block 4) ∷ codes "\n" ∷ [])

-- the text of a list: the lines of its blocks
abbrev pub list_text : List (List ℕ) → List ℕ
list_text blocks = flat_map block_line blocks

-- the lines of a text, each with its newline; what stands after the last newline is a line too,
-- unless it is empty
abbrev pub lines_of : List ℕ → List (List ℕ)
lines_of [] = []
lines_of (byte ∷ text) =
    if byte == 10 then (10 ∷ []) ∷ lines_of text else onto_first byte (lines_of text)

-- the line of some block
abbrev pub IsBlockLine : List ℕ → Type 0
IsBlockLine line = (block : List ℕ) × AreBlockNumbers block × (line ≡ block_line block)

-- the text is the list of these blocks
pub record IsListOf (text : List ℕ) (blocks : List (List ℕ)) : Type 0 where
  pub few : length blocks ≤ 65536
  pub good : All AreBlockNumbers blocks
  pub written : text ≡ list_text blocks

-- the line of this number, counted from 1, is the first that isn't one of a block
pub record IsFirstBad (lines : List (List ℕ)) (line : ℕ) : Type 0 where
  pub counted : 1 ≤ line
  pub within : line ≤ length lines
  pub bad : IsBlockLine (get_or lines (line - 1) []) → ⊥
  pub earlier : (k : ℕ) → k + 1 < line → IsBlockLine (get_or lines k [])

-- why a text is no list; out of memory comes only for one that isn't too long
abbrev pub IsRefusalOf : List ℕ → ListError → Type 0
IsRefusalOf text (BadLine line) =
    (length (lines_of text) ≤ 65536) × IsFirstBad (lines_of text) line
IsRefusalOf text TooMany = 65536 < length (lines_of text)
IsRefusalOf text Memory = length (lines_of text) ≤ 65536
