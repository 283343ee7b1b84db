-- Records of a log's file that are well formed, and the log that a file's bytes are.
use Rattle.std.specs.Prelude.{◌≡◌, ℕ, ◌-◌, ◌%◌, ◌<◌, ◌≤◌, ◌^◌, ◌+◌, List, [], ◌∷◌, ◌++◌, length}
use Rattle.std.specs.Prelude.{take, drop, slice_get, Some}
use Rattle.block_tag.specs.declared.tag.Tag.{Tag}
use Rattle.block_tag.specs.declared.catalogue.RelEntry.{RelEntry}
use Rattle.block_tag.specs.Names.{fork_number, packed_tag}
use Rattle.page_layout.specs.Fields.{number_at}
use Rattle.history_core.specs.Log.{Change, image, ranges, resize, Entry, Log, IsChange, IsImage}
use Rattle.history_core.specs.Log.{change_size, record_size, end_of}
use Rattle.history_core.specs.State.{last_position}

-- which kind of record a change has
abbrev pub kind_of : Change → ℕ
kind_of (image word page) = 1
kind_of (resize fork old new) = 2
kind_of (ranges word spans) = 3

-- The relation at the place n has these numbers
pub record IsAtPlace (relations : List RelEntry) (tablespace database number n : ℕ) : Type 0 where
  pub relation : RelEntry
  pub listed : slice_get relations n ≡ Some relation
  pub tablespace_is : relation.tablespace ≡ tablespace
  pub database_is : relation.database ≡ database
  pub number_is : relation.relation ≡ number

-- The bytes of a record name a block of one of the relations
pub record NamesBlock (relations : List RelEntry) (bytes : List ℕ) (word : ℕ) : Type 0 where
  pub tag : Tag
  pub is : word ≡ packed_tag tag
  pub relation : RelEntry
  pub listed : slice_get relations tag.rel.0 ≡ Some relation
  pub tablespace : number_at 4 4 bytes ≡ relation.tablespace
  pub database : number_at 8 4 bytes ≡ relation.database
  pub number : number_at 12 4 bytes ≡ relation.relation
  pub fork : number_at 16 4 bytes ≡ fork_number tag.fork
  pub block : number_at 20 4 bytes ≡ tag.block
  pub low : tag.block < 2 ^ 32 - 1

-- What stands in a record beside its kind and its start. A change of a fork's size isn't read yet
-- (its fork, its new size at 20, its old one at 32, zeros at 36), nor are ranges (their block; from
-- 32 on how many, their places and lengths, their bytes, zeros)
abbrev pub HasChange : List RelEntry → List ℕ → Change → Type 0
HasChange relations bytes (image word page) =
    NamesBlock relations bytes word × (page ≡ take 8192 (drop 32 bytes))
HasChange relations bytes (resize fork old new) = ⊥
HasChange relations bytes (ranges word spans) = ⊥

-- What a change asks of the entries before it. Of those that aren't read yet, a fork's old size is
-- to be the new one of its entry before; and before ranges a whole page of the block is to stand,
-- with no cut of it since, and the page that they make to be sound and not new
abbrev pub MayFollow : List Entry → Change → Type 0
MayFollow before (image word page) = Unit {0}
MayFollow before (resize fork old new) = ⊥
MayFollow before (ranges word spans) = ⊥

-- A record that is well formed at the position `from`, after these entries
pub record IsRecord (relations : List RelEntry) (from : ℕ) (before : List Entry) (bytes : List ℕ)
    (e : Entry) : Type 0 where
  -- a record doesn't say which backend made it
  pub backend : e.backend ≡ 0
  pub starts : e.start ≡ from
  pub whole : change_size e.change ≤ length bytes
  pub kind : number_at 0 4 bytes ≡ kind_of e.change
  pub position : number_at 24 8 bytes ≡ from
  pub change : HasChange relations bytes e.change
  pub valid : IsChange (end_of e) e.change
  pub room : end_of e ≤ last_position
  pub follows : MayFollow before e.change

-- The longest sequence of records that are well formed, the first at the position `from`
unfoldable pub Reads : List RelEntry → ℕ → List Entry → List ℕ → List Entry → Type 0
Reads relations from before bytes [] = (e : Entry) → IsRecord relations from before bytes e → ⊥
Reads relations from before bytes (e ∷ es) = IsRecord relations from before bytes e
    × Reads relations (end_of e) (before ++ e ∷ []) (drop (change_size e.change) bytes) es

-- the mark with which a log begins: 'PGBUFLOG'
abbrev pub log_mark : List ℕ
log_mark = 80 ∷ 71 ∷ 66 ∷ 85 ∷ 70 ∷ 76 ∷ 79 ∷ 71 ∷ []

-- A head: the mark, and a base that is a multiple of 8 and at most the last position
pub record IsHead (bytes : List ℕ) (base : ℕ) : Type 0 where
  pub long : 16 ≤ length bytes
  pub mark : take 8 bytes ≡ log_mark
  pub base_is : number_at 8 8 bytes ≡ base
  pub aligned : base % 8 ≡ 0
  pub low : base ≤ last_position

-- 16 bytes are there, but they are no head
abbrev pub HasBadHead : List ℕ → Type 0
HasBadHead bytes = (16 ≤ length bytes) × ((base : ℕ) → IsHead bytes base → ⊥)

-- The log that a file's bytes are: with fewer than 16 bytes the one at 0 without entries; else,
-- behind a head, the longest sequence of records that are well formed
pub data IsLogOf (relations : List RelEntry) (bytes : List ℕ) : Log → Type 0 where
  too_short : length bytes < 16 → IsLogOf relations bytes (record { base = 0; entries = [] })
  from_head : (base : ℕ) (es : List Entry) → IsHead bytes base
      → Reads relations base [] (drop 16 bytes) es
      → IsLogOf relations bytes (record { base = base; entries = es })

-- What a record of a page has in these bytes
pub record IsImageRecord (relations : List RelEntry) (from : ℕ) (bytes : List ℕ) : Type 0 where
  pub kind : number_at 0 4 bytes ≡ 1
  pub position : number_at 24 8 bytes ≡ from
  pub word : ℕ
  pub named : NamesBlock relations bytes word
  pub image : IsImage (from + record_size) (take 8192 (drop 32 bytes))

-- the entry that such a record is read as
abbrev pub image_entry : ℕ → Tag → List ℕ → Entry
image_entry from tag page =
    record { start = from; backend = 0; change = image (packed_tag tag) page }
