-- What a survey of the lanes tells of the catalogue's blocks, and what it leaves of the lanes.
use Rattle.std.specs.Prelude.{◌≡◌, ◌⊎◌, ℕ, ◌+◌, ◌<◌, ◌≤◌, true, List, get_or, length, slice_set}
use Rattle.std.specs.Prelude.{map, sum_by, Option, Some, IsSome, IsSomeAnd}
use Rattle.std.specs.Option.{ForSome}
use Rattle.block_tag.specs.declared.catalogue.RelEntry.{RelEntry}
use Rattle.block_tag.specs.declared.tag.Fork.{Fork}
use Rattle.block_tag.specs.declared.tag.Fork.TheVariants.{Main, Fsm, Vm, Init}
use Rattle.block_tag.specs.declared.tag.Tag.{Tag}
use Rattle.block_tag.specs.Catalogue.{blocks_of}
use Rattle.block_tag.specs.Names.{fork_number, lane_number, names_block}
use Rattle.byte_devices.specs.Faults.{Rose}
use Rattle.page_layout.specs.Fields.{lsn_of}
use Rattle.page_layout.specs.Soundness.{is_sound_page}
use Rattle.segment_store.specs.Contents.{Marks, Pages}
use Rattle.segment_store.specs.Lanes.{lane_at, page_in}
use Rattle.table_rule.specs.Blocks.{has_block}

-- a tag of one of the catalogue's blocks
abbrev pub IsListed : List RelEntry → Tag → Type 0
IsListed catalog tag = has_block catalog tag ≡ true

-- a tag of one of the catalogue's blocks that names a block: no other has a number
abbrev pub IsListedByName : List RelEntry → Tag → Type 0
IsListedByName catalog tag = (names_block tag ≡ true) × IsListed catalog tag

-- each of these blocks is in its lane, if the lane's contents are known
abbrev pub HaveTheirs : (Tag → Type 0) → List (Option Pages) → Type 0
HaveTheirs blocks lanes =
    (tag : Tag) → blocks tag → ForSome (lane_at lanes tag) (λ pages. IsSome (pages tag))

-- The page is sound, and this is its log position
pub record IsSoundAt (lsn : ℕ) (page : List ℕ) : Type 0 where
  pub sound : is_sound_page page ≡ true
  pub position : lsn_of page ≡ lsn

-- The log position of the page of one of these blocks, which is sound if it is known
pub record IsLsnOf (blocks : Tag → Type 0) (lanes : List (Option Pages)) (tag : Tag)
    (lsn : ℕ) : Type 0 where
  pub listed : blocks tag
  pub page : ForSome (lane_at lanes tag) (λ pages. IsSomeAnd (pages tag) (IsSoundAt lsn))

-- The largest log position of the sound pages of these blocks: no page that is known has a larger
-- one, and it is that of a block, or 0
pub record IsLargestLsn (blocks : Tag → Type 0) (lanes : List (Option Pages))
    (largest : ℕ) : Type 0 where
  pub bound : (tag : Tag) (page : List ℕ) → blocks tag → page_in lanes tag ≡ Some page
      → is_sound_page page ≡ true → lsn_of page ≤ largest
  pub reached : (largest ≡ 0) ⊎ ((tag : Tag) × IsLsnOf blocks lanes tag largest)

-- one number for each fork, added up
abbrev pub sum_of_forks : (Fork → ℕ) → ℕ
sum_of_forks blocks = blocks Main + (blocks Fsm + (blocks Vm + blocks Init))

-- how many blocks a relation has, and how many a catalogue has
abbrev pub relation_blocks : RelEntry → ℕ
relation_blocks e = sum_of_forks (blocks_of e)

abbrev pub catalog_blocks : List RelEntry → ℕ
catalog_blocks catalog = sum_by relation_blocks catalog

-- The count of the lane of this tag rose, and those of the other lanes are as they were
pub record RoseAt (tag : Tag) (lanes : ℕ) (old new : List ℕ) : Type 0 where
  pub count : ℕ
  pub rose : Rose (get_or old (lane_number tag lanes) 0) count
  pub others : new ≡ slice_set old (lane_number tag lanes) count

module _ {L : Type 0} (contents : L → Option Pages) (failed_writes unsynced : L → Marks)
    (write_faults : L → ℕ) where
  -- The lanes have what they had, and no write or sync was made
  pub record AreOnlyRead (old new : List L) : Type 0 where
    pub contents_same : map contents new ≡ map contents old
    pub failed_same : map failed_writes new ≡ map failed_writes old
    pub unsynced_same : map unsynced new ≡ map unsynced old
    pub writes_same : map write_faults new ≡ map write_faults old

module _ {L : Type 0} (contents : L → Option Pages) (failed_writes unsynced : L → Marks)
    (read_faults write_faults calls : L → ℕ) where
  -- Each of these blocks was read, and no read failed
  pub record Surveys (blocks : Tag → Type 0) (count : ℕ) (old new : List L)
      (largest : ℕ) : Type 0 where
    pub same : AreOnlyRead contents failed_writes unsynced write_faults old new
    pub faults : map read_faults new ≡ map read_faults old
    pub read : sum_by calls new ≡ sum_by calls old + count
    pub position : IsLargestLsn blocks (map contents old) largest

  -- The read of one of them failed, and no further block was read
  pub record FailsToRead (blocks : Tag → Type 0) (count : ℕ) (old new : List L)
      (tag : Tag) : Type 0 where
    pub same : AreOnlyRead contents failed_writes unsynced write_faults old new
    pub listed : blocks tag
    pub faults : RoseAt tag (length old) (map read_faults old) (map read_faults new)
    pub some_read : sum_by calls old < sum_by calls new
    pub within : sum_by calls new ≤ sum_by calls old + count

-- the blocks are this one
abbrev pub AreOfBlock : Tag → Tag → Type 0
AreOfBlock tag other = other ≡ tag

-- the first `count` blocks of a fork
abbrev pub AreOfFork : ℕ → Fork → ℕ → Tag → Type 0
AreOfFork rel fork count tag = (tag.rel.0 ≡ rel) × (tag.fork ≡ fork) × (tag.block < count)

-- the blocks of a relation's first `forks` forks
abbrev pub AreOfForks : List RelEntry → ℕ → ℕ → Tag → Type 0
AreOfForks catalog rel forks tag =
    (tag.rel.0 ≡ rel) × (fork_number tag.fork < forks) × IsListed catalog tag

-- the blocks of a relation
abbrev pub AreOfRelation : List RelEntry → ℕ → Tag → Type 0
AreOfRelation catalog rel tag = (tag.rel.0 ≡ rel) × IsListed catalog tag

-- the blocks of the catalogue's first `relations` relations
abbrev pub AreOfRelations : List RelEntry → ℕ → Tag → Type 0
AreOfRelations catalog relations tag = (tag.rel.0 < relations) × IsListed catalog tag
