-- The steps of a recovery.
use Rattle.std.specs.Prelude.{◌≡◌, ℕ, ◌+◌, ◌<◌, ◌≤◌, true, ◌||◌, List, [], ◌∷◌, ◌++◌, drop, get_or}
use Rattle.std.specs.Prelude.{length, map, nat_eq, Option, Some, None, IfSome, if◌then◌else◌}
use Rattle.std.specs.BTreeSet as sorted
use Rattle.std.specs.BTreeSet.{btree_set_len}
use Rattle.std.specs.List.{list_any}
use Rattle.std.specs.Ordering.{nat_cmp}
use Rattle.block_tag.specs.Catalogue.{IsCatalogue}
use Rattle.block_tag.specs.Names.{names_block, packed_tag}
use Rattle.block_tag.specs.declared.catalogue.RelEntry.{RelEntry}
use Rattle.block_tag.specs.declared.tag.Tag.{Tag}
use Rattle.segment_store.specs.Contents.{Marks, Pages, no_marks}
use Rattle.history_core.specs.Log.{AreImages, Entry, IsImage, Log, LogLaw, change_size, end_from}
use Rattle.history_core.specs.Log.{end_of, record_size}
use Rattle.history_core.specs.State.{last_position}
use Rattle.segment_store.specs.Lanes.{HoldTheirs}
use Rattle.log_recovery.specs.Records.{IsHead, IsLogOf, IsRecord, Reads, image_entry}
use Rattle.log_recovery.specs.Redo.{IsEnteredBlock, MarksOnly, Redoes, block_count, words_of}
use Rattle.log_recovery.specs.declared.redo.Progress.{Progress}

-- after the head: the base, and the bytes behind it; or too few bytes for one
abbrev pub Begins : List ℕ → Option ℕ → Option (List ℕ) → Type 0
Begins bytes None left = length bytes < 16
Begins bytes (Some base) left = IsHead bytes base × (left ≡ Some (drop 16 bytes))

-- The bytes begin with a record of this page of the block
pub record IsNextImage (relations : List RelEntry) (from : ℕ) (tag : Tag) (page : List ℕ)
    (old left : Option (List ℕ)) : Type 0 where
  pub named : names_block tag ≡ true
  pub valid : IsImage (from + record_size) page
  pub stands : IfSome old (λ bytes. (left ≡ Some (drop record_size bytes))
      × ((before : List Entry) → IsRecord relations from before bytes (image_entry from tag page)))

-- no record at the position `from` is well formed
abbrev pub HasNoRecord : List RelEntry → ℕ → List ℕ → Type 0
HasNoRecord relations from bytes =
    (before : List Entry) (e : Entry) → IsRecord relations from before bytes e → ⊥

-- One record more
pub record StepsOn (tag : Tag) (p q : Progress) : Type 0 where
  pub base : q.base ≡ p.base
  pub position : q.position ≡ p.position + record_size
  pub entries : q.entries ≡ p.entries + 1
  pub blocks : (word : ℕ) → sorted.contains nat_cmp q.blocks word
      ≡ (nat_eq word (packed_tag tag) || sorted.contains nat_cmp p.blocks word)
  pub count : btree_set_len q.blocks
      ≡ btree_set_len p.blocks
      + (if sorted.contains nat_cmp p.blocks (packed_tag tag) then 0 else 1)

-- These entries have been read so far
pub record IsUpto (base : ℕ) (es : List Entry) (p : Progress) : Type 0 where
  pub base_is : p.base ≡ base
  pub position : p.position ≡ end_from base es
  pub entries : p.entries ≡ length es
  pub low : p.position ≤ last_position
  pub few : p.entries ≤ p.position
  pub law : LogLaw (record { base = base; entries = es })
  pub images : AreImages es
  pub blocks : (word : ℕ) → sorted.contains nat_cmp p.blocks word
      ≡ list_any (nat_eq word) (words_of es)
  pub count : btree_set_len p.blocks ≡ block_count es

-- These records stand first in the bytes, and these bytes follow them
unfoldable pub Stand : List RelEntry → ℕ → List Entry → List ℕ → List Entry → List ℕ → Type 0
Stand relations from before bytes [] rest = rest ≡ bytes
Stand relations from before bytes (e ∷ es) rest = IsRecord relations from before bytes e
    × Stand relations (end_of e) (before ++ e ∷ []) (drop (change_size e.change) bytes) es rest

-- these records stand first in a source, and this is left of it
abbrev pub StandIn : List RelEntry → ℕ → List Entry → Option (List ℕ) → Option (List ℕ) → Type 0
StandIn relations base es None left = left ≡ None
StandIn relations base es (Some bytes) left =
    (rest : List ℕ) × (left ≡ Some rest) × Stand relations base [] bytes es rest

-- these are the first entries of those that are read behind a head
abbrev pub AreFirstBehind : List RelEntry → ℕ → List ℕ → List Entry → Type 0
AreFirstBehind relations base bytes es = IsCatalogue relations
    → (ds : List Entry) → Reads relations base [] bytes ds → (rest : List Entry) × (ds ≡ es ++ rest)

-- these are the first entries of those that are read behind a head, if the bytes are known
abbrev pub LeadIn : List RelEntry → ℕ → Option (List ℕ) → List Entry → Type 0
LeadIn relations base source es = IfSome source (λ bytes. AreFirstBehind relations base bytes es)

module _ {L : Type 0} (contents : L → Option Pages) (failed : L → Marks) where
  -- Records were redone so far, and no call failed
  pub record IsUnderWay (unsynced places : L → Marks) (reads writes : L → ℕ)
      (relations : List RelEntry)
      (base : ℕ) (left left_now : Option (List ℕ)) (faults faults_now : ℕ) (old new : List L)
      (p : Progress) : Type 0 where
    pub done : List Entry
    pub upto : IsUpto base done p
    pub lanes : Redoes contents failed done old new
    pub stands : StandIn relations base done left left_now
    pub theirs : HoldTheirs (map contents old) → HoldTheirs (map contents new)
    pub marked : MarksOnly (IsEnteredBlock done) (map unsynced old) (map unsynced new)
    pub source_same : faults_now ≡ faults
    pub reads_same : map reads new ≡ map reads old
    pub writes_same : map writes new ≡ map writes old
    pub places_same : map places new ≡ map places old

  -- All records behind a head were redone
  pub record HaveRedone (relations : List RelEntry) (base : ℕ) (left : Option (List ℕ))
      (old new : List L) (p : Progress) : Type 0 where
    pub done : List Entry
    pub upto : IsUpto base done p
    pub lanes : Redoes contents failed done old new
    pub all : IfSome left (λ bytes. Reads relations base [] bytes done)

  -- A log was redone, that of the source's bytes, if they are known
  pub record HasRedone (relations : List RelEntry) (source : Option (List ℕ)) (old new : List L)
      (p : Progress) : Type 0 where
    pub log : Log
    pub is : IfSome source (λ bytes. IsLogOf relations bytes log)
    pub upto : IsUpto log.base log.entries p
    pub lanes : Redoes contents failed log.entries old new

-- Lanes are synced one after another, this many so far
pub record IsSyncing {L : Type 0} (contents : L → Option Pages) (failed unsynced places : L → Marks)
    (reads writes : L → ℕ) (count : ℕ) (old new : List L) : Type 0 where
  pub synced : (k : ℕ) (d : L) → k < count → unsynced (get_or new k d) ≡ no_marks
  pub unmarked : MarksOnly (λ tag. ⊥) (map unsynced old) (map unsynced new)
  pub contents_same : map contents new ≡ map contents old
  pub failed_same : map failed new ≡ map failed old
  pub reads_same : map reads new ≡ map reads old
  pub writes_same : map writes new ≡ map writes old
  pub places_same : map places new ≡ map places old
