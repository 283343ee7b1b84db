-- What holds of the log that bytes are read as, and of redo after redo.
use Rattle.std.specs.Prelude.{◌≡◌, ℕ, ◌+◌, ◌%◌, ◌<◌, ◌≤◌, ◌^◌, true, List, [], ◌∷◌, ◌++◌, drop}
use Rattle.std.specs.Prelude.{length, map, slice_get, Option, Some, is_some}
use mathlib.Core.Option.{some}
use lib.ListN.{get_elem?}
use Rattle.block_tag.specs.declared.tag.Tag.{Tag}
use Rattle.block_tag.specs.declared.catalogue.RelEntry.{RelEntry}
use Rattle.block_tag.specs.Names.{names_block, packed_tag}
use Rattle.block_tag.specs.Catalogue.{IsCatalogue}
use Rattle.pin_core.specs.State.{Page}
use Rattle.history_core.specs.Log.{image, Entry, Log, LogLaw, AreImages, AreValid, IsChange}
use Rattle.history_core.specs.Log.{AreChained, change_size, record_size, records, log_bytes}
use Rattle.history_core.specs.Log.{log_end, end_of, end_from, page_after}
use Rattle.history_core.specs.State.{last_position}
use Rattle.history_core.specs.Unentered.{IsEntered}
use Rattle.segment_store.specs.Contents.{Marks, Pages}
use Rattle.segment_store.specs.Lanes.{lane_at, mark_in, page_in}
use Rattle.table_rule.specs.Blocks.{log_name}
use Rattle.log_recovery.specs.Records.{HasBadHead, IsLogOf, Reads}
use Rattle.log_recovery.specs.Redo.{AreRedone, IsEnteredBlock, LeavesPart}

-- The block of a tag's number is one of the relations, and the log can write its numbers
pub record IsListed (relations : List RelEntry) (word : ℕ) : Type 0 where
  pub tag : Tag
  pub is : word ≡ packed_tag tag
  pub named : names_block tag ≡ true
  pub relation : RelEntry
  pub listed : slice_get relations tag.rel.0 ≡ Some relation
  pub tablespace : relation.tablespace < 2 ^ 32
  pub database : relation.database < 2 ^ 32
  pub number : relation.relation < 2 ^ 32

-- the entries without the backends that made them
unfoldable pub without_backends : List Entry → List Entry
without_backends [] = []
without_backends (e ∷ es) = record e { backend = 0 } ∷ without_backends es

-- An entry as a log of whole pages has it
pub record IsWritten (relations : List RelEntry) (e : Entry) : Type 0 where
  pub word : ℕ
  pub page : Page
  pub is : e.change ≡ image word page
  pub listed : IsListed relations word
  pub valid : IsChange (end_of e) e.change
  pub room : end_of e ≤ last_position

-- each entry is as a log of whole pages has it
abbrev pub AreWritten : List RelEntry → List Entry → Type 0
AreWritten relations es = (k : ℕ) (e : Entry) → get_elem? es k ≡ some e → IsWritten relations e

-- What a beginning of a log's bytes is read as, which ends `left` bytes after the position `from`:
-- the first entries, each other one of which ends later; or all, and one more whose record is all
-- that stands behind the log
pub data LeftRead (from : ℕ) (es : List Entry) (rest : List ℕ) (left : ℕ)
    (ds : List Entry) : Type 0 where
  some_left : (kept later : List Entry) → es ≡ kept ++ later → ds ≡ without_backends kept
      → ((k : ℕ) (e : Entry) → get_elem? later k ≡ some e → from + left < end_of e)
      → LeftRead from es rest left ds
  one_beyond : (d : Entry) (word : ℕ) (page : Page) → d.change ≡ image word page
      → ds ≡ without_backends (es ++ d ∷ []) → d.start ≡ end_from from es
      → IsChange (end_of d) d.change → length rest ≡ change_size d.change
      → LeftRead from es rest left ds

-- The lanes agree but for blocks of these entries
pub record AgreeElsewhere (es : List Entry) (a b : List (Option Pages))
    (m n : List Marks) : Type 0 where
  pub count : (length b ≡ length a) × (length n ≡ length m)
  pub known : (tag : Tag) → is_some (lane_at b tag) ≡ is_some (lane_at a tag)
  pub pages : (tag : Tag) → is_some (lane_at a tag) ≡ true → (IsEnteredBlock es tag → ⊥)
      → page_in b tag ≡ page_in a tag
  pub marks : (tag : Tag) → is_some (lane_at a tag) ≡ true → (IsEnteredBlock es tag → ⊥)
      → mark_in n tag ≡ mark_in m tag

-- bytes are read as one sequence of entries
abbrev pub AreReadOnce : Type 0
AreReadOnce = (relations : List RelEntry) → IsCatalogue relations
    → (from : ℕ) (before : List Entry) (bytes : List ℕ) (es ds : List Entry)
    → Reads relations from before bytes es → Reads relations from before bytes ds → es ≡ ds

-- bytes are read as one log
abbrev pub IsOneLog : Type 0
IsOneLog = (relations : List RelEntry) → IsCatalogue relations
    → (bytes : List ℕ) (a b : Log) → IsLogOf relations bytes a → IsLogOf relations bytes b → a ≡ b

-- what bytes are read as is a log, of whole pages, and ends at the last position or before it
abbrev pub AreLogs : Type 0
AreLogs = (relations : List RelEntry) (bytes : List ℕ) (log : Log) → IsLogOf relations bytes log
    → LogLaw log × AreImages log.entries × (log_end log ≤ last_position)

-- the records of entries are read back, whatever shorter than a record follows them
abbrev pub AreReadBack : Type 0
AreReadBack = (relations : List RelEntry) (from : ℕ) (before es : List Entry) (rest : List ℕ)
    → AreChained from es → AreWritten relations es → length rest < record_size
    → Reads relations from before (records (log_name relations) es ++ rest) (without_backends es)

-- a log is read back from its bytes, whatever shorter than a record follows them
abbrev pub LogsAreReadBack : Type 0
LogsAreReadBack = (relations : List RelEntry) (log : Log) (rest : List ℕ)
    → LogLaw log → AreWritten relations log.entries
    → log.base % 8 ≡ 0 → log.base ≤ last_position → length rest < record_size
    → IsLogOf relations (log_bytes (log_name relations) log ++ rest)
    (record log { entries = without_backends log.entries })

-- any beginning of the records of entries, and of a record at most after them, is read as the first
-- of these entries, or as all and one more
abbrev pub AreLeftRead : Type 0
AreLeftRead = (relations : List RelEntry) → IsCatalogue relations
    → (from : ℕ) (before es : List Entry) (rest bytes lost : List ℕ) (ds : List Entry)
    → AreChained from es → AreWritten relations es → length rest ≤ record_size
    → bytes ++ lost ≡ records (log_name relations) es ++ rest
    → Reads relations from before bytes ds → LeftRead from es rest (length bytes) ds

-- any beginning of a log's file of which 16 bytes are left is read as a log with the same base
abbrev pub LogsAreLeft : Type 0
LogsAreLeft = (relations : List RelEntry) → IsCatalogue relations
    → (log : Log) (rest bytes lost : List ℕ) → LogLaw log → AreWritten relations log.entries
    → log.base % 8 ≡ 0 → log.base ≤ last_position → length rest ≤ record_size
    → bytes ++ lost ≡ log_bytes (log_name relations) log ++ rest → 16 ≤ length bytes
    → (left : Log) × IsLogOf relations bytes left × (left.base ≡ log.base)
    × LeftRead log.base log.entries rest (length (drop 16 bytes)) left.entries

-- after redo, redo changes no page
abbrev pub IsRedoneOnce : Type 0
IsRedoneOnce = (es : List Entry) → AreValid es → AreImages es
    → (a b c : List (Option Pages)) (m n o : List Marks)
    → AreRedone es a b m n → AreRedone es b c n o
    → (tag : Tag) → is_some (lane_at a tag) ≡ true → page_in c tag ≡ page_in b tag

-- redo of whole pages gives a block that has one the same page, whatever it had before
abbrev pub PagesAreSettled : Type 0
PagesAreSettled = (es : List Entry) → AreImages es → (tag : ℕ) → IsEntered es tag
    → (x y : Option Page) → page_after tag es x ≡ page_after tag es y

-- redo on lanes that differ in blocks of the log alone is redo: after a recovery that was broken
-- off, or of which a crash lost any blocks
abbrev pub IsCompleted : Type 0
IsCompleted = (es : List Entry) → AreValid es → AreImages es
    → (a b c : List (Option Pages)) (m n o : List Marks)
    → AgreeElsewhere es a b m n → AreRedone es b c n o → AreRedone es a c m o

-- what a recovery leaves that ended before its end differs so
abbrev pub ArePartsOf : {L : Type 0} → (L → Option Pages) → (L → Marks) → Type 0
ArePartsOf {L = L} contents failed = (relations : List RelEntry) → IsCatalogue relations
    → (bytes : List ℕ) (log : Log) → IsLogOf relations bytes log
    → (old new : List L) → LeavesPart contents failed relations (Some bytes) old new
    → AgreeElsewhere log.entries (map contents old) (map contents new)
    (map failed old) (map failed new)

-- bytes that have no bad head are read as some log
abbrev pub AreReadSomehow : Type 0
AreReadSomehow = (relations : List RelEntry) (bytes : List ℕ) → (HasBadHead bytes → ⊥)
    → (log : Log) × IsLogOf relations bytes log
