-- What a recovery leaves of the paths and the logs of a host.
use Rattle.std.specs.Prelude.{◌≡◌, ◌⊎◌, ℕ, ◌+◌, ◌-◌, ◌^◌, ◌<◌, ◌≤◌, true, false, List, [], ◌∷◌}
use Rattle.std.specs.Prelude.{◌++◌, Some, IfSome, IsSomeAnd, length, unwrap_or, if◌then◌else◌}
use Rattle.std.specs.Str.{bytes_eq}
use mathlib.Core.Option.{some}
use lib.ListN.{get_elem?}
use Rattle.block_tag.specs.declared.catalogue.RelEntry.{RelEntry}
use Rattle.block_tag.specs.declared.tag.Fork.TheVariants.{Main}
use Rattle.block_tag.specs.Names.{packed_tag}
use Rattle.command_line.specs.RelationPath.{relation_number}
use Rattle.byte_devices.specs.Faults.{Rose}
use Rattle.byte_devices.specs.MemoryLog.{StoredLog}
use Rattle.segment_store.specs.Growth.{extended}
use Rattle.segment_store.specs.Lanes.{tag_at}
use Rattle.segment_store.specs.Logs.{Logs}
use Rattle.segment_store.specs.Paths.{OpenAt, Paths}
use Rattle.segment_store.specs.Relation.{relation_of}
use Rattle.pin_core.specs.State.{Page}
use Rattle.history_core.specs.Log.{AreImages, AreValid, Entry, Log, page_after}
use Rattle.history_core.specs.Unentered.{IsEntered}
use Rattle.log_recovery.specs.Records.{HasBadHead, IsLogOf}
use Rattle.command_line.specs.Request.{LoggedAsked}
use Rattle.relation_commands.specs.RewriteFiles.{HostFiles, KeepsFiles, pages_at, relation_at}
use Rattle.relation_commands.specs.RewriteFiles.{with_blocks}
use Rattle.relation_commands.specs.RewriteResults.{AreFull}
use Rattle.relation_commands.specs.Starting.{relation_entry}

-- the catalogue of a recovery: the relation at a path, by its number
abbrev pub catalog_of : List ℕ → List RelEntry
catalog_of path = relation_entry (record {
  number = unwrap_or (relation_number path) 0;
  fork = Main;
  blocks = 0;
}) ∷ []

-- how entries name a block of its main fork
abbrev pub word_at : ℕ → ℕ
word_at block = packed_tag (tag_at Main block)

-- this holds of the log of a recovery, if a file is at its path
abbrev pub ForLogOf : LoggedAsked → Logs → (Log → Type 0) → Type 0
ForLogOf r logs P =
    IfSome (logs r.log) (λ file. (log : Log) → IsLogOf (catalog_of r.path) file.bytes log → P log)

-- a file is there, and these are the first entries of its log; none if its head is bad
abbrev pub AreFirstIn : LoggedAsked → Logs → List Entry → Type 0
AreFirstIn r logs es = IsSomeAnd (logs r.log) (λ file. (HasBadHead file.bytes → es ≡ [])
    × ((log : Log) → IsLogOf (catalog_of r.path) file.bytes log
    → (rest : List Entry) × (log.entries ≡ es ++ rest)))

-- the relation that was opened is longer by this many new pages; all other paths are as they were
abbrev pub with_more : OpenAt → ℕ → Paths → Paths
with_more at n paths = λ path. if bytes_eq path at.path
    then extended at.seg_blocks (length (relation_of at.seg_blocks (paths path))) n (paths path)
    else paths path

-- the pages of the relation once it is so much longer
abbrev pub longer_pages : LoggedAsked → ℕ → Paths → List Page
longer_pages r n paths = pages_at r (with_more (relation_at r) n paths)

-- The relation at the path after these entries: each block has its page after them, unless its
-- last write failed, which is so of one block at most; all other bytes and paths are as they were
pub record RecoversTo (r : LoggedAsked) (es : List Entry) (old new : HostFiles) : Type 0 where
  -- how many blocks it grew by
  pub more : ℕ
  pub after : List Page
  pub paths : new.paths
      ≡ with_blocks (relation_at r) after (with_more (relation_at r) more old.paths)
  pub counted : length after ≡ length (longer_pages r more old.paths)
  pub full : AreFull after
  pub each : (block : ℕ) (was page : Page)
      → get_elem? (longer_pages r more old.paths) block ≡ some was
      → get_elem? after block ≡ some page → new.failed r.path block ≡ false
      → Some page ≡ page_after (word_at block) es (Some was)
  -- it has each block with an entry, and the last block that it grew by has one or its write failed
  pub reaches : (block : ℕ) → block < 2 ^ 32 - 1 → IsEntered es (word_at block)
      → new.failed r.path block ≡ false → block < length (pages_at r old.paths) + more
  pub needed : 0 < more → IsEntered es (word_at (length (pages_at r old.paths) + more - 1))
      ⊎ (new.failed r.path (length (pages_at r old.paths) + more - 1) ≡ true)
  -- the blocks that it grew by have numbers: so they are new pages before the entries
  pub fits : length (pages_at r old.paths) + more ≤ 2 ^ 32 - 1
  pub one : (a b : ℕ) → new.failed r.path a ≡ true → new.failed r.path b ≡ true → a ≡ b
  pub others : (other : List ℕ) → bytes_eq other r.path ≡ false
      → new.failed other ≡ old.failed other
  pub logs : new.logs ≡ old.logs

-- a file is there, whose head isn't bad, and its log has an entry of this block
abbrev pub IsEnteredIn : LoggedAsked → Logs → ℕ → Type 0
IsEnteredIn r logs block = IsSomeAnd (logs r.log) (λ file. (log : Log)
    × (IsLogOf (catalog_of r.path) file.bytes log × IsEntered log.entries (word_at block)))

-- What a recovery leaves with any end: all as it was, or the relation after some first entries of
-- the log; a block whose last write failed has an entry in the log, and its write comes to have
-- failed only if the count of such faults rose
pub data RecoverLeaves (r : LoggedAsked) (old new : HostFiles) : Type 0 where
  left_alone : KeepsFiles r old new → RecoverLeaves r old new
  redone_upto : (es : List Entry) → AreFirstIn r old.logs es → AreValid es × AreImages es
      → RecoversTo r es old new
      → ((block : ℕ) → new.failed r.path block ≡ true
      → IsEnteredIn r old.logs block × Rose old.write_faults new.write_faults)
      → RecoverLeaves r old new

-- The recovery was done: the relation is as after all entries of the log that the file is, and no
-- block's last write failed
pub record IsRecoveredAt (r : LoggedAsked) (old new : HostFiles) : Type 0 where
  pub file : StoredLog
  pub there : old.logs r.log ≡ Some file
  pub log : Log
  pub is : IsLogOf (catalog_of r.path) file.bytes log
  pub redone : RecoversTo r log.entries old new
  pub unfailed : (block : ℕ) → new.failed r.path block ≡ false

-- What a recovery leaves by its status: nothing is written before the log's head was read
pub record RecoversFiles (r : LoggedAsked) (status : ℕ) (old new : HostFiles) : Type 0 where
  pub any : RecoverLeaves r old new
  pub done : status ≡ 0 → IsRecoveredAt r old new
  pub refused : 1 ≤ status → status ≤ 3 → KeepsFiles r old new
  pub bad_log : status ≡ 10 → KeepsFiles r old new
  -- the text is put last
  pub out_fault : status ≡ 7 → IsRecoveredAt r old new
