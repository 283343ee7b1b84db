-- What a recovery makes of what is left of a rewrite: of its log, and of the relation's pages.
use Rattle.std.specs.Prelude.{◌≡◌, ℕ, ◌+◌, ◌-◌, ◌%◌, ◌^◌, ◌<◌, ◌≤◌, Bool, true, false, List, []}
use Rattle.std.specs.Prelude.{◌∷◌, ◌++◌, length, Option, Some, unwrap_or}
use mathlib.Core.Option.{some}
use lib.ListN.{get_elem?}
use Rattle.block_tag.specs.declared.catalogue.RelEntry.{RelEntry}
use Rattle.block_tag.specs.declared.tag.Fork.TheVariants.{Main}
use Rattle.command_line.specs.RelationPath.{relation_number}
use Rattle.byte_devices.specs.MemoryLog.{StoredLog}
use Rattle.pin_core.specs.State.{Page}
use Rattle.history_core.specs.Log.{Entry, IsEntryOf, Log, end_of, head_size, log_end, page_after}
use Rattle.history_core.specs.Log.{record_size, tag_in}
use Rattle.history_core.specs.State.{last_position}
use Rattle.history_core.specs.Unentered.{IsEntered}
use Rattle.log_recovery.specs.Laws.{without_backends}
use Rattle.log_recovery.specs.Records.{HasBadHead, IsLogOf}
use Rattle.relation_commands.specs.Limits.{log_base}
use Rattle.relation_commands.specs.RecoverFiles.{IsRecoveredAt, RecoverLeaves, catalog_of, word_at}
use Rattle.command_line.specs.Request.{LoggedAsked, recover_options}
use Rattle.relation_commands.specs.RewriteFiles.{HostFiles, IsHeadBegun, fork_at, main_rule}
use Rattle.relation_commands.specs.RewriteFiles.{pages_at}
use Rattle.relation_commands.specs.RewriteResults.{HasImages, IsDurable, LeavesEither}
use Rattle.relation_commands.specs.Starting.{names_of}

-- What a crash that loses what wasn't synced leaves of a rewrite's log and pages: a prefix of the
-- file's bytes, with all that were synced; and as it was each block without a durable entry whose
-- last write didn't fail. Such a block was written, if at all, with the page that it had, after a
-- put that was refused: that the crash doesn't tear that write is assumed
pub record IsLostFrom (log : Log) (file : StoredLog) (after left : List Page)
    (failed : ℕ → Bool) (bytes : List ℕ) : Type 0 where
  pub lost : List ℕ
  pub prefix : bytes ++ lost ≡ file.bytes
  pub synced : file.synced ≤ length bytes
  pub stays : (block : ℕ) (new page : Page) → get_elem? after block ≡ some new
      → get_elem? left block ≡ some page → failed block ≡ false
      → ((k : ℕ) (e : Entry) → IsEntryOf log.entries (word_at block) k e
      → IsDurable log file e → ⊥) → page ≡ new

-- What redo of the entries that are read makes of a block whose page was `old` before the rewrite:
-- `log` is the rewrite's log, and `rest` what stands in its file after it
pub data IsRecoveredBlock (log : Log) (rest : List ℕ) (es : List Entry) (block : ℕ) (old : Page)
    (failed : Bool) (now : Option Page) : Type 0 where
  as_before : (IsEntered es (word_at block) → ⊥) → now ≡ Some old
      → IsRecoveredBlock log rest es block old failed now
  -- the rule changes it, and it has the page of its entry
  by_the_rule : (k : ℕ) (e : Entry) → IsEntryOf log.entries (word_at block) k e
      → main_rule.changes old ≡ true → now ≡ Some (main_rule.rewritten old (end_of e))
      → IsRecoveredBlock log rest es block old failed now
  -- its last write failed, and no entry of it is read
  torn_before : (IsEntered es (word_at block) → ⊥) → failed ≡ true
      → IsRecoveredBlock log rest es block old failed now
  -- the rule changes it and the log has no entry of it, but the record that would be the log's next
  -- one is its own, stands whole in the file and is read: it has the page of that
  by_the_next : (e : Entry) → es ≡ without_backends (log.entries ++ e ∷ [])
      → length rest ≡ record_size → tag_in e.change ≡ Some (word_at block)
      → (IsEntered log.entries (word_at block) → ⊥) → main_rule.changes old ≡ true
      → now ≡ Some (main_rule.rewritten old (log_end log + record_size))
      → IsRecoveredBlock log rest es block old failed now

-- What is read of a rewrite's log, of which these bytes are left, recovers the rewrite's pages
pub record Recovers (path : List ℕ) (log : Log) (rest : List ℕ) (file : StoredLog)
    (before left : List Page) (failed : ℕ → Bool) (bytes : List ℕ) : Type 0 where
  pub head : HasBadHead bytes → ⊥
  -- each block with an entry whose whole record is left has one among those that are read
  pub whole : (read : Log) → IsLogOf (catalog_of path) bytes read
      → (block k : ℕ) (e : Entry) → IsEntryOf log.entries (word_at block) k e
      → head_size + end_of e ≤ log.base + length bytes → IsEntered read.entries (word_at block)
  -- each block with a durable entry has one among those that are read
  pub durable : (read : Log) → IsLogOf (catalog_of path) bytes read
      → (block k : ℕ) (e : Entry) → IsEntryOf log.entries (word_at block) k e
      → IsDurable log file e → IsEntered read.entries (word_at block)
  -- each entry that is read is what the rule makes of one of the pages, and a block has one at most
  pub images : (read : Log) → IsLogOf (catalog_of path) bytes read → HasImages main_rule before read
  pub each : (read : Log) → IsLogOf (catalog_of path) bytes read
      → (block : ℕ) (old page : Page) → get_elem? before block ≡ some old
      → get_elem? left block ≡ some page
      → IsRecoveredBlock log rest read.entries block old (failed block)
      (page_after (word_at block) read.entries (Some page))

-- The log recovers the pages after any end of a rewrite that began it, and a loss since of what
-- wasn't synced
abbrev pub RecoversRewrite : Type 0
RecoversRewrite = (path : List ℕ) (blocks base : ℕ) (before after left : List Page)
    (failed : ℕ → Bool) (file : StoredLog) → base % 8 ≡ 0 → length before ≤ 2 ^ 32 - 1
    → (leaves : LeavesEither main_rule (names_of (record {
      number = unwrap_or (relation_number path) 0;
      fork = Main;
      blocks = blocks;
    })) base before after failed file)
    → (bytes : List ℕ) → IsLostFrom leaves.log file after left failed bytes
    → Recovers path leaves.log leaves.begins.rest file before left failed bytes

-- no beginning of a log that was only begun has a bad head or entries, whatever the relations
abbrev pub BegunLogsAreEmpty : Type 0
BegunLogsAreEmpty = (base : ℕ) → base % 8 ≡ 0 → base ≤ last_position
    → (file lost bytes : List ℕ) → IsHeadBegun base file → bytes ++ lost ≡ file
    → (HasBadHead bytes → ⊥)
    × ((relations : List RelEntry) (log : Log) → IsLogOf relations bytes log → log.entries ≡ [])

-- What a loss of what wasn't synced leaves of the files after a rewrite: so much of the relation
-- and of the log
pub record LosesFiles (r : LoggedAsked) (log : Log) (file : StoredLog) (after : List Page)
    (done left : HostFiles) : Type 0 where
  pub kept : StoredLog
  pub there : left.logs r.log ≡ Some kept
  pub loss : IsLostFrom log file after (pages_at r left.paths) (done.failed r.path) kept.bytes

-- the recovery by a rewrite's log, over this many lanes
abbrev pub recovery_of : LoggedAsked → ℕ → LoggedAsked
recovery_of r lanes = record {
  path = r.path;
  log = r.log;
  options = recover_options lanes r.options.seg_blocks;
}

-- a recovery that was done after a rewrite, and after a loss, recovers each block
abbrev pub RecoversFilesLeft : Type 0
RecoversFilesLeft = (r : LoggedAsked) (lanes : ℕ) → 1 ≤ r.options.seg_blocks
    → (old done left new : HostFiles) (after : List Page) (file : StoredLog)
    → (leaves : LeavesEither main_rule (names_of (fork_at r old.paths))
    (log_base (pages_at r old.paths)) (pages_at r old.paths) after (done.failed r.path) file)
    → LosesFiles r leaves.log file after done left
    → (recovered : IsRecoveredAt (recovery_of r lanes) left new)
    → (block : ℕ) (was now : Page) → get_elem? (pages_at r old.paths) block ≡ some was
    → block < length (pages_at r left.paths) → get_elem? (pages_at r new.paths) block ≡ some now
    → IsRecoveredBlock leaves.log leaves.begins.rest recovered.log.entries block was
    (done.failed r.path block) (Some now)

-- after a rewrite that only began its log it changes nothing
abbrev pub KeepsFilesLeft : Type 0
KeepsFilesLeft = (r : LoggedAsked) (lanes : ℕ) → 1 ≤ r.options.seg_blocks
    → (old left new : HostFiles) (file kept : StoredLog) (lost : List ℕ)
    → log_base (pages_at r old.paths) ≤ last_position
    → IsHeadBegun (log_base (pages_at r old.paths)) file.bytes
    → left.logs r.log ≡ Some kept → kept.bytes ++ lost ≡ file.bytes
    → IsRecoveredAt (recovery_of r lanes) left new → new.paths ≡ left.paths

-- again, over any lanes, a recovery changes no path
abbrev pub RecoversAgain : Type 0
RecoversAgain = (r : LoggedAsked) (lanes : ℕ) → 1 ≤ r.options.seg_blocks
    → (old done next new : HostFiles) → IsRecoveredAt r old done
    → next.paths ≡ done.paths → next.logs ≡ done.logs
    → IsRecoveredAt (recovery_of r lanes) next new → new.paths ≡ done.paths

-- What a loss of what wasn't synced leaves of the files after a recovery with any end: the log, and
-- as it was each block without an entry in it
pub record LosesEntered (r : LoggedAsked) (log : Log) (done left : HostFiles) : Type 0 where
  pub logs : left.logs ≡ done.logs
  pub stays : (block : ℕ) (new page : Page) → get_elem? (pages_at r done.paths) block ≡ some new
      → get_elem? (pages_at r left.paths) block ≡ some page
      → (IsEntered log.entries (word_at block) → ⊥) → page ≡ new

-- then a recovery that is done leaves each block as the first would have, had it been done
abbrev pub CompletesRecovery : Type 0
CompletesRecovery = (r : LoggedAsked) (lanes : ℕ) → 1 ≤ r.options.seg_blocks
    → (old done left new : HostFiles) → RecoverLeaves r old done
    → (second : IsRecoveredAt (recovery_of r lanes) left new)
    → LosesEntered r second.log done left
    → (block : ℕ) (was now : Page) → get_elem? (pages_at r old.paths) block ≡ some was
    → block < length (pages_at r left.paths) → get_elem? (pages_at r new.paths) block ≡ some now
    → Some now ≡ page_after (word_at block) second.log.entries (Some was)
