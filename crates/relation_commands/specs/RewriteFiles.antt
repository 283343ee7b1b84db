-- What a rewrite leaves of the paths and the logs of a host.
use Rattle.std.specs.Prelude.{◌≡◌, ◌≢◌, ◌⊎◌, ℕ, ◌≤◌, ◌<◌, false, true, List, [], Option, Some, None}
use Rattle.std.specs.Prelude.{IfSome, IsSomeAnd, if◌then◌else◌, unwrap_or, length, ◌++◌}
use Rattle.std.specs.Str.{bytes_eq}
use Rattle.block_tag.specs.declared.tag.Fork.TheVariants.{Main}
use Rattle.command_line.specs.RelationPath.{relation_number}
use Rattle.byte_devices.specs.Faults.{Rose}
use Rattle.byte_devices.specs.MemoryLog.{StoredLog}
use Rattle.segment_store.specs.Logs.{Logs, with_log}
use Rattle.segment_store.specs.Paths.{OpenAt, PathMarks, Paths}
use Rattle.segment_store.specs.Relation.{relation_of}
use Rattle.segment_store.specs.Restored.{restored}
use Rattle.pin_core.specs.State.{Page}
use Rattle.history_core.specs.Log.{head_bytes}
use Rattle.history_core.specs.State.{last_position}
use Rattle.page_jobs.specs.Rewrites.{Rule, rule_of}
use Rattle.relation_commands.specs.declared.starting.RelationFork.{RelationFork}
use Rattle.relation_commands.specs.Limits.{log_base}
use Rattle.relation_commands.specs.Listings.{NoneFails}
use Rattle.command_line.specs.Request.{LoggedAsked}
use Rattle.relation_commands.specs.RewriteResults.{IsRewrittenFile, LeavesEither}
use Rattle.relation_commands.specs.Starting.{names_of}

-- The files of a host: the segments at each path, the blocks whose last write failed, and the logs;
-- with how many writes and syncs of lanes have failed, and how many openings and calls of logs
pub record HostFiles : Type 0 where
  pub paths : Paths
  pub failed : PathMarks
  pub logs : Logs
  pub write_faults : ℕ
  pub log_faults : ℕ

-- the files of a host, if its paths and logs are known
abbrev pub files_of : Option Paths → PathMarks → Option Logs → ℕ → ℕ → Option HostFiles
files_of (Some paths) failed (Some logs) writes faults = Some (record {
  paths = paths;
  failed = failed;
  logs = logs;
  write_faults = writes;
  log_faults = faults;
})
files_of (Some paths) failed None writes faults = None
files_of None failed logs writes faults = None

-- the files of this host, if its paths and logs are known
abbrev pub files_in : {H : Type 0} → (H → Option Paths) → (H → PathMarks) → (H → Option Logs)
    → (H → ℕ) → (H → ℕ) → H → Option HostFiles
files_in contents failed logs writes faults host =
    files_of (contents host) (failed host) (logs host) (writes host) (faults host)

-- the files became this, if they are known
abbrev pub BecomesOf : Option HostFiles → Option HostFiles → (HostFiles → HostFiles → Type 0)
    → Type 0
BecomesOf old new Leaves = IfSome old (λ files. IsSomeAnd new (Leaves files))

-- the relation that was opened has these pages as its blocks; all its other bytes, and all other
-- paths, are as they were
abbrev pub with_blocks : OpenAt → List Page → Paths → Paths
with_blocks at pages paths =
    λ path. if bytes_eq path at.path then restored at.seg_blocks (paths path) pages else paths path

abbrev pub relation_at : LoggedAsked → OpenAt
relation_at r = record { path = r.path; seg_blocks = r.options.seg_blocks }

-- the pages of the relation
abbrev pub pages_at : LoggedAsked → Paths → List Page
pages_at r paths = relation_of r.options.seg_blocks (paths r.path)

-- the main fork of the relation, as the manager and the log name it
abbrev pub fork_at : LoggedAsked → Paths → RelationFork
fork_at r paths = record {
  number = unwrap_or (relation_number r.path) 0;
  fork = Main;
  blocks = length (pages_at r paths);
}

abbrev pub main_rule : Rule
main_rule = rule_of 0 Main

-- No page was written: the paths are as they were, and no further block's last write failed
pub record KeepsPaths (r : LoggedAsked) (old new : HostFiles) : Type 0 where
  pub paths : new.paths ≡ old.paths
  pub failed : NoneFails r.options.seg_blocks old.paths r.path old.failed new.failed

-- nothing was written at all
pub record KeepsFiles (r : LoggedAsked) (old new : HostFiles) : Type 0 where
  pub pages : KeepsPaths r old new
  pub logs : new.logs ≡ old.logs

-- The relation has these pages now, and this file is at the log's path; all else is as it was
pub record Changes (r : LoggedAsked) (old new : HostFiles) (after : List Page)
    (file : StoredLog) : Type 0 where
  pub paths : new.paths ≡ with_blocks (relation_at r) after old.paths
  pub logs : new.logs ≡ with_log r.log file old.logs
  pub failed : (other : List ℕ) → bytes_eq other r.path ≡ false
      → new.failed other ≡ old.failed other

-- these are the first bytes of the head of a log that begins there, or all of them
pub record IsHeadBegun (base : ℕ) (bytes : List ℕ) : Type 0 where
  pub more : List ℕ
  pub whole : bytes ++ more ≡ head_bytes base

-- The log was emptied and a prefix of its head put, as a call of it failed; no page was written
pub record BeginsHead (r : LoggedAsked) (old new : HostFiles) : Type 0 where
  pub file : StoredLog
  pub low : log_base (pages_at r old.paths) ≤ last_position
  pub begun : IsHeadBegun (log_base (pages_at r old.paths)) file.bytes
  pub pages : KeepsPaths r old new
  pub logs : new.logs ≡ with_log r.log file old.logs
  pub fault : Rose old.log_faults new.log_faults

-- The log was begun, and each page is as before or that of its entry, or its last write failed
pub record BeginsLog (r : LoggedAsked) (old new : HostFiles) : Type 0 where
  pub after : List Page
  pub file : StoredLog
  pub changes : Changes r old new after file
  pub leaves : LeavesEither main_rule (names_of (fork_at r old.paths))
      (log_base (pages_at r old.paths)) (pages_at r old.paths) after (new.failed r.path) file
  -- a block's last write comes to have failed only if the count of such faults rose
  pub failed : (block : ℕ) → block < length (pages_at r old.paths)
      → new.failed r.path block ≡ true → Rose old.write_faults new.write_faults
  -- something follows the log's bytes only if the count of the log's faults rose
  pub rest : leaves.begins.rest ≢ [] → Rose old.log_faults new.log_faults

-- What a rewrite leaves with any end
pub data RewriteLeaves (r : LoggedAsked) (old new : HostFiles) : Type 0 where
  untouched : KeepsFiles r old new → RewriteLeaves r old new
  log_opened : BeginsHead r old new → RewriteLeaves r old new
  rewrote : BeginsLog r old new → RewriteLeaves r old new

-- The rewrite was done: the relation is the rewritten one, the file is that of its log, and no
-- block's last write failed
pub record IsRewrittenAt (r : LoggedAsked) (old new : HostFiles) : Type 0 where
  pub after : List Page
  pub file : StoredLog
  pub changes : Changes r old new after file
  pub rewritten : IsRewrittenFile main_rule (names_of (fork_at r old.paths))
      (log_base (pages_at r old.paths)) (pages_at r old.paths) after file
  pub unfailed : (block : ℕ) → block < length (pages_at r old.paths)
      → new.failed r.path block ≡ false

-- What a rewrite leaves by its status: nothing is written before the log is opened, which no
-- refusal of the words, the path or the positions is
pub record RewritesFiles (r : LoggedAsked) (status : ℕ) (old new : HostFiles) : Type 0 where
  pub any : RewriteLeaves r old new
  pub done : status ≡ 0 → IsRewrittenAt r old new
  pub refused : 1 ≤ status → status ≤ 3 → KeepsFiles r old new
  -- the log wasn't opened yet, or its head was whole
  pub read_fault : status ≡ 4 → KeepsFiles r old new ⊎ BeginsLog r old new
  -- only pages are written then
  pub write_fault : status ≡ 5 → BeginsLog r old new
  pub over_limit : status ≡ 9 → KeepsFiles r old new
  -- the text is put last
  pub out_fault : status ≡ 7 → IsRewrittenAt r old new
