-- The log that a file's bytes tell.
use Rattle.std.specs.Prelude.{◌≡◌, ℕ, ◌-◌, ◌%◌, ◌^◌, ◌<◌, ◌≤◌, List, ◌++◌, length, unwrap_or}
use Rattle.block_tag.specs.declared.catalogue.RelEntry.{RelEntry}
use Rattle.block_tag.specs.declared.tag.Fork.TheVariants.{Main}
use Rattle.block_tag.specs.Catalogue.{IsCatalogue}
use Rattle.command_line.specs.RelationPath.{relation_number}
use Rattle.byte_devices.specs.MemoryLog.{StoredLog}
use Rattle.pin_core.specs.State.{Page}
use Rattle.history_core.specs.Log.{Log, LogLaw, log_bytes, record_size}
use Rattle.history_core.specs.State.{last_position}
use Rattle.table_rule.specs.Blocks.{log_name}
use Rattle.log_recovery.specs.Laws.{AreWritten, without_backends}
use Rattle.relation_commands.specs.RewriteFiles.{main_rule}
use Rattle.relation_commands.specs.RewriteResults.{IsRewrittenFile}
use Rattle.relation_commands.specs.Starting.{names_of}

-- Two logs of these relations' blocks whose bytes are the same, each with less than a record after
-- it, begin at one position and have the same entries, backends aside; and the same follows them
abbrev pub LogsAreTold : Type 0
LogsAreTold = (relations : List RelEntry) → IsCatalogue relations
    → (a b : Log) (rest more : List ℕ) → LogLaw a → LogLaw b
    → AreWritten relations a.entries → AreWritten relations b.entries
    → a.base % 8 ≡ 0 → b.base % 8 ≡ 0 → a.base ≤ last_position → b.base ≤ last_position
    → length rest < record_size → length more < record_size
    → log_bytes (log_name relations) a ++ rest ≡ log_bytes (log_name relations) b ++ more
    → (a.base ≡ b.base) × (without_backends a.entries ≡ without_backends b.entries)
    × (rest ≡ more)

-- how the log of the relation at a path names its blocks, of which there are this many
abbrev pub names_at : List ℕ → ℕ → ℕ → List ℕ
names_at path blocks = names_of (record {
  number = unwrap_or (relation_number path) 0;
  fork = Main;
  blocks = blocks;
})

-- the file that a whole rewrite leaves at a path determines where its log begins and the entries,
-- whatever pages the rewrite began with
abbrev pub RewrittenLogsAreTold : Type 0
RewrittenLogsAreTold = (path : List ℕ) (m n base other : ℕ) (before after pages next : List Page)
    (file same : StoredLog) → same.bytes ≡ file.bytes → base % 8 ≡ 0 → other % 8 ≡ 0
    → length before ≤ 2 ^ 32 - 1 → length pages ≤ 2 ^ 32 - 1
    → (a : IsRewrittenFile main_rule (names_at path m) base before after file)
    → (b : IsRewrittenFile main_rule (names_at path n) other pages next same)
    → (base ≡ other) × (without_backends a.log.entries ≡ without_backends b.log.entries)
