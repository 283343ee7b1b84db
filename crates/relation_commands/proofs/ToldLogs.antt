-- The log that a file's bytes tell.
use Rattle.std.proofs.Common.{◌≡◌, ℕ, ◌-◌, ◌%◌, ◌^◌, ◌<◌, ◌≤◌, List, [], ◌∷◌, ◌++◌, append-nil, length, unwrap_or, sym, refl, ap, ◌∙◌, subst, arith}
use Rattle.std.proofs.lemmas.List.{append_cancel_left}
use Rattle.byte_devices.specs.MemoryLog.{StoredLog}
use Rattle.block_tag.specs.declared.catalogue.RelEntry.{RelEntry}
use Rattle.block_tag.specs.Catalogue.{IsCatalogue}
use Rattle.command_line.specs.RelationPath.{relation_number}
use Rattle.pin_core.specs.State.{Page}
use Rattle.history_core.specs.Log.{Entry, Log, LogLaw, head_bytes, log_bytes, record_bytes, record_size, records}
use Rattle.history_core.specs.State.{last_position}
use Rattle.history_core.proofs.Logs.{chain_end}
use Rattle.table_rule.specs.Blocks.{log_name}
use Rattle.log_recovery.specs.Laws.{AreWritten, without_backends}
use Rattle.log_recovery.specs.Records.{IsLogOf}
use Rattle.log_recovery.proofs.ReadLogs.{log_read, one_log}
use Rattle.relation_commands.specs.RecoverFiles.{catalog_of}
use Rattle.relation_commands.specs.RewriteFiles.{main_rule}
use Rattle.relation_commands.specs.RewriteResults.{IsRewrittenFile}
use Rattle.relation_commands.specs.ToldLogs.{LogsAreTold, RewrittenLogsAreTold, names_at}
use Rattle.relation_commands.proofs.RecoverNames.{names_by_number, one_catalogue}
use Rattle.relation_commands.proofs.WrittenImages.{images_written}

-- a record's bytes don't say which backend made it
records_without : (names : ℕ → List ℕ) (es : List Entry) → records names (without_backends es) ≡ records names es
unfolding records without_backends
records_without names [] = refl
records_without names (e ∷ es) = ap (λ (l : List ℕ). record_bytes names e ++ l) (records_without names es)

module _ (relations : List RelEntry) (catalogue : IsCatalogue relations) (a b : Log) (rest more : List ℕ) (law : LogLaw a) (other : LogLaw b)
    (written : AreWritten relations a.entries) (also : AreWritten relations b.entries) (aligned : a.base % 8 ≡ 0) (as_well : b.base % 8 ≡ 0) (low : a.base ≤ last_position) (below : b.base ≤ last_position)
    (short : length rest < record_size) (few : length more < record_size) (same : log_bytes (log_name relations) a ++ rest ≡ log_bytes (log_name relations) b ++ more) where
  abbrev bare : Log → Log
  bare log = record log { entries = without_backends log.entries }

  one : bare a ≡ bare b
  one = one_log relations catalogue (log_bytes (log_name relations) b ++ more) (bare a) (bare b)
      (subst (λ (l : List ℕ). IsLogOf relations l (bare a)) same (log_read relations a rest law written aligned low short))
      (log_read relations b more other also as_well below few)

  bases : a.base ≡ b.base
  bases = ap (λ (log : Log). log.base) one

  entries : without_backends a.entries ≡ without_backends b.entries
  entries = ap (λ (log : Log). log.entries) one

  same_bytes : log_bytes (log_name relations) a ≡ log_bytes (log_name relations) b
  same_bytes =
      ap (λ (l : List ℕ). head_bytes a.base ++ l) (sym (records_without (log_name relations) a.entries))
      ∙ ap (λ (log : Log). log_bytes (log_name relations) log) one
      ∙ ap (λ (l : List ℕ). head_bytes b.base ++ l) (records_without (log_name relations) b.entries)

  rests : rest ≡ more
  rests = append_cancel_left (log_bytes (log_name relations) b) rest more (ap (λ (l : List ℕ). l ++ rest) (sym same_bytes) ∙ same)

pub logs_told : LogsAreTold
logs_told relations catalogue a b rest more law other written also aligned as_well low below short few same = (
  bases relations catalogue a b rest more law other written also aligned as_well low below short few same,
  entries relations catalogue a b rest more law other written also aligned as_well low below short few same,
  rests relations catalogue a b rest more law other written also aligned as_well low below short few same,
)

-- What a whole rewrite's log is, as its bytes are read
record IsTold (path : List ℕ) (log : Log) (bytes : List ℕ) : Type 0 where
  written : AreWritten (catalog_of path) log.entries
  aligned : log.base % 8 ≡ 0
  low : log.base ≤ last_position
  is_bytes : bytes ≡ log_bytes (log_name (catalog_of path)) log ++ []

told_at : (path : List ℕ) (blocks base : ℕ) (before after : List Page) (file : StoredLog) → base % 8 ≡ 0 → length before ≤ 2 ^ 32 - 1
    → (a : IsRewrittenFile main_rule (names_at path blocks) base before after file) → IsTold path a.log file.bytes
told_at path blocks base before after file aligned few a = record {
  written = images_written path before a.log a.law a.images a.low few;
  aligned = ap (λ (n : ℕ). n % 8) a.based ∙ aligned;
  low = let end = chain_end a.log.base a.log.entries a.law.chained in let within = a.low in omega arith;
  is_bytes = a.is_bytes
      ∙ ap (λ (names : ℕ → List ℕ). log_bytes names a.log) (names_by_number (unwrap_or (relation_number path) 0) blocks)
      ∙ sym (append-nil (log_bytes (log_name (catalog_of path)) a.log));
}

pub rewritten_told : RewrittenLogsAreTold
rewritten_told path m n base other before after pages next file same is aligned as_well few also a b =
    let x = told_at path m base before after file aligned few a in
    let y = told_at path n other pages next same as_well also b in
    let z = logs_told (catalog_of path) (one_catalogue _) a.log b.log [] [] a.law b.law x.written y.written x.aligned y.aligned x.low y.low (omega arith) (omega arith) (sym x.is_bytes ∙ sym is ∙ y.is_bytes) in
    (sym a.based ∙ z.0 ∙ b.based, z.1)
