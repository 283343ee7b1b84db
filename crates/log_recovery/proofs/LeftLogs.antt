-- What a beginning of a log's file is read as.
use Rattle.std.proofs.Common.{◌≡◌, ℕ, ◌%◌, ◌≤◌, List, [], ◌++◌, length, drop, sym, ap, ◌∙◌, subst, arith}
use Rattle.std.proofs.lemmas.List.{append_assoc, take-append-le}
use Rattle.byteorder.specs.Numbers.{little_number-reads_back}
use Rattle.block_tag.specs.Catalogue.{IsCatalogue}
use Rattle.block_tag.specs.declared.catalogue.RelEntry.{RelEntry}
use Rattle.page_layout.specs.Fields.{number_at}
use Rattle.history_core.specs.Log.{AreChained, Entry, Log, head_bytes, log_bytes, record_size, records}
use Rattle.history_core.specs.State.{last_position}
use Rattle.table_rule.specs.Blocks.{log_name}
use Rattle.log_recovery.specs.Records.{IsHead, IsLogOf, Reads, from_head, too_short}
use Rattle.log_recovery.specs.Laws.{AreWritten, LeftRead, LogsAreLeft}
use Rattle.log_recovery.proofs.Decided.{read_somehow}
use Rattle.log_recovery.proofs.Left.{begins, goes_on, left_read}
use Rattle.log_recovery.proofs.Prefix.{number_kept}
use Rattle.log_recovery.proofs.ReadLogs.{head_read}

module _ (relations : List RelEntry) (catalogue : IsCatalogue relations) (log : Log) (rest bytes lost : List ℕ) (low : log.base ≤ last_position)
    (is : bytes ++ lost ≡ log_bytes (log_name relations) log ++ rest) where
  abbrev body : List ℕ
  body = records (log_name relations) log.entries ++ rest

  split : bytes ++ lost ≡ head_bytes log.base ++ body
  split = is ∙ append_assoc (head_bytes log.base) (records (log_name relations) log.entries) rest

  -- the head that is left is the log's
  base_left : (base : ℕ) → IsHead bytes base → base ≡ log.base
  base_left base head = sym head.base_is
      ∙ sym (number_kept 8 8 16 bytes (omega arith))
      ∙ ap (number_at 8 8) (sym (take-append-le 16 bytes lost head.long))
      ∙ number_kept 8 8 16 (bytes ++ lost) (omega arith)
      ∙ ap (number_at 8 8) split
      ∙ little_number-reads_back 8 log.base body (omega (arith, low))

  -- it is there, if 16 bytes are
  head_there : log.base % 8 ≡ 0 → 16 ≤ length bytes → IsHead bytes log.base
  head_there aligned long = subst (λ (l : List ℕ). IsHead l log.base) (sym (begins relations catalogue (head_bytes log.base) body bytes lost split long)) (head_read relations log.base (drop 16 bytes) aligned low)

  -- the entries behind it
  pub entries_left : AreChained log.base log.entries → AreWritten relations log.entries → length rest ≤ record_size → (base : ℕ) (ds : List Entry) → IsHead bytes base → Reads relations base [] (drop 16 bytes) ds → LeftRead log.base log.entries rest (length (drop 16 bytes)) ds
  entries_left chained written short base ds head reads = left_read relations catalogue rest lost short log.base [] log.entries (drop 16 bytes) ds chained written
      (goes_on relations catalogue (head_bytes log.base) body bytes lost split head.long)
      (subst (λ (n : ℕ). Reads relations n [] (drop 16 bytes) ds) (base_left base head) reads)

  log_left : AreChained log.base log.entries → AreWritten relations log.entries → length rest ≤ record_size → 16 ≤ length bytes → (left : Log) → IsLogOf relations bytes left
      → (left.base ≡ log.base) × LeftRead log.base log.entries rest (length (drop 16 bytes)) left.entries
  log_left chained written short long _ (too_short few) = absurd (omega (arith, long, few))
  log_left chained written short long _ (from_head base ds head reads) = (base_left base head, entries_left chained written short base ds head reads)

pub logs_left : LogsAreLeft
logs_left relations catalogue log rest bytes lost law written aligned low short is long =
    let there = head_there relations catalogue log rest bytes lost low is aligned long in
    let left = read_somehow relations bytes (λ bad. bad.1 log.base there) in
    let same = log_left relations catalogue log rest bytes lost low is law.chained written short long left.0 left.1 in
    (left.0, left.1, same.0, same.1)
