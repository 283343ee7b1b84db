-- The log that bytes are read as.
use Rattle.std.proofs.Common.{◌≡◌, ℕ, zero, suc, ◌%◌, ◌<◌, ◌≤◌, true, List, [], ◌∷◌, ◌++◌, length, length-append, drop, sym, refl, ap, ◌∙◌, subst, arith}
use Rattle.std.proofs.lemmas.List.{append_assoc, drop_at}
use mathlib.Core.Option.{some, some-ne-none, some-injective}
use lib.ListN.{get_elem?}
use Rattle.byteorder.specs.Numbers.{little_number-reads_back}
use Rattle.block_tag.specs.declared.catalogue.RelEntry.{RelEntry}
use Rattle.block_tag.specs.Catalogue.{IsCatalogue}
use Rattle.history_core.specs.Log.{Change, image, ranges, resize, Entry, Log, LogLaw, AreImages, IsChange, AreChained, change_size, record_size, records, head_bytes, log_bytes, log_end, is_image, end_of, end_from}
use Rattle.history_core.specs.State.{last_position}
use Rattle.history_core.proofs.Logs.{none_chained, end_none}
use Rattle.table_rule.specs.Blocks.{log_name}
use Rattle.log_recovery.specs.Records.{HasChange, IsHead, IsLogOf, too_short, from_head, Reads}
use Rattle.log_recovery.specs.Laws.{AreWritten, without_backends}
use Rattle.log_recovery.proofs.Same.{read_once}
use Rattle.log_recovery.proofs.Back.{read_back}

-- What a record that is read is
record IsReadEntry (e : Entry) : Type 0 where
  valid : IsChange (end_of e) e.change
  whole : is_image e.change ≡ true

module _ (relations : List RelEntry) where
  is_whole : (bytes : List ℕ) (c : Change) → HasChange relations bytes c → is_image c ≡ true
  is_whole bytes (image word page) has = refl
  is_whole bytes (ranges word spans) has = absurd has
  is_whole bytes (resize fork old new) has = absurd has

  chained_read : (from : ℕ) (before : List Entry) (bytes : List ℕ) (es : List Entry) → Reads relations from before bytes es → AreChained from es
  unfolding Reads AreChained
  chained_read from before bytes [] reads = tt
  chained_read from before bytes (e ∷ es) reads = (reads.0.starts, chained_read (end_of e) (before ++ e ∷ []) (drop (change_size e.change) bytes) es reads.1)

  each_read : (from : ℕ) (before : List Entry) (bytes : List ℕ) (es : List Entry) → Reads relations from before bytes es → (k : ℕ) (x : Entry) → get_elem? es k ≡ some x → IsReadEntry x
  unfolding Reads
  each_read from before bytes [] reads k x at = absurd (some-ne-none x (sym at))
  each_read from before bytes (e ∷ es) reads zero x at = subst IsReadEntry (some-injective e x at) (record { valid = reads.0.valid; whole = is_whole bytes e.change reads.0.change })
  each_read from before bytes (e ∷ es) reads (suc k) x at = each_read (end_of e) (before ++ e ∷ []) (drop (change_size e.change) bytes) es reads.1 k x at

  end_read : (from : ℕ) (before : List Entry) (bytes : List ℕ) (es : List Entry) → from ≤ last_position → Reads relations from before bytes es → end_from from es ≤ last_position
  unfolding Reads end_from
  end_read from before bytes [] low reads = low
  end_read from before bytes (e ∷ es) low reads = end_read (end_of e) (before ++ e ∷ []) (drop (change_size e.change) bytes) es reads.0.room reads.1

  -- it is a log of whole pages
  pub is_log : (bytes : List ℕ) (log : Log) → IsLogOf relations bytes log → LogLaw log × AreImages log.entries × (log_end log ≤ last_position)
  is_log bytes _ (too_short short) = (
    record { chained = none_chained 0; valid = λ k e at. absurd (some-ne-none e (sym at)) },
    λ k e at. absurd (some-ne-none e (sym at)),
    (let none = end_none 0 in omega (arith, none)),
  )
  is_log bytes _ (from_head base es head reads) = let each = each_read base [] (drop 16 bytes) es reads in (
    record { chained = chained_read base [] (drop 16 bytes) es reads; valid = λ k e at. (each k e at).valid },
    λ k e at. (each k e at).whole,
    end_read base [] (drop 16 bytes) es head.low reads,
  )

  abbrev log_of : ℕ → List Entry → Log
  log_of base es = record { base = base; entries = es }

  -- and one
  pub one_log : IsCatalogue relations → (bytes : List ℕ) (a b : Log) → IsLogOf relations bytes a → IsLogOf relations bytes b → a ≡ b
  one_log catalogue bytes _ _ (too_short x) (too_short y) = refl
  one_log catalogue bytes _ _ (too_short x) (from_head base es head reads) = absurd (let long = head.long in omega (arith, long, x))
  one_log catalogue bytes _ _ (from_head base es head reads) (too_short x) = absurd (let long = head.long in omega (arith, long, x))
  one_log catalogue bytes _ _ (from_head a es x reads) (from_head b ds y also) = let same : a ≡ b = sym x.base_is ∙ y.base_is in
      ap (λ (n : ℕ). log_of n es) same ∙ ap (log_of b) (read_once relations catalogue b [] (drop 16 bytes) es ds (subst (λ (n : ℕ). Reads relations n [] (drop 16 bytes) es) same reads) also)

  -- the head of a log, whatever follows it
  pub head_read : (base : ℕ) (tail : List ℕ) → base % 8 ≡ 0 → base ≤ last_position → IsHead (head_bytes base ++ tail) base
  head_read base tail aligned low = record {
    long = (let head : length (head_bytes base) ≡ 16 = refl in let all = length-append (head_bytes base) tail in omega (arith, head, all));
    mark = refl;
    base_is = little_number-reads_back 8 base tail (omega (arith, low));
    aligned = aligned;
    low = low;
  }

  pub log_read : (log : Log) (rest : List ℕ) → LogLaw log → AreWritten relations log.entries → log.base % 8 ≡ 0 → log.base ≤ last_position → length rest < record_size → IsLogOf relations (log_bytes (log_name relations) log ++ rest) (record log { entries = without_backends log.entries })
  log_read log rest law written aligned low short = let body : List ℕ = records (log_name relations) log.entries ++ rest in
      subst (λ (l : List ℕ). IsLogOf relations l (log_of log.base (without_backends log.entries))) (sym (append_assoc (head_bytes log.base) (records (log_name relations) log.entries) rest))
      (from_head log.base (without_backends log.entries) (head_read log.base body aligned low)
      (subst (λ (l : List ℕ). Reads relations log.base [] l (without_backends log.entries)) (sym (drop_at (head_bytes log.base) body 16 refl))
      (read_back relations log.base [] log.entries rest law.chained written short)))
