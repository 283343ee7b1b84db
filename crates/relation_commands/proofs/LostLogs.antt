-- What is read of a log's file of which the last bytes were lost.
use Rattle.std.proofs.Common.{◌≡◌, ℕ, zero, suc, ◌+◌, ◌%◌, ◌<◌, ◌≤◌, List, [], ◌∷◌, ◌++◌, length, drop, Option, Some, sym, refl, ap, ◌∙◌, subst, ⊎_elim, arith}
use Rattle.std.proofs.lemmas.List.{length-drop}
use mathlib.Core.Option.{some, some-injective, some-ne-none}
use lib.ListN.{get_elem?}
use Rattle.block_tag.specs.declared.catalogue.RelEntry.{RelEntry}
use Rattle.block_tag.specs.Catalogue.{IsCatalogue}
use Rattle.pin_core.specs.State.{Page}
use Rattle.history_core.specs.Log.{AreOfPages, Change, Entry, IsEntryOf, Log, LogLaw, change_size, changed_page, end_of, head_size, image, log_bytes, page_after, record_size, tag_in}
use Rattle.history_core.specs.State.{last_position}
use Rattle.history_core.specs.Unentered.{IsEntered}
use Rattle.history_core.proofs.Calls.{at_both}
use Rattle.history_core.proofs.Crashes.{entry_or_none}
use Rattle.history_core.proofs.Logs.{after_absent, chain_above, changed_image}
use Rattle.grid.proofs.Lists.{at_longer}
use Rattle.table_rule.specs.Blocks.{log_name}
use Rattle.log_recovery.specs.Laws.{AreWritten, LeftRead, one_beyond, some_left, without_backends}
use Rattle.log_recovery.specs.Records.{HasBadHead, IsLogOf, from_head, too_short}
use Rattle.log_recovery.proofs.Crash.{no_entries, without_at}
use Rattle.log_recovery.proofs.LeftLogs.{entries_left, logs_left}

-- an entry of those without backends is such an entry without its own
with_backend : (es : List Entry) (k : ℕ) (d : Entry) → get_elem? (without_backends es) k ≡ some d → (e : Entry) × (get_elem? es k ≡ some e) × (d ≡ record e { backend = 0 })
unfolding without_backends
with_backend [] k d at = absurd (some-ne-none d (sym at))
with_backend (e ∷ es) zero d at = (e, refl, sym (some-injective (record e { backend = 0 }) d at))
with_backend (e ∷ es) (suc k) d at = with_backend es k d at

-- a block has this page after entries that have no other of it, and one at least
pub settled_on : (word : ℕ) (page : Page) (es : List Entry) (x : Option Page) → AreOfPages es → ((k : ℕ) (e : Entry) → IsEntryOf es word k e → e.change ≡ image word page) → IsEntered es word → page_after word es x ≡ Some page
unfolding page_after
settled_on word page [] x valid all entered = absurd (some-ne-none entered.1 (sym entered.2.there))
settled_on word page (e ∷ es) x valid all entered = ⊎_elim
    (λ (t : IsEntered es word). settled_on word page es (changed_page e.change (end_of e) word x) (λ k d at. valid (suc k) d at) (λ k d of. all (suc k) d (record { there = of.there; of = of.of })) t)
    (λ (none : (k : ℕ) (d : Entry) → IsEntryOf es word k d → ⊥). after_absent word es (changed_page e.change (end_of e) word x) (λ k d at. valid (suc k) d at) none
    ∙ ap (λ (c : Change). changed_page c (end_of e) word x) (first entered none) ∙ changed_image word (end_of e) word page x refl)
    (entry_or_none es word)
  where
    first : IsEntered (e ∷ es) word → ((k : ℕ) (d : Entry) → IsEntryOf es word k d → ⊥) → e.change ≡ image word page
    first (zero, d, of) none = all 0 e (record { there = refl; of = ap (λ (y : Entry). tag_in y.change) (some-injective e d of.there) ∙ of.of })
    first (suc k, d, of) none = absurd (none k d (record { there = of.there; of = of.of }))

-- Bytes are the first ones of a log's and of what follows these, which is shorter than a record
pub record AreLeftOf (relations : List RelEntry) (bytes : List ℕ) (log : Log) : Type 0 where
  pub law : LogLaw log
  pub written : AreWritten relations log.entries
  pub aligned : log.base % 8 ≡ 0
  pub low : log.base ≤ last_position
  pub rest : List ℕ
  pub lost : List ℕ
  pub short : length rest < record_size
  pub is : bytes ++ lost ≡ log_bytes (log_name relations) log ++ rest

module _ (relations : List RelEntry) (catalogue : IsCatalogue relations) (bytes : List ℕ) (log : Log) (left : AreLeftOf relations bytes log) where
  few : length left.rest ≤ record_size
  few = let short = left.short in omega arith

  ends_above : (k : ℕ) (e : Entry) → get_elem? log.entries k ≡ some e → log.base + record_size ≤ end_of e
  ends_above k e at = let w = left.written k e at in let size : change_size e.change ≡ record_size = ap change_size w.is in let above = chain_above log.base log.entries left.law.chained k e at in omega (arith, size, above)

  -- they don't begin with a bad head
  pub good_head : HasBadHead bytes → ⊥
  good_head bad = let read = logs_left relations catalogue log left.rest bytes left.lost left.law left.written left.aligned left.low few left.is bad.0 in by_log read.0 read.1
    where
      by_log : (read : Log) → IsLogOf relations bytes read → ⊥
      by_log _ (too_short short) = let long = bad.0 in omega (arith, long, short)
      by_log _ (from_head base es head reads) = bad.1 base head

  -- Entries are the first ones of the log, backends aside, and each other one of it ends past the bytes
  pub record AreFirst (ds : List Entry) : Type 0 where
    pub kept : List Entry
    pub later : List Entry
    pub all : log.entries ≡ kept ++ later
    pub read : ds ≡ without_backends kept
    pub high : (k : ℕ) (e : Entry) → get_elem? later k ≡ some e → log.base + length (drop 16 bytes) < end_of e

  none_beyond : (ds : List Entry) → LeftRead log.base log.entries left.rest (length (drop 16 bytes)) ds → AreFirst ds
  none_beyond ds (some_left kept later all read high) = record { kept = kept; later = later; all = all; read = read; high = high }
  none_beyond ds (one_beyond d w page image_is read starts valid whole) = absurd (let size : change_size d.change ≡ record_size = ap change_size image_is in let short = left.short in omega (arith, size, short, whole))

  -- so they are read
  pub first_read : (read : Log) → IsLogOf relations bytes read → AreFirst read.entries
  first_read _ (too_short short) = record { kept = []; later = log.entries; all = refl; read = no_entries; high = λ k e at. let above = ends_above k e at in let less = length-drop 16 bytes in omega (arith, above, less, short) }
  first_read _ (from_head base es head reads) = none_beyond es (entries_left relations catalogue log left.rest bytes left.lost left.low left.is left.law.chained left.written few base es head reads)

  module _ (ds : List Entry) (first : AreFirst ds) where
    pub in_log : (k : ℕ) (e : Entry) → get_elem? first.kept k ≡ some e → get_elem? log.entries k ≡ some e
    in_log k e at = subst (λ (l : List Entry). get_elem? l k ≡ some e) (sym first.all) (at_longer first.kept first.later k e at)

    -- what is read is the log's
    pub as_kept : (k : ℕ) (d : Entry) → get_elem? ds k ≡ some d → (e : Entry) × (get_elem? first.kept k ≡ some e) × (d ≡ record e { backend = 0 })
    as_kept k d at = with_backend first.kept k d (subst (λ (l : List Entry). get_elem? l k ≡ some d) first.read at)

    pub of_kept : (word k : ℕ) (d : Entry) → IsEntryOf ds word k d → (e : Entry) × IsEntryOf first.kept word k e × (d ≡ record e { backend = 0 })
    of_kept word k d of = let x = as_kept k d of.there in (x.0, record { there = x.1; of = ap (λ (y : Entry). tag_in y.change) (sym x.2) ∙ of.of }, x.2)

    -- an entry of a block whose record is among the bytes is read
    pub whole_read : (word k : ℕ) (e : Entry) → IsEntryOf log.entries word k e → head_size + end_of e ≤ log.base + length bytes → IsEntered ds word
    whole_read word k e of within = ⊎_elim
        (λ (t : get_elem? first.kept k ≡ some e). (k, record e { backend = 0 }, record { there = subst (λ (l : List Entry). get_elem? l k ≡ some (record e { backend = 0 })) (sym first.read) (without_at first.kept k e t); of = of.of }))
        (λ (t : (n : ℕ) × (get_elem? first.later n ≡ some e)). absurd (let far = first.high t.0 e t.1 in let above = ends_above k e of.there in let less = length-drop 16 bytes in omega (arith, far, above, less, within)))
        (at_both first.kept first.later k e (subst (λ (l : List Entry). get_elem? l k ≡ some e) first.all of.there))
