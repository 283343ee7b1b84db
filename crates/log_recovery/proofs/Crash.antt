-- Redo of what is read of the bytes that a crash leaves.
use Rattle.std.proofs.Common.{◌≡◌, inl, inr, ℕ, zero, suc, ◌+◌, ◌<◌, ◌≤◌, true, false, List, [], ◌∷◌, ◌++◌, length, drop, Option, Some, None, sym, refl, ap, ◌∙◌, subst, ⊎_elim, arith}
use Rattle.std.specs.Prelude.{slice_get, unwrap_or, option_map, nat_lt}
use Rattle.std.proofs.lemmas.List.{length-drop}
use Rattle.std.proofs.lemmas.Bool.{cases_lt}
use mathlib.Core.Option.{some, some-ne-none, some-injective}
use lib.ListN.{get_elem?}
use Rattle.block_tag.specs.declared.tag.Tag.{Tag}
use Rattle.block_tag.specs.declared.catalogue.RelEntry.{RelEntry}
use Rattle.block_tag.specs.Names.{unpacked_tag}
use Rattle.block_tag.specs.Catalogue.{blocks_of}
use Rattle.pin_core.specs.State.{Page}
use Rattle.history_core.specs.Log.{Change, image, ranges, resize, Entry, Log, IsEntryOf, change_size, record_size, is_image, log_bytes, end_of, tag_in, page_after, changed_page, cell}
use Rattle.history_core.specs.State.{State, stored, unsynced, last_position}
use Rattle.history_core.specs.Laws.{Laws}
use Rattle.history_core.specs.Redo.{CanFollow, HasWholePage}
use Rattle.history_core.specs.Crashes.{Survives, RangesStartAtBase, CanRedo, RedoGives, IsExcepted}
use Rattle.history_core.specs.Crashes as crash
use Rattle.history_core.specs.Unentered.{IsUnentered}
use Rattle.history_core.proofs.Crashes.{crashes_redo}
use Rattle.history_core.proofs.EntryBlocks.{entries_of_blocks}
use Rattle.history_core.proofs.Images.{images_alone}
use Rattle.history_core.proofs.Logs.{chain_above, chain_below}
use Rattle.table_rule.specs.Blocks.{log_name, is_block, has_named}
use Rattle.table_rule.proofs.Tags.{unpacked_is}
use Rattle.log_recovery.specs.Records.{IsLogOf, too_short, from_head}
use Rattle.log_recovery.specs.Laws.{IsListed, IsWritten, AreWritten, without_backends, LeftRead, some_left, one_beyond}
use Rattle.log_recovery.specs.Crash.{IsLeft, AreSmall, IsLogBy, CrashesRecover, SurvivorsAreRead}
use Rattle.log_recovery.proofs.LeftLogs.{entries_left}

-- backends don't matter
after_backends : (tag : ℕ) (es : List Entry) (p : Option Page) → page_after tag (without_backends es) p ≡ page_after tag es p
unfolding page_after without_backends
after_backends tag [] p = refl
after_backends tag (e ∷ es) p = after_backends tag es (changed_page e.change (end_of e) tag p)

with_backend_at : (es : List Entry) (k : ℕ) (d : Entry) → get_elem? (without_backends es) k ≡ some d → (e : Entry) × (get_elem? es k ≡ some e) × (d.change ≡ e.change)
unfolding without_backends
with_backend_at [] k d at = absurd (some-ne-none d (sym at))
with_backend_at (e ∷ es) zero d at = (e, refl, ap (λ (x : Entry). x.change) (sym (some-injective (record e { backend = 0 }) d at)))
with_backend_at (e ∷ es) (suc k) d at = with_backend_at es k d at

pub without_at : (es : List Entry) (k : ℕ) (e : Entry) → get_elem? es k ≡ some e → get_elem? (without_backends es) k ≡ some (record e { backend = 0 })
unfolding without_backends
without_at [] k e at = absurd (some-ne-none e (sym at))
without_at (d ∷ es) zero e at = ap (λ (x : Entry). some (record x { backend = 0 })) (some-injective d e at)
without_at (d ∷ es) (suc k) e at = without_at es k e at

whole_with : (es : List Entry) (tag : ℕ) → HasWholePage (without_backends es) tag → HasWholePage es tag
whole_with es tag (k, d, p, at, is) = let x = with_backend_at es k d at in (k, x.0, p, x.1, sym x.2 ∙ is)

ranges_with : (s : State) (es : List Entry) (tag : ℕ) → RangesStartAtBase s (without_backends es) tag → RangesStartAtBase s es tag
ranges_with s es tag h k e spans at is = h k (record e { backend = 0 }) spans (without_at es k e at) is

none_with : (es : List Entry) (tag : ℕ) → ((k : ℕ) (e : Entry) → IsEntryOf es tag k e → ⊥) → (k : ℕ) (d : Entry) → IsEntryOf (without_backends es) tag k d → ⊥
none_with es tag none k d of = let x = with_backend_at es k d of.there in none k x.0 (record { there = x.1; of = ap (λ (c : Change). tag_in c) (sym x.2) ∙ of.of })

pub no_entries : [] ≡ without_backends []
unfolding without_backends
no_entries = refl

-- a block of the relations, by its tag's number
block_in : (relations : List RelEntry) (word : ℕ) → is_block relations word ≡ true → has_named relations (unpacked_tag word) ≡ true
unfolding is_block
block_in relations word block = block

listed_block : (relations : List RelEntry) → AreSmall relations → (word : ℕ) → is_block relations word ≡ true → IsListed relations word
listed_block relations small word block = of_tag (unpacked_tag word) refl (block_in relations word block)
  where
    of_relation : (tag : Tag) → unpacked_tag word ≡ Some tag → (r : Option RelEntry) → slice_get relations tag.rel.0 ≡ r → nat_lt tag.block (unwrap_or (option_map (λ e. blocks_of e tag.fork) r) 0) ≡ true → IsListed relations word
    of_relation tag is None listed low = absurd (grind (arith, low))
    of_relation tag is (Some r) listed low = let named = unpacked_is word tag is in let numbers = small tag.rel.0 r listed in record {
      tag = tag;
      is = sym named.1;
      named = named.0;
      relation = r;
      listed = listed;
      tablespace = numbers.0;
      database = numbers.1;
      number = numbers.2;
    }

    of_tag : (t : Option Tag) → unpacked_tag word ≡ t → has_named relations t ≡ true → IsListed relations word
    of_tag None is there = absurd (let no : false ≡ true = there in cc)
    of_tag (Some tag) is there = of_relation tag is (slice_get relations tag.rel.0) refl there

flushed_to : (base flushed left end : ℕ) → (base < flushed → flushed ≤ base + left) → base + left < end → flushed < end
flushed_to base flushed left end kept high = ⊎_elim (λ (low : base < flushed). let k = kept low in omega (arith, k, high)) (λ (ge : flushed ≤ base). omega (arith, ge, high)) (cases_lt base flushed)

module _ (relations : List RelEntry) (s : State) (laws : Laws s) (by : IsLogBy relations s) where
  base_low : s.log.base ≤ last_position
  base_low = let from = laws.invariant.flushed_from in let to = laws.invariant.flushed_to in let limit = laws.invariant.limit in omega (arith, from, to, limit)

  written_by : AreWritten relations s.log.entries
  written_by k e at = of_change e.change refl (images_alone s laws by.images k e at)
    where
      of_change : (c : Change) → e.change ≡ c → is_image c ≡ true → IsWritten relations e
      of_change (image word page) is whole = record {
        word = word;
        page = page;
        is = is;
        listed = listed_block relations by.small word (sym (by.blocks word) ∙ entries_of_blocks s laws word k e (record { there = at; of = ap (λ (c : Change). tag_in c) is }));
        valid = laws.invariant.log.valid k e at;
        room = (let below = chain_below s.log.base s.log.entries laws.invariant.log.chained k e at in let ends = laws.invariant.ends in let limit = laws.invariant.limit in omega (arith, below, ends, limit));
      }
      of_change (ranges word spans) is whole = absurd (cc)
      of_change (resize fork old new) is whole = absurd (cc)

  module _ (bytes : List ℕ) (left : IsLeft s bytes) where
    device_bytes : (names : ℕ → List ℕ) → s.names ≡ names → bytes ++ left.lost ≡ log_bytes names s.log ++ laws.rest.behind.rest
    device_bytes names is = left.prefix ∙ laws.rest.behind.is_bytes ∙ ap (λ (n : ℕ → List ℕ). log_bytes n s.log ++ laws.rest.behind.rest) is

    -- nothing is flushed where the head isn't whole
    none_flushed : length bytes < 16 → (k : ℕ) (e : Entry) → get_elem? s.log.entries k ≡ some e → s.flushed < end_of e
    none_flushed short k e at = ⊎_elim
        (λ (low : s.log.base < s.flushed). absurd (let x = left.kept low in omega (arith, x, short, low)))
        (λ (ge : s.flushed ≤ s.log.base). let w = written_by k e at in let n : change_size e.change ≡ record_size = ap change_size w.is in let a = chain_above s.log.base s.log.entries laws.invariant.log.chained k e at in omega (arith, ge, n, a))
        (cases_lt s.log.base s.flushed)

    abbrev Survivors : List Entry → Type 0
    Survivors ds = (es : List Entry) × Survives s es × (ds ≡ without_backends es)

    by_left : (ds : List Entry) → 16 ≤ length bytes → LeftRead s.log.base s.log.entries laws.rest.behind.rest (length (drop 16 bytes)) ds → Survivors ds
    by_left ds long (some_left kept later all read high) = (
      kept,
      crash.first kept later all (λ k e at. flushed_to s.log.base s.flushed (length (drop 16 bytes)) (end_of e) (λ low. let k = left.kept low in let less = length-drop 16 bytes in omega (arith, k, less, long)) (high k e at)),
      read,
    )
    by_left ds long (one_beyond d word page image_is read starts valid whole) = (
      s.log.entries ++ d ∷ [],
      crash.one_more d laws.rest.behind.rest laws.rest.behind.is_bytes whole (starts ∙ sym laws.invariant.ends) valid (subst (CanFollow s) (sym image_is) tt),
      read,
    )

    pub survivors : (log : Log) → IsLogOf relations bytes log → Survivors log.entries
    survivors _ (too_short short) = ([], crash.first [] s.log.entries refl (none_flushed short), no_entries)
    survivors _ (from_head base ds head reads) = by_left ds head.long
        (entries_left relations by.catalogue s.log laws.rest.behind.rest bytes left.lost base_low (device_bytes (log_name relations) by.names) laws.invariant.log.chained written_by laws.rest.behind.short base ds head reads)

    module _ (pages : ℕ → Option Page) (stays : (tag : ℕ) → unsynced s tag ≡ false → pages tag ≡ stored s tag) where
      -- what survives is redone
      by_entries : (es : List Entry) → Survives s es → (tag : ℕ) → CanRedo s (without_backends es) tag → RedoGives s pages (without_backends es) tag
      by_entries es survives tag can = ⊎_elim
          (λ (same : cell pages es tag ≡ cell s.origin es tag). inl (after_backends tag es (pages tag) ∙ same ∙ sym (after_backends tag es (s.origin tag))))
          (λ (x : IsExcepted s es tag × IsUnentered s tag). inr (record { none = none_with es tag x.0.none; lost = x.0.lost }, x.1))
          (crashes_redo s laws pages es (record { stays = stays; log = survives }) tag (can_with can))
        where
          can_with : CanRedo s (without_backends es) tag → CanRedo s es tag
          can_with (inl whole) = inl (whole_with es tag whole)
          can_with (inr (block, known, synced, whole)) = inr (block, known, synced, ranges_with s es tag whole)

      pub by_read : (es ds : List Entry) → ds ≡ without_backends es → Survives s es → (tag : ℕ) → CanRedo s ds tag → RedoGives s pages ds tag
      by_read es ds read survives tag = subst (λ (l : List Entry). CanRedo s l tag → RedoGives s pages l tag) (sym read) (by_entries es survives tag)

pub survivors_read : SurvivorsAreRead
survivors_read relations s laws by bytes left log is = survivors relations s laws by bytes left log is

pub crashes_recover : CrashesRecover
crashes_recover relations s laws by bytes left log is pages stays tag = let read = survivors relations s laws by bytes left log is in
    by_read relations s laws by bytes left pages stays read.0 log.entries read.2 read.1 tag
