-- Redo of what is left of a rewrite's log.
use Rattle.std.proofs.Common.{◌≡◌, ◌⊎◌, inl, inr, ℕ, ◌+◌, ◌%◌, ◌<◌, ◌≤◌, ◌^◌, ◌-◌, Bool, true, false, List, [], ◌∷◌, ◌++◌, append-nil, length, length-append, drop, Some, unwrap_or, sym, refl, ap, ◌∙◌, subst, ⊎_elim, arith}
use Rattle.std.proofs.lemmas.Bool.{cases_lt}
use Rattle.std.proofs.lemmas.List.{append_assoc, length-drop, nil_from_length}
use Rattle.std.proofs.lemmas.Option.{same_Some}
use mathlib.Core.Option.{some, some-injective, some-ne-none}
use lib.ListN.{get_elem?}
use Rattle.block_tag.specs.declared.catalogue.RelEntry.{RelEntry}
use Rattle.block_tag.specs.declared.tag.Fork.TheVariants.{Main}
use Rattle.block_tag.specs.Catalogue.{IsCatalogue}
use Rattle.command_line.specs.RelationPath.{relation_number}
use Rattle.grid.proofs.Lists.{at_end, at_last, at_longer}
use Rattle.byte_devices.specs.MemoryLog.{StoredLog}
use Rattle.pin_core.specs.State.{Page}
use Rattle.history_core.specs.Log.{AreOfPages, Change, Entry, IsChange, IsEntryOf, Log, LogLaw, change_size, end_of, head_bytes, head_size, image, log_bytes, log_end, page_after, record_bytes, record_size, records, tag_in}
use Rattle.history_core.specs.State.{last_position}
use Rattle.history_core.specs.Unentered.{IsEntered}
use Rattle.history_core.proofs.Crashes.{entry_or_none}
use Rattle.history_core.proofs.Logs.{after_absent, bytes_longer, chain_end, end_longer, images_of_pages, log_longer, none_chained}
use Rattle.table_rule.specs.Blocks.{log_name}
use Rattle.log_recovery.specs.Laws.{AreWritten, without_backends}
use Rattle.log_recovery.specs.Records.{HasBadHead, IsLogOf, Reads, from_head, too_short}
use Rattle.log_recovery.proofs.Back.{bytes_long}
use Rattle.log_recovery.proofs.Prefix.{image_size}
use Rattle.log_recovery.proofs.ReadLogs.{is_log}
use Rattle.log_recovery.proofs.Twice.{either_way}
use Rattle.table_rule.proofs.Opens.{length_low, there_at}
use Rattle.backend_pass.proofs.Standing.{all_at}
use Rattle.relation_commands.specs.RecoverFiles.{catalog_of, word_at}
use Rattle.relation_commands.specs.RecoverRewrite.{BegunLogsAreEmpty, IsLostFrom, IsRecoveredBlock, RecoversRewrite, as_before, by_the_next, by_the_rule, torn_before}
use Rattle.relation_commands.specs.RewriteFiles.{IsHeadBegun, main_rule}
use Rattle.relation_commands.specs.RewriteResults.{BeginsNext, HasDurableEntry, HasImages, IsDurable, IsImageOf, LeavesEither}
use Rattle.relation_commands.specs.Starting.{names_of}
use Rattle.relation_commands.proofs.LostLogs.{AreFirst, AreLeftOf, as_kept, first_read, good_head, in_log, of_kept, settled_on, whole_read}
use Rattle.relation_commands.proofs.PagesAfter.{StaysUsed}
use Rattle.relation_commands.proofs.RecoverNames.{names_by_number, one_catalogue, word_once}
use Rattle.relation_commands.proofs.WrittenImages.{image_made, images_written}

-- the first entries are all, if the last one is among them
all_kept : (es kept later : List Entry) (e x : Entry) (k : ℕ) → es ++ e ∷ [] ≡ kept ++ later → get_elem? kept k ≡ some x → k ≡ length es → kept ≡ es ++ e ∷ []
all_kept es kept later e x k all at last =
    let below = length_low kept k x at in
    let long : length (es ++ e ∷ []) ≡ length (kept ++ later) = ap (λ (l : List Entry). length l) all in
    let none : later ≡ [] = nil_from_length later (omega (arith, below, long, last, length-append es (e ∷ []), length-append kept later)) in
    sym (all ∙ ap (λ (l : List Entry). kept ++ l) none ∙ append-nil kept)

module _ (rewritten : StaysUsed) (path : List ℕ) (blocks base : ℕ) (before after left : List Page) (failed : ℕ → Bool) (file : StoredLog) (aligned : base % 8 ≡ 0) (few : length before ≤ 2 ^ 32 - 1)
    (leaves : LeavesEither main_rule (names_of (record { number = unwrap_or (relation_number path) 0; fork = Main; blocks = blocks })) base before after failed file)
    (bytes : List ℕ) (loss : IsLostFrom leaves.log file after left failed bytes) where
  abbrev rest : List ℕ
  rest = leaves.begins.rest

  abbrev names : ℕ → List ℕ
  names = log_name (catalog_of path)

  catalogue : IsCatalogue (catalog_of path)
  catalogue = one_catalogue _

  names_are : names_of (record { number = unwrap_or (relation_number path) 0; fork = Main; blocks = blocks }) ≡ names
  names_are = names_by_number (unwrap_or (relation_number path) 0) blocks

  aligned_log : leaves.log.base % 8 ≡ 0
  aligned_log = ap (λ (n : ℕ). n % 8) leaves.based ∙ aligned

  low : leaves.log.base ≤ last_position
  low = let end = chain_end leaves.log.base leaves.log.entries leaves.law.chained in let within = leaves.low in omega arith

  bytes_are : bytes ++ loss.lost ≡ log_bytes names leaves.log ++ rest
  bytes_are = loss.prefix ∙ leaves.begins.is_bytes ∙ ap (λ (names : ℕ → List ℕ). log_bytes names leaves.log ++ rest) names_are

  -- What would be the log's next entry, whose record stands whole in the file
  record IsNext (full : Log) : Type 0 where
    next : Entry
    full_is : full.entries ≡ leaves.log.entries ++ next ∷ []
    ends : end_of next ≡ log_end leaves.log + record_size
    new : (word : ℕ) → tag_in next.change ≡ Some word → IsEntered leaves.log.entries word → ⊥
    whole : length rest ≡ record_size

  -- The log that stands whole in the file: the rewrite's, or that and its next entry
  record StandsWhole : Type 0 where
    full : Log
    based : full.base ≡ leaves.log.base
    is_left : AreLeftOf (catalog_of path) bytes full
    of_pages : HasImages main_rule before full
    longer : (k : ℕ) (e : Entry) → get_elem? leaves.log.entries k ≡ some e → get_elem? full.entries k ≡ some e
    which : (full.entries ≡ leaves.log.entries) ⊎ IsNext full

  as_log : length rest < record_size → StandsWhole
  as_log short = record {
    full = leaves.log;
    based = refl;
    is_left = record { law = leaves.law; written = images_written path before leaves.log leaves.law leaves.images leaves.low few; aligned = aligned_log; low = low; rest = rest; lost = loss.lost; short = short; is = bytes_are };
    of_pages = leaves.images;
    longer = λ k e at. at;
    which = inl refl;
  }

  module _ (long : record_size ≤ length rest) where
    next : BeginsNext main_rule (names_of (record { number = unwrap_or (relation_number path) 0; fork = Main; blocks = blocks })) before leaves.log rest
    next = leaves.begins.begins (λ (empty : rest ≡ []). let none = ap (λ (l : List ℕ). length l) empty in omega arith)

    abbrev all : Log
    all = record leaves.log { entries = leaves.log.entries ++ next.entry ∷ [] }

    size : change_size next.entry.change ≡ record_size
    size = ap change_size next.image.entered

    valid : IsChange (end_of next.entry) next.entry.change
    valid = subst (IsChange (end_of next.entry)) (sym next.image.entered)
        (image_made rewritten next.image.page (end_of next.entry) (all_at (λ (page : Page). length page ≡ 8192) before next.image.block next.image.page leaves.were_full next.image.there) next.image.changes next.room)

    law : LogLaw all
    law = log_longer leaves.log next.entry leaves.law next.starts valid

    new : (word : ℕ) → tag_in next.entry.change ≡ Some word → IsEntered leaves.log.entries word → ⊥
    new word of entered =
        let same : main_rule.tag next.image.block ≡ word = same_Some (main_rule.tag next.image.block) word (ap (λ (c : Change). tag_in c) (sym next.image.entered) ∙ of) in
        next.new (record { index = entered.0; entry = entered.1; entered = subst (λ (w : ℕ). IsEntryOf leaves.log.entries w entered.0 entered.1) (sym same) entered.2 })

    once : (j k word : ℕ) (d e : Entry) → IsEntryOf all.entries word j d → IsEntryOf all.entries word k e → j ≡ k
    once j k word d e a b = ⊎_elim
        (λ (x : get_elem? leaves.log.entries j ≡ some d). ⊎_elim
        (λ (y : get_elem? leaves.log.entries k ≡ some e). leaves.images.one j k word d e (record { there = x; of = a.of }) (record { there = y; of = b.of }))
        (λ (y : (next.entry ≡ e) × (k ≡ length leaves.log.entries)). absurd (new word (ap (λ (z : Entry). tag_in z.change) y.0 ∙ b.of) (j, d, record { there = x; of = a.of })))
        (at_end leaves.log.entries next.entry e k b.there))
        (λ (x : (next.entry ≡ d) × (j ≡ length leaves.log.entries)). ⊎_elim
        (λ (y : get_elem? leaves.log.entries k ≡ some e). absurd (new word (ap (λ (z : Entry). tag_in z.change) x.0 ∙ a.of) (k, e, record { there = y; of = b.of })))
        (λ (y : (next.entry ≡ e) × (k ≡ length leaves.log.entries)). x.1 ∙ sym y.1)
        (at_end leaves.log.entries next.entry e k b.there))
        (at_end leaves.log.entries next.entry d j a.there)

    images_all : HasImages main_rule before all
    images_all = record {
      each = λ k e at. ⊎_elim
          (λ (t : get_elem? leaves.log.entries k ≡ some e). leaves.images.each k e t)
          (λ (t : (next.entry ≡ e) × (k ≡ length leaves.log.entries)). subst (IsImageOf main_rule before) t.0 next.image)
          (at_end leaves.log.entries next.entry e k at);
      one = once;
    }

    written : AreWritten (catalog_of path) all.entries
    written = images_written path before all law images_all (let end = end_longer leaves.log next.entry leaves.law in let room = next.room in omega (arith, end, room)) few

    -- the rest is the record
    rest_is : rest ≡ record_bytes names next.entry
    rest_is =
        let begins : rest ++ next.more ≡ record_bytes names next.entry = next.begins ∙ ap (λ (names : ℕ → List ℕ). record_bytes names next.entry) names_are in
        let size_is = bytes_long (catalog_of path) next.entry (written (length leaves.log.entries) next.entry (at_last leaves.log.entries next.entry)) in
        let sum : length (rest ++ next.more) ≡ length (record_bytes names next.entry) = ap (λ (l : List ℕ). length l) begins in
        let none : next.more ≡ [] = nil_from_length next.more (omega (arith, size_is, sum, long, length-append rest next.more)) in
        sym (append-nil rest) ∙ ap (λ (l : List ℕ). rest ++ l) (sym none) ∙ begins

    with_next : StandsWhole
    with_next = record {
      full = all;
      based = refl;
      is_left = record {
        law = law;
        written = written;
        aligned = aligned_log;
        low = low;
        rest = [];
        lost = loss.lost;
        short = omega arith;
        is = bytes_are ∙ ap (λ (l : List ℕ). log_bytes names leaves.log ++ l) rest_is ∙ sym (bytes_longer names leaves.log next.entry) ∙ sym (append-nil (log_bytes names all));
      };
      of_pages = images_all;
      longer = λ k e at. at_longer leaves.log.entries (next.entry ∷ []) k e at;
      which = inr (record {
        next = next.entry;
        full_is = refl;
        ends = (let starts = next.starts in let is = size in omega (arith, starts, is));
        new = new;
        whole = (let short = leaves.begins.short in omega (arith, short, long));
      });
    }

  w : StandsWhole
  w = ⊎_elim as_log with_next (cases_lt (length rest) record_size)

  pub head : HasBadHead bytes → ⊥
  head = good_head (catalog_of path) catalogue bytes w.full w.is_left

  within : (e : Entry) → IsDurable leaves.log file e → head_size + end_of e ≤ leaves.log.base + length bytes
  within e durable = let synced = loss.synced in omega (arith, synced, durable)

  module _ (read : Log) (is : IsLogOf (catalog_of path) bytes read) where
    first : AreFirst (catalog_of path) catalogue bytes w.full w.is_left read.entries
    first = first_read (catalog_of path) catalogue bytes w.full w.is_left read is

    pub left_whole : (block k : ℕ) (e : Entry) → IsEntryOf leaves.log.entries (word_at block) k e → head_size + end_of e ≤ leaves.log.base + length bytes → IsEntered read.entries (word_at block)
    left_whole block k e of left = whole_read (catalog_of path) catalogue bytes w.full w.is_left read.entries first (word_at block) k e (record { there = w.longer k e of.there; of = of.of }) (let based = w.based in omega (arith, based, left))

    pub durable : (block k : ℕ) (e : Entry) → IsEntryOf leaves.log.entries (word_at block) k e → IsDurable leaves.log file e → IsEntered read.entries (word_at block)
    durable block k e of synced = left_whole block k e of (within e synced)

    valid_read : AreOfPages read.entries
    valid_read = images_of_pages read.entries (is_log (catalog_of path) bytes read is).1

    -- an entry that is read is of the log that stands whole
    of_full : (word k : ℕ) (d : Entry) → IsEntryOf read.entries word k d → (e : Entry) × IsEntryOf w.full.entries word k e × (get_elem? first.kept k ≡ some e) × (d ≡ record e { backend = 0 })
    of_full word k d of =
        let x = of_kept (catalog_of path) catalogue bytes w.full w.is_left read.entries first word k d of in
        (x.0, record { there = in_log (catalog_of path) catalogue bytes w.full w.is_left read.entries first k x.0 x.1.there; of = x.1.of }, x.1.there, x.2)

    bare_image : (e : Entry) → IsImageOf main_rule before e → IsImageOf main_rule before (record e { backend = 0 })
    bare_image e i = record { block = i.block; page = i.page; there = i.there; changes = i.changes; entered = i.entered }

    pub images_read : HasImages main_rule before read
    images_read = record {
      each = λ k d at.
          let x = as_kept (catalog_of path) catalogue bytes w.full w.is_left read.entries first k d at in
          subst (IsImageOf main_rule before) (sym x.2) (bare_image x.0 (w.of_pages.each k x.0 (in_log (catalog_of path) catalogue bytes w.full w.is_left read.entries first k x.0 x.1)));
      one = λ j k word d e a b. let x = of_full word j d a in let y = of_full word k e b in w.of_pages.one j k word x.0 y.0 x.1 y.1;
    }

    module _ (block : ℕ) (old page : Page) (was : get_elem? before block ≡ some old) (at : get_elem? left block ≡ some page) where
      abbrev Recovered : Type 0
      Recovered = IsRecoveredBlock leaves.log leaves.begins.rest read.entries block old (failed block) (page_after (word_at block) read.entries (Some page))

      -- What the log has of the block is its page by the rule
      record IsByRule (e : Entry) : Type 0 where
        changes : main_rule.changes old ≡ true
        made : e.change ≡ image (word_at block) (main_rule.rewritten old (end_of e))

      by_rule : (k : ℕ) (e : Entry) → IsEntryOf w.full.entries (word_at block) k e → IsByRule e
      by_rule k e of =
          let i = w.of_pages.each k e of.there in
          let same_word : word_at i.block ≡ word_at block = same_Some (word_at i.block) (word_at block) (ap (λ (c : Change). tag_in c) (sym i.entered) ∙ of.of) in
          let same : i.page ≡ old = some-injective i.page old (sym i.there ∙ ap (λ (n : ℕ). get_elem? before n) (word_once i.block block same_word) ∙ was) in
          record {
            changes = ap main_rule.changes (sym same) ∙ i.changes;
            made = i.entered ∙ ap (λ (n : ℕ). image n (main_rule.rewritten i.page (end_of e))) same_word ∙ ap (λ (p : Page). image (word_at block) (main_rule.rewritten p (end_of e))) same;
          }

      same_entry : (j k : ℕ) (d e : Entry) → IsEntryOf w.full.entries (word_at block) j d → IsEntryOf w.full.entries (word_at block) k e → d ≡ e
      same_entry j k d e a b = some-injective d e (sym a.there ∙ ap (λ (n : ℕ). get_elem? w.full.entries n) (w.of_pages.one j k (word_at block) d e a b) ∙ b.there)

      -- so redo makes it
      made_at : (k : ℕ) (d : Entry) (of : IsEntryOf read.entries (word_at block) k d) → page_after (word_at block) read.entries (Some page) ≡ Some (main_rule.rewritten old (end_of (of_full (word_at block) k d of).0))
      made_at k d of =
          let x = of_full (word_at block) k d of in
          settled_on (word_at block) (main_rule.rewritten old (end_of x.0)) read.entries (Some page) valid_read
          (λ j f other. let y = of_full (word_at block) j f other in ap (λ (z : Entry). z.change) y.3 ∙ ap (λ (z : Entry). z.change) (same_entry j k y.0 x.0 y.1 x.1) ∙ (by_rule k x.0 x.1).made)
          (k, d, of)

      -- of the next entry
      next_redone : (n : IsNext w.full) (k : ℕ) (e : Entry) → get_elem? first.kept k ≡ some e → tag_in e.change ≡ Some (word_at block) → n.next ≡ e → k ≡ length leaves.log.entries → main_rule.changes old ≡ true
          → page_after (word_at block) read.entries (Some page) ≡ Some (main_rule.rewritten old (end_of e)) → Recovered
      next_redone n k e kept of same last changes now =
          let of_next : tag_in n.next.change ≡ Some (word_at block) = ap (λ (z : Entry). tag_in z.change) same ∙ of in
          by_the_next n.next
          (first.read ∙ ap (λ (l : List Entry). without_backends l) (all_kept leaves.log.entries first.kept first.later n.next e k (sym n.full_is ∙ first.all) kept last))
          n.whole of_next (n.new (word_at block) of_next) changes
          (now ∙ ap (λ (end : ℕ). Some (main_rule.rewritten old end)) (ap end_of (sym same) ∙ n.ends))

      redone : IsEntered read.entries (word_at block) → Recovered
      redone (k, d, of) =
          let x = of_full (word_at block) k d of in
          let changes = (by_rule k x.0 x.1).changes in
          ⊎_elim
          (λ (same : w.full.entries ≡ leaves.log.entries). by_the_rule k x.0 (subst (λ (l : List Entry). IsEntryOf l (word_at block) k x.0) same x.1) changes (made_at k d of))
          (λ (n : IsNext w.full). ⊎_elim
          (λ (t : get_elem? leaves.log.entries k ≡ some x.0). by_the_rule k x.0 (record { there = t; of = x.1.of }) changes (made_at k d of))
          (λ (t : (n.next ≡ x.0) × (k ≡ length leaves.log.entries)). next_redone n k x.0 x.2 x.1.of t.0 t.1 changes (made_at k d of))
          (at_end leaves.log.entries n.next x.0 k (subst (λ (l : List Entry). get_elem? l k ≡ some x.0) n.full_is x.1.there)))
          w.which

      -- with no entry that is read it is as it was left
      unchanged : (IsEntered read.entries (word_at block) → ⊥) → failed block ≡ false → page ≡ old
      unchanged none done =
          let below = length_low before block old was in
          let counted = leaves.counted in
          let new = there_at after block (omega arith) in
          loss.stays block new.0 page new.1 at done (λ k e of synced. none (durable block k e of synced))
          ∙ ⊎_elim
          (λ (same : new.0 ≡ old). same)
          (λ (x : HasDurableEntry main_rule leaves.log file block old new.0). absurd (none (durable block x.made.index x.made.entry x.made.entered x.durable)))
          (leaves.each block old new.0 was new.1 done)

      kept : (IsEntered read.entries (word_at block) → ⊥) → Recovered
      kept none = either_way (failed block)
          (λ torn. torn_before none torn)
          (λ done. as_before none (after_absent (word_at block) read.entries (Some page) valid_read (λ k e of. none (k, e, of)) ∙ ap (λ (p : Page). Some p) (unchanged none done)))

      pub recovered : Recovered
      recovered = ⊎_elim redone
          (λ (none : (k : ℕ) (e : Entry) → IsEntryOf read.entries (word_at block) k e → ⊥). kept (λ t. none t.0 t.1 t.2))
          (entry_or_none read.entries (word_at block))

pub recovers_rewrite : StaysUsed → RecoversRewrite
recovers_rewrite rewritten path blocks base before after left failed file aligned few leaves bytes loss = record {
  head = head rewritten path blocks base before after left failed file aligned few leaves bytes loss;
  whole = left_whole rewritten path blocks base before after left failed file aligned few leaves bytes loss;
  durable = durable rewritten path blocks base before after left failed file aligned few leaves bytes loss;
  images = images_read rewritten path blocks base before after left failed file aligned few leaves bytes loss;
  each = recovered rewritten path blocks base before after left failed file aligned few leaves bytes loss;
}

-- the head of a log, which nothing follows
head_alone : (names : ℕ → List ℕ) (base : ℕ) → head_bytes base ≡ log_bytes names (record { base = base; entries = [] }) ++ []
unfolding records
head_alone names base = sym (append-nil (head_bytes base ++ []) ∙ append-nil (head_bytes base))

no_relations : IsCatalogue []
no_relations = record { few = omega arith; apart = λ place below. absurd (omega arith) }

-- fewer bytes than a record has have no entry
none_read : (relations : List RelEntry) (from : ℕ) (bytes : List ℕ) (es : List Entry) → length bytes < record_size → Reads relations from [] bytes es → es ≡ []
unfolding Reads
none_read relations from bytes [] few reads = refl
none_read relations from bytes (e ∷ es) few reads = let size = image_size relations bytes e.change reads.0.change in let whole = reads.0.whole in absurd (omega (arith, size, whole, few))

module _ (base : ℕ) (aligned : base % 8 ≡ 0) (low : base ≤ last_position) (file lost bytes : List ℕ) (begun : IsHeadBegun base file) (is : bytes ++ lost ≡ file) where
  begun_bytes : bytes ++ (lost ++ begun.more) ≡ head_bytes base
  begun_bytes = sym (append_assoc bytes lost begun.more) ∙ ap (λ (l : List ℕ). l ++ begun.more) is ∙ begun.whole

  begun_few : length bytes ≤ 16
  begun_few = let all = ap (λ (l : List ℕ). length l) begun_bytes in let long : length (head_bytes base) ≡ 16 = refl in omega (arith, all, long, length-append bytes (lost ++ begun.more))

  begun_law : LogLaw (record { base = base; entries = [] })
  begun_law = record { chained = none_chained base; valid = λ k e at. absurd (some-ne-none e (sym at)) }

  begun_head : HasBadHead bytes → ⊥
  begun_head = good_head [] no_relations bytes (record { base = base; entries = [] }) (record {
    law = begun_law;
    written = λ k e at. absurd (some-ne-none e (sym at));
    aligned = aligned;
    low = low;
    rest = [];
    lost = lost ++ begun.more;
    short = omega arith;
    is = begun_bytes ∙ head_alone (log_name []) base;
  })

  begun_entries : (relations : List RelEntry) (read : Log) → IsLogOf relations bytes read → read.entries ≡ []
  begun_entries relations _ (too_short few) = refl
  begun_entries relations _ (from_head from es head reads) = none_read relations from (drop 16 bytes) es (let less = length-drop 16 bytes in let few = begun_few in omega (arith, less, few)) reads

pub begun_empty : BegunLogsAreEmpty
begun_empty base aligned low file lost bytes begun is = (begun_head base aligned low file lost bytes begun is, begun_entries base aligned low file lost bytes begun is)
