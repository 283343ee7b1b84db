-- The records of a log are read back.
use Rattle.std.proofs.Common.{◌≡◌, ℕ, zero, suc, ◌+◌, ◌-◌, ◌<◌, ◌≤◌, ◌^◌, true, List, [], ◌∷◌, ◌++◌, length, length-append, Option, Some, sym, refl, ap, ◌∙◌, subst, arith}
use Rattle.std.specs.Prelude.{slice_get}
use Rattle.std.proofs.lemmas.List.{append_assoc, take_at, drop_at}
use Rattle.byteorder.specs.Endian.{little_bytes}
use Rattle.byteorder.specs.Numbers.{little_number-reads_back}
use Rattle.block_tag.specs.declared.tag.Tag.{Tag}
use Rattle.block_tag.specs.declared.catalogue.RelEntry.{RelEntry}
use Rattle.block_tag.specs.Names.{fork_number, names_block, packed_tag}
use Rattle.pin_core.specs.State.{Page}
use Rattle.history_core.specs.Log.{Change, image, Entry, IsChange, AreChained, change_size, record_size, record_bytes, change_bytes, records, end_of}
use Rattle.history_core.specs.State.{last_position}
use Rattle.table_rule.specs.Blocks.{log_name, name_of, name_in, block_name}
use Rattle.table_rule.proofs.Tags.{packed_is}
use Rattle.log_recovery.specs.Records.{NamesBlock, IsRecord, Reads}
use Rattle.log_recovery.specs.Laws.{IsListed, IsWritten, AreWritten, without_backends}
use Rattle.log_recovery.proofs.Prefix.{none_short}

module _ (relations : List RelEntry) where
  named_as : (tag : Tag) (entry : RelEntry) → names_block tag ≡ true → slice_get relations tag.rel.0 ≡ Some entry → log_name relations (packed_tag tag) ≡ block_name entry tag
  unfolding log_name
  named_as tag entry named listed = ap (name_of relations) (packed_is tag named) ∙ ap (λ (x : Option RelEntry). name_in x tag) listed

  -- the bytes of a record of an image of the block, and what follows them
  abbrev image_bytes : RelEntry → Tag → ℕ → Page → List ℕ → List ℕ
  image_bytes r tag start page more = little_bytes 4 1 ++ (little_bytes 4 r.tablespace ++ (little_bytes 4 r.database ++ (little_bytes 4 r.relation ++ (little_bytes 4 (fork_number tag.fork) ++ (little_bytes 4 tag.block ++ (little_bytes 8 start ++ (page ++ more)))))))

  long_image : (r : RelEntry) (tag : Tag) (start : ℕ) (tail : List ℕ) → length (little_bytes 4 1 ++ (block_name r tag ++ (little_bytes 8 start ++ tail))) ≡ 32 + length tail
  long_image r tag start tail = let kind : length (little_bytes 4 1) ≡ 4 = refl in let at : length (little_bytes 8 start) ≡ 8 = refl in let name : length (block_name r tag) ≡ 20 = refl in
      omega (arith, kind, at, name, length-append (little_bytes 4 1) (block_name r tag ++ (little_bytes 8 start ++ tail)), length-append (block_name r tag) (little_bytes 8 start ++ tail), length-append (little_bytes 8 start) tail)

  fork_small : (tag : Tag) → fork_number tag.fork < 256 ^ 4
  fork_small tag = grind (arith, tag)

  block_low : (tag : Tag) → names_block tag ≡ true → tag.block < 2 ^ 32 - 1
  block_low tag named = grind (arith, named)

  names_image : (r : RelEntry) (tag : Tag) (word start : ℕ) (page : Page) (more : List ℕ) → word ≡ packed_tag tag → names_block tag ≡ true → slice_get relations tag.rel.0 ≡ Some r → r.tablespace < 2 ^ 32 → r.database < 2 ^ 32 → r.relation < 2 ^ 32 → NamesBlock relations (image_bytes r tag start page more) word
  names_image r tag word start page more is named listed a b c = record {
    tag = tag;
    is = is;
    relation = r;
    listed = listed;
    tablespace = little_number-reads_back 4 r.tablespace (little_bytes 4 r.database ++ (little_bytes 4 r.relation ++ (little_bytes 4 (fork_number tag.fork) ++ (little_bytes 4 tag.block ++ (little_bytes 8 start ++ (page ++ more)))))) (omega arith);
    database = little_number-reads_back 4 r.database (little_bytes 4 r.relation ++ (little_bytes 4 (fork_number tag.fork) ++ (little_bytes 4 tag.block ++ (little_bytes 8 start ++ (page ++ more))))) (omega arith);
    number = little_number-reads_back 4 r.relation (little_bytes 4 (fork_number tag.fork) ++ (little_bytes 4 tag.block ++ (little_bytes 8 start ++ (page ++ more)))) (omega arith);
    fork = little_number-reads_back 4 (fork_number tag.fork) (little_bytes 4 tag.block ++ (little_bytes 8 start ++ (page ++ more))) (fork_small tag);
    block = little_number-reads_back 4 tag.block (little_bytes 8 start ++ (page ++ more)) (let low = block_low tag named in omega arith);
    low = block_low tag named;
  }

  -- the record of an entry, and what follows it
  image_record : (r : RelEntry) (tag : Tag) (start : ℕ) (page : Page) (more : List ℕ) → names_block tag ≡ true → slice_get relations tag.rel.0 ≡ Some r
      → (little_bytes 4 1 ++ (log_name relations (packed_tag tag) ++ (little_bytes 8 start ++ page))) ++ more ≡ image_bytes r tag start page more
  image_record r tag start page more named listed = ap (λ (l : List ℕ). (little_bytes 4 1 ++ (l ++ (little_bytes 8 start ++ page))) ++ more) (named_as tag r named listed)

  read_image : (before : List Entry) (start word : ℕ) (page : Page) (l : IsListed relations word) (more : List ℕ) → IsChange (start + record_size) (image word page) → start + record_size ≤ last_position
      → IsRecord relations start before (image_bytes l.relation l.tag start page more) (record { start = start; backend = 0; change = image word page })
  read_image before start word page l more valid room = record {
    backend = refl;
    starts = refl;
    whole = (let n = length-append page more in let full : length page ≡ 8192 = valid.full in let all = long_image l.relation l.tag start (page ++ more) in omega (arith, n, full, all));
    kind = little_number-reads_back 4 1 (little_bytes 4 l.relation.tablespace ++ (little_bytes 4 l.relation.database ++ (little_bytes 4 l.relation.relation ++ (little_bytes 4 (fork_number l.tag.fork) ++ (little_bytes 4 l.tag.block ++ (little_bytes 8 start ++ (page ++ more))))))) (omega arith);
    position = little_number-reads_back 8 start (page ++ more) (omega arith);
    change = (names_image l.relation l.tag word start page more l.is l.named l.listed l.tablespace l.database l.number, sym (take_at page more 8192 valid.full));
    valid = valid;
    room = room;
    follows = tt;
  }

  end_rest : (from : ℕ) (before : List Entry) (rest : List ℕ) → length rest < record_size → Reads relations from before rest []
  unfolding Reads
  end_rest from before rest short e r = none_short relations from before rest e short r

  -- the record of an entry is well formed, whatever follows it
  pub record_read : (before : List Entry) (e : Entry) (w : IsWritten relations e) (more : List ℕ) → IsRecord relations e.start before (record_bytes (log_name relations) e ++ more) (record e { backend = 0 })
  record_read before e w more =
      let valid : IsChange (e.start + record_size) (image w.word w.page) = subst (λ (d : Change). IsChange (e.start + change_size d) d) w.is w.valid in
      let room : e.start + record_size ≤ last_position = subst (λ (d : Change). e.start + change_size d ≤ last_position) w.is w.room in
      let bytes_are : record_bytes (log_name relations) e ++ more ≡ image_bytes w.listed.relation w.listed.tag e.start w.page more = ap (λ (d : Change). change_bytes (log_name relations) e.start d ++ more) w.is
      ∙ ap (λ (n : ℕ). (little_bytes 4 1 ++ (log_name relations n ++ (little_bytes 8 e.start ++ w.page))) ++ more) w.listed.is
      ∙ image_record w.listed.relation w.listed.tag e.start w.page more w.listed.named w.listed.listed in
      subst (λ (l : List ℕ). IsRecord relations e.start before l (record e { backend = 0 })) (sym bytes_are)
      (subst (λ (d : Change). IsRecord relations e.start before (image_bytes w.listed.relation w.listed.tag e.start w.page more) (record { start = e.start; backend = 0; change = d })) (sym w.is)
      (read_image before e.start w.word w.page w.listed more valid room))

  pub size_of : (e : Entry) → IsWritten relations e → change_size e.change ≡ record_size
  size_of e w = ap change_size w.is

  -- the record of an entry of the log has as many bytes as the entry takes
  pub bytes_long : (e : Entry) → IsWritten relations e → length (record_bytes (log_name relations) e) ≡ record_size
  bytes_long e w = let valid : IsChange (e.start + record_size) (image w.word w.page) = subst (λ (d : Change). IsChange (e.start + change_size d) d) w.is w.valid in
      let bytes_are = ap (λ (d : Change). change_bytes (log_name relations) e.start d) w.is ∙ ap (λ (n : ℕ). little_bytes 4 1 ++ (log_name relations n ++ (little_bytes 8 e.start ++ w.page))) w.listed.is ∙ ap (λ (l : List ℕ). little_bytes 4 1 ++ (l ++ (little_bytes 8 e.start ++ w.page))) (named_as w.listed.tag w.listed.relation w.listed.named w.listed.listed) in
      let all = long_image w.listed.relation w.listed.tag e.start w.page in
      let full : length w.page ≡ 8192 = valid.full in
      ap (λ (l : List ℕ). length l) bytes_are ∙ omega (arith, all, full)

  pub read_back : (from : ℕ) (before es : List Entry) (rest : List ℕ) → AreChained from es → AreWritten relations es → length rest < record_size → Reads relations from before (records (log_name relations) es ++ rest) (without_backends es)
  unfolding Reads records without_backends AreChained
  read_back from before [] rest chained written short = end_rest from before rest short
  read_back from before (e ∷ es) rest chained written short = let w = written zero e refl in let tail = records (log_name relations) es ++ rest in
      subst (λ (n : ℕ). Reads relations n before ((record_bytes (log_name relations) e ++ records (log_name relations) es) ++ rest) (record e { backend = 0 } ∷ without_backends es)) chained.0
      (subst (λ (l : List ℕ). Reads relations e.start before l (record e { backend = 0 } ∷ without_backends es)) (sym (append_assoc (record_bytes (log_name relations) e) (records (log_name relations) es) rest)) (
        record_read before e w tail,
        subst (λ (l : List ℕ). Reads relations (end_of e) (before ++ record e { backend = 0 } ∷ []) l (without_backends es)) (sym (drop_at (record_bytes (log_name relations) e) tail (change_size e.change) (bytes_long e w ∙ sym (size_of e w))))
            (read_back (end_of e) (before ++ record e { backend = 0 } ∷ []) es rest chained.1 (λ k d at. written (suc k) d at) short),
      ))
