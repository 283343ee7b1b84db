-- A record or a head at the beginning of bytes is there already in the first of them.
use Rattle.std.proofs.Common.{◌≡◌, ℕ, ◌+◌, ◌-◌, ◌<◌, ◌≤◌, List, length, take, drop, sym, refl, ap, ◌∙◌, subst, arith, length-take-le}
use Rattle.std.proofs.lemmas.List.{drop-take, length-take, take-take}
use Rattle.byteorder.specs.Endian.{little_number}
use Rattle.byteorder.specs.Numbers.{little_from-take}
use Rattle.block_tag.specs.declared.catalogue.RelEntry.{RelEntry}
use Rattle.page_layout.specs.Fields.{number_at}
use Rattle.history_core.specs.Log.{Change, image, ranges, resize, Entry, change_size, record_size}
use Rattle.history_core.specs.State.{last_position}
use Rattle.log_recovery.specs.Records.{NamesBlock, HasChange, IsRecord, IsHead}

drop_first : (at k : ℕ) (bytes : List ℕ) → at ≤ k → drop at (take k bytes) ≡ take (k - at) (drop at bytes)
drop_first at k bytes low = let sum : at + (k - at) ≡ k = omega arith in
    subst (λ (j : ℕ). drop at (take j bytes) ≡ take (k - at) (drop at bytes)) sum (drop-take at (k - at) bytes)

-- a number that stands in the first k bytes
pub number_kept : (at n k : ℕ) (bytes : List ℕ) → at + n ≤ k → number_at at n (take k bytes) ≡ number_at at n bytes
number_kept at n k bytes low = ap (little_number n) (drop_first at k bytes (omega arith)) ∙ little_from-take 0 n (k - at) (drop at bytes) (omega arith)

module _ (relations : List RelEntry) where
  named_by : (a b : List ℕ) (word : ℕ) → ((at : ℕ) → at + 4 ≤ 24 → number_at at 4 b ≡ number_at at 4 a) → NamesBlock relations a word → NamesBlock relations b word
  named_by a b word same h = record {
    tag = h.tag;
    is = h.is;
    relation = h.relation;
    listed = h.listed;
    tablespace = same 4 (omega arith) ∙ h.tablespace;
    database = same 8 (omega arith) ∙ h.database;
    number = same 12 (omega arith) ∙ h.number;
    fork = same 16 (omega arith) ∙ h.fork;
    block = same 20 (omega arith) ∙ h.block;
    low = h.low;
  }

  -- the block that a record names stands in its first 24 bytes
  pub named_kept : (k : ℕ) (bytes : List ℕ) (word : ℕ) → 24 ≤ k → NamesBlock relations (take k bytes) word → NamesBlock relations bytes word
  named_kept k bytes word long h = named_by (take k bytes) bytes word (λ at low. sym (number_kept at 4 k bytes (omega arith))) h

  pub named_first : (k : ℕ) (bytes : List ℕ) (word : ℕ) → 24 ≤ k → NamesBlock relations bytes word → NamesBlock relations (take k bytes) word
  named_first k bytes word long h = named_by bytes (take k bytes) word (λ at low. number_kept at 4 k bytes (omega arith)) h

  -- each record that is well formed has a whole page
  pub image_size : (bytes : List ℕ) (c : Change) → HasChange relations bytes c → change_size c ≡ record_size
  image_size bytes (image word page) has = refl
  image_size bytes (ranges word spans) has = absurd has
  image_size bytes (resize fork old new) has = absurd has

  page_first : (bytes : List ℕ) → take 8192 (drop 32 (take 8224 bytes)) ≡ take 8192 (drop 32 bytes)
  page_first bytes = ap (take 8192) (drop_first 32 8224 bytes (omega arith)) ∙ take-take 8192 8192 (drop 32 bytes) (omega arith)

  change_of_first : (bytes : List ℕ) (c : Change) → HasChange relations (take 8224 bytes) c → HasChange relations bytes c
  change_of_first bytes (image word page) has = (named_kept 8224 bytes word (omega arith) has.0, has.1 ∙ page_first bytes)
  change_of_first bytes (ranges word spans) has = absurd has
  change_of_first bytes (resize fork old new) has = absurd has

  first_of_change : (bytes : List ℕ) (c : Change) → HasChange relations bytes c → HasChange relations (take 8224 bytes) c
  first_of_change bytes (image word page) has = (named_first 8224 bytes word (omega arith) has.0, has.1 ∙ sym (page_first bytes))
  first_of_change bytes (ranges word spans) has = absurd has
  first_of_change bytes (resize fork old new) has = absurd has

  take_short : (k : ℕ) (bytes : List ℕ) → length (take k bytes) ≤ length bytes
  take_short k bytes = let e = length-take k bytes in omega (arith, e)

  pub record_of_first : (from : ℕ) (before : List Entry) (bytes : List ℕ) (e : Entry) → IsRecord relations from before (take 8224 bytes) e → IsRecord relations from before bytes e
  record_of_first from before bytes e r = record {
    backend = r.backend;
    starts = r.starts;
    whole = (let whole = r.whole in let short = take_short 8224 bytes in omega (arith, whole, short));
    kind = sym (number_kept 0 4 8224 bytes (omega arith)) ∙ r.kind;
    position = sym (number_kept 24 8 8224 bytes (omega arith)) ∙ r.position;
    change = change_of_first bytes e.change r.change;
    valid = r.valid;
    room = r.room;
    follows = r.follows;
  }

  pub first_of_record : (from : ℕ) (before : List Entry) (bytes : List ℕ) (e : Entry) → IsRecord relations from before bytes e → IsRecord relations from before (take 8224 bytes) e
  first_of_record from before bytes e r = let size = image_size bytes e.change r.change in let whole = r.whole in let long : 8224 ≤ length bytes = omega (arith, size, whole) in record {
    backend = r.backend;
    starts = r.starts;
    whole = (let all = length-take-le 8224 bytes long in omega (arith, all, size));
    kind = number_kept 0 4 8224 bytes (omega arith) ∙ r.kind;
    position = number_kept 24 8 8224 bytes (omega arith) ∙ r.position;
    change = first_of_change bytes e.change r.change;
    valid = r.valid;
    room = r.room;
    follows = r.follows;
  }

  -- fewer bytes are no record
  pub none_short : (from : ℕ) (before : List Entry) (bytes : List ℕ) (e : Entry) → length bytes < record_size → IsRecord relations from before bytes e → ⊥
  none_short from before bytes e short r = let size = image_size bytes e.change r.change in let whole = r.whole in omega (arith, size, whole, short)

  -- none ends past the last position
  pub no_room : (from : ℕ) (before : List Entry) (bytes : List ℕ) (e : Entry) → last_position < from + record_size → IsRecord relations from before bytes e → ⊥
  no_room from before bytes e high r = let size = image_size bytes e.change r.change in let starts = r.starts in let room = r.room in omega (arith, size, starts, room, high)

-- a head stands in the first 16 bytes
pub head_of_first : (bytes : List ℕ) (base : ℕ) → 16 ≤ length bytes → IsHead (take 16 bytes) base → IsHead bytes base
head_of_first bytes base long h = record {
  long = long;
  mark = sym (take-take 8 16 bytes (omega arith)) ∙ h.mark;
  base_is = sym (number_kept 8 8 16 bytes (omega arith)) ∙ h.base_is;
  aligned = h.aligned;
  low = h.low;
}

pub first_of_head : (bytes : List ℕ) (base : ℕ) → IsHead bytes base → IsHead (take 16 bytes) base
first_of_head bytes base h = record {
  long = (let long = h.long in let all = length-take-le 16 bytes long in omega (arith, all));
  mark = take-take 8 16 bytes (omega arith) ∙ h.mark;
  base_is = number_kept 8 8 16 bytes (omega arith) ∙ h.base_is;
  aligned = h.aligned;
  low = h.low;
}
