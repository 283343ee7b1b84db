-- What a record of a page has.
use Rattle.std.proofs.Common.{◌≡◌, ℕ, ◌+◌, ◌-◌, ◌≤◌, List, length, take, drop, sym, refl, ◌∙◌, subst, arith}
use Rattle.std.proofs.lemmas.List.{take_all, length-drop}
use Rattle.block_tag.specs.declared.tag.Tag.{Tag}
use Rattle.block_tag.specs.declared.catalogue.RelEntry.{RelEntry}
use Rattle.block_tag.specs.Names.{packed_tag}
use Rattle.page_layout.specs.Fields.{number_at}
use Rattle.history_core.specs.Log.{Change, image, ranges, resize, Entry, IsChange, IsImage, change_size, record_size}
use Rattle.history_core.specs.State.{last_position}
use Rattle.log_recovery.specs.Records.{NamesBlock, HasChange, IsRecord, IsImageRecord, image_entry, kind_of}

parts : (relations : List RelEntry) (from : ℕ) (bytes : List ℕ) (c : Change) → HasChange relations bytes c → number_at 0 4 bytes ≡ kind_of c → number_at 24 8 bytes ≡ from → IsChange (from + change_size c) c → IsImageRecord relations from bytes
parts relations from bytes (image word page) has kind position valid = record { kind = kind; position = position; word = word; named = has.0; image = subst (IsImage (from + record_size)) has.1 valid }
parts relations from bytes (ranges word spans) has kind position valid = absurd has
parts relations from bytes (resize fork old new) has kind position valid = absurd has

pub shown : (relations : List RelEntry) (from : ℕ) (before : List Entry) (bytes : List ℕ) (e : Entry) → IsRecord relations from before bytes e → IsImageRecord relations from bytes
shown relations from before bytes e r = parts relations from bytes e.change r.change r.kind r.position (subst (λ (s : ℕ). IsChange (s + change_size e.change) e.change) r.starts r.valid)

-- a page that stands there whole
pub whole_page : (bytes : List ℕ) → length bytes ≡ 8224 → take 8192 (drop 32 bytes) ≡ drop 32 bytes
whole_page bytes long = take_all 8192 (drop 32 bytes) (let n = length-drop 32 bytes in omega (arith, n, long))

pub is_record : (relations : List RelEntry) (from : ℕ) (before : List Entry) (bytes : List ℕ) (tag : Tag) (page : List ℕ) → length bytes ≡ 8224 → from + 8224 ≤ last_position → number_at 0 4 bytes ≡ 1 → number_at 24 8 bytes ≡ from → NamesBlock relations bytes (packed_tag tag)
    → page ≡ drop 32 bytes → IsImage (from + 8224) page → IsRecord relations from before bytes (image_entry from tag page)
is_record relations from before bytes tag page long room kind position named is valid = record {
  backend = refl;
  starts = refl;
  whole = omega (arith, long);
  kind = kind;
  position = position;
  change = (named, is ∙ sym (whole_page bytes long));
  valid = valid;
  room = room;
  follows = tt;
}

pub behind : (bytes : List ℕ) → take (length bytes - 32) (drop 32 bytes) ≡ drop 32 bytes
behind bytes = take_all (length bytes - 32) (drop 32 bytes) (let n = length-drop 32 bytes in omega (arith, n))
