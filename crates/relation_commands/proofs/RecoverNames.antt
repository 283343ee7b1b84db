-- How the log of a recovery names the relation and its blocks.
use Rattle.std.proofs.Common.{◌≡◌, ℕ, zero, suc, ◌<◌, ◌^◌, ◌&&◌, Bool, List, [], ◌∷◌, Option, Some, None, refl, subst, slice_get, unwrap_or, arith}
use Rattle.std.specs.Prelude.{nat_lt, not, slice_index, ◌==◌}
use Rattle.std.specs.List.{list_all}
use Rattle.std.proofs.lemmas.Bool.{and_parts, cond_both, ltb-true}
use Rattle.block_tag.specs.declared.catalogue.RelEntry.{RelEntry}
use Rattle.block_tag.specs.declared.tag.Fork.TheVariants.{Main}
use Rattle.block_tag.specs.declared.tag.Tag.{Tag}
use Rattle.block_tag.specs.Catalogue.{IsCatalogue, earlier_twin}
use Rattle.block_tag.specs.Names.{unpacked_tag}
use Rattle.segment_store.specs.Paths.{is_digit}
use Rattle.command_line.specs.RelationPath.{is_relation_number, is_relation_path, number_part, number_value, relation_number}
use Rattle.table_rule.specs.Blocks.{log_name, name_in, name_of}
use Rattle.relation_commands.specs.RecoverFiles.{word_at}
use Rattle.relation_commands.specs.Starting.{names_of, relation_entry}

-- one relation alone is a catalogue
pub one_catalogue : (e : RelEntry) → IsCatalogue (e ∷ [])
one_catalogue e = record {
  few = omega arith;
  apart = λ place below. subst (λ (n : ℕ). earlier_twin (e ∷ []) n ≡ None) (let none : 0 ≡ place = omega arith in none) refl;
}

-- blocks of different numbers have different words
pub word_once : (a b : ℕ) → word_at a ≡ word_at b → a ≡ b
word_once a b same = omega arith

-- the log names blocks by the numbers of their relation, however many blocks that has
module _ (number blocks : ℕ) where
  abbrev counted : RelEntry
  counted = relation_entry (record { number = number; fork = Main; blocks = blocks })

  abbrev empty : RelEntry
  empty = relation_entry (record { number = number; fork = Main; blocks = 0 })

  name_listed : (place : ℕ) (tag : Tag) → name_in (slice_get (counted ∷ []) place) tag ≡ name_in (slice_get (empty ∷ []) place) tag
  name_listed zero tag = refl
  name_listed (suc place) tag = refl

  name_tag : (tag : Option Tag) → name_of (counted ∷ []) tag ≡ name_of (empty ∷ []) tag
  name_tag None = refl
  name_tag (Some tag) = name_listed tag.rel.0 tag

  name_word : (word : ℕ) → log_name (counted ∷ []) word ≡ log_name (empty ∷ []) word
  unfolding log_name
  name_word word = name_tag (unpacked_tag word)

  pub names_by_number : names_of (record { number = number; fork = Main; blocks = blocks }) ≡ log_name (empty ∷ [])
  names_by_number = λ i word. name_word word i

-- a relation's number has 4 bytes
pub small_number : (path : List ℕ) → unwrap_or (relation_number path) 0 < 2 ^ 32
unfolding is_relation_path is_relation_number
small_number path =
    let digits : List ℕ = number_part path in
    let value : ℕ = number_value digits in
    let low : Bool = nat_lt value (2 ^ 32) in
    let some_and_low : Bool = nat_lt 0 value && low in
    let no_zero : Bool = not (slice_index digits 0 == 48) in
    cond_both (is_relation_path path) (Some value) None (λ (o : Option ℕ). unwrap_or o 0 < 2 ^ 32)
    (λ is. ltb-true value (2 ^ 32)
    (and_parts (nat_lt 0 value) low (and_parts no_zero some_and_low (and_parts (list_all is_digit digits) (no_zero && some_and_low) is).1).1).1)
    (λ not. omega arith)
