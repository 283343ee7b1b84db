-- What is taken from a source at a log's head, and for a record.
use Rattle.std.proofs.Common.{◌≡◌, ℕ, ◌<◌, ◌≤◌, true, List, [], length, take, drop, Option, Some, None, sym, ap, ◌∙◌, subst, arith, length-drop}
use Rattle.std.specs.Prelude.{IfSome, is_some}
use Rattle.std.proofs.lemmas.List.{take_all}
use Rattle.block_tag.specs.declared.catalogue.RelEntry.{RelEntry}
use Rattle.block_tag.specs.declared.tag.Tag.{Tag}
use Rattle.block_tag.specs.Names.{names_block}
use Rattle.history_core.specs.Log.{Entry, record_size}
use Rattle.byte_devices.specs.Sources.{Takes}
use Rattle.log_recovery.specs.Records.{HasBadHead, IsHead, IsRecord, image_entry}
use Rattle.log_recovery.specs.Steps.{Begins, HasNoRecord, IsNextImage}
use Rattle.log_recovery.proofs.Prefix.{record_of_first, first_of_record, head_of_first, first_of_head, none_short}

-- what is known stays known
pub told_still : (n : ℕ) (piece : List ℕ) (old new : Option (List ℕ)) → Takes n piece old new → is_some new ≡ is_some old
told_still n piece None new takes = ap is_some takes
told_still n piece (Some bytes) new takes = ap is_some takes.2

-- all bytes of a piece were taken
pub takes_all : (n k : ℕ) (piece : List ℕ) (old new : Option (List ℕ)) → n ≤ k → k ≤ n → Takes n piece old new → Takes k piece old new
takes_all n k piece old new low high takes = subst (λ (m : ℕ). Takes m piece old new) (omega arith) takes

-- a piece of k bytes that was filled whole has the first k bytes
first_bytes : (k : ℕ) (piece bytes : List ℕ) → length piece ≡ k → take k piece ≡ take k bytes → piece ≡ take k bytes
first_bytes k piece bytes long same = sym (take_all k piece (omega (arith, long))) ∙ same

-- one that wasn't: the source had fewer
few_there : (n k : ℕ) (piece bytes : List ℕ) (new : Option (List ℕ)) → Takes n piece (Some bytes) new → IfSome new (λ rest. rest ≡ []) → n < k → length bytes < k
few_there n k piece bytes new takes ends low = let rest : drop n bytes ≡ [] = subst (λ (o : Option (List ℕ)). IfSome o (λ rest. rest ≡ [])) takes.2 ends in
    let left = length-drop n bytes in let none : length (drop n bytes) ≡ 0 = ap (λ (l : List ℕ). length l) rest in omega (arith, left, none, low)

-- too few bytes for a head
pub begins_none : (n : ℕ) (piece : List ℕ) (old new : Option (List ℕ)) → Takes n piece old new → IfSome new (λ rest. rest ≡ []) → n < 16 → IfSome old (λ bytes. Begins bytes None new)
begins_none n piece None new takes ends low = tt
begins_none n piece (Some bytes) new takes ends low = few_there n 16 piece bytes new takes ends low

-- a head
pub begins_some : (piece : List ℕ) (old new : Option (List ℕ)) (base : ℕ) → length piece ≡ 16 → Takes 16 piece old new → IsHead piece base → IfSome old (λ bytes. Begins bytes (Some base) new)
begins_some piece None new base long takes head = tt
begins_some piece (Some bytes) new base long takes head = (head_of_first bytes base takes.0 (subst (λ (l : List ℕ). IsHead l base) (first_bytes 16 piece bytes long takes.1) head), takes.2)

-- neither
pub no_head : (piece : List ℕ) (old new : Option (List ℕ)) → length piece ≡ 16 → Takes 16 piece old new → ((base : ℕ) → IsHead piece base → ⊥) → IfSome old HasBadHead
no_head piece None new long takes none = tt
no_head piece (Some bytes) new long takes none = (takes.0, λ base head. none base (subst (λ (l : List ℕ). IsHead l base) (sym (first_bytes 16 piece bytes long takes.1)) (first_of_head bytes base head)))

-- where bytes begin so, they aren't without a head
pub has_head : (A : Type 0) (old new : Option (List ℕ)) (head : Option ℕ) → IfSome old (λ bytes. Begins bytes head new) → IfSome old (λ bytes. HasBadHead bytes → A)
has_head A None new head begins = tt
has_head A (Some bytes) new None begins = λ none. absurd (let long = none.0 in omega (arith, begins, long))
has_head A (Some bytes) new (Some base) begins = λ none. absurd (none.1 base begins.0)

module _ (relations : List RelEntry) where
  -- too few bytes for a record
  pub no_record_left : (from n : ℕ) (piece : List ℕ) (old new : Option (List ℕ)) → Takes n piece old new → IfSome new (λ rest. rest ≡ []) → n < 8224 → IfSome old (HasNoRecord relations from)
  no_record_left from n piece None new takes ends low = tt
  no_record_left from n piece (Some bytes) new takes ends low = λ before e r. none_short relations from before bytes e (few_there n 8224 piece bytes new takes ends low) r

  -- bytes that are none
  pub no_record_there : (from : ℕ) (piece : List ℕ) (old new : Option (List ℕ)) → length piece ≡ 8224 → Takes 8224 piece old new → HasNoRecord relations from piece → IfSome old (HasNoRecord relations from)
  no_record_there from piece None new long takes none = tt
  no_record_there from piece (Some bytes) new long takes none = λ before e r. none before e (subst (λ (l : List ℕ). IsRecord relations from before l e) (sym (first_bytes 8224 piece bytes long takes.1)) (first_of_record relations from before bytes e r))

  record_stands : (from : ℕ) (tag : Tag) (page piece : List ℕ) (old new : Option (List ℕ)) → length piece ≡ 8224 → Takes 8224 piece old new → ((before : List Entry) → IsRecord relations from before piece (image_entry from tag page))
      → IfSome old (λ bytes. (new ≡ Some (drop record_size bytes)) × ((before : List Entry) → IsRecord relations from before bytes (image_entry from tag page)))
  record_stands from tag page piece None new long takes is = tt
  record_stands from tag page piece (Some bytes) new long takes is = (
    takes.2,
    λ before. record_of_first relations from before bytes (image_entry from tag page)
        (subst (λ (l : List ℕ). IsRecord relations from before l (image_entry from tag page)) (first_bytes 8224 piece bytes long takes.1) (is before)),
  )

  -- a record
  pub next_record : (from : ℕ) (tag : Tag) (page piece : List ℕ) (old new : Option (List ℕ)) → length piece ≡ 8224 → Takes 8224 piece old new → names_block tag ≡ true → ((before : List Entry) → IsRecord relations from before piece (image_entry from tag page))
      → IsNextImage relations from tag page old new
  next_record from tag page piece old new long takes named is = record {
    named = named;
    valid = (is []).valid;
    stands = record_stands from tag page piece old new long takes is;
  }

  pub next_found : (from : ℕ) (found : Option Tag) (page piece : List ℕ) (old new : Option (List ℕ)) → length piece ≡ 8224 → Takes 8224 piece old new → IfSome found (λ tag. names_block tag ≡ true)
      → IfSome found (λ tag. (before : List Entry) → IsRecord relations from before piece (image_entry from tag page)) → IfSome found (λ tag. IsNextImage relations from tag page old new)
  next_found from None page piece old new long takes named is = tt
  next_found from (Some tag) page piece old new long takes named is = next_record from tag page piece old new long takes named is
