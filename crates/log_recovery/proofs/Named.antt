-- The block that a record names.
use Rattle.std.proofs.Common.{◌≡◌, ℕ, true, false, List, [], Some, None, sym, ap, ◌∙◌, arith}
use Rattle.std.specs.Prelude.{slice_get}
use Rattle.std.proofs.lemmas.Option.{same_Some}
use Rattle.std.proofs.lemmas.Grind.{common_steps}
use Rattle.block_tag.specs.declared.tag.Fork.{Fork}
use Rattle.block_tag.specs.declared.catalogue.RelEntry.{RelEntry}
use Rattle.block_tag.specs.Names.{fork_number, fork_of_number}
use Rattle.block_tag.specs.Catalogue.{is_twin}
use Rattle.page_layout.specs.Fields.{number_at}
use Rattle.log_recovery.specs.Records.{NamesBlock, IsAtPlace}
use Rattle.log_recovery.proofs.Same.{twins}

pub fork_back : (n : ℕ) (f : Fork) → fork_of_number n ≡ Some f → n ≡ fork_number f
fork_back n f is = grind (arith, common_steps)

-- a relation that isn't the wanted one is not at its place
pub not_at_place : (relations : List RelEntry) (n : ℕ) (r : RelEntry) (a b c : ℕ) → slice_get relations n ≡ Some r → is_twin r (record { tablespace = a; database = b; relation = c; blocks = [] }) ≡ false → IsAtPlace relations a b c n → ⊥
not_at_place relations n r a b c listed other h = let w : RelEntry = record { tablespace = a; database = b; relation = c; blocks = [] } in
    let same : r ≡ h.relation = same_Some r h.relation (sym listed ∙ h.listed) in
    let twin : is_twin r w ≡ true = ap (λ (x : RelEntry). is_twin x w) same ∙ twins h.relation w h.tablespace_is h.database_is h.number_is in cc

pub none_at_place : (relations : List RelEntry) (a b c n : ℕ) → slice_get relations n ≡ None → IsAtPlace relations a b c n → ⊥
none_at_place relations a b c n lacking h = let e : None ≡ Some h.relation = sym lacking ∙ h.listed in cc

-- the relation that bytes name is at some place
pub place_named : (relations : List RelEntry) (bytes : List ℕ) (word a b c : ℕ) → a ≡ number_at 4 4 bytes → b ≡ number_at 8 4 bytes → c ≡ number_at 12 4 bytes → (h : NamesBlock relations bytes word) → IsAtPlace relations a b c h.tag.rel.0
place_named relations bytes word a b c x y z h = record {
  relation = h.relation;
  listed = h.listed;
  tablespace_is = sym h.tablespace ∙ sym x;
  database_is = sym h.database ∙ sym y;
  number_is = sym h.number ∙ sym z;
}
