-- A manager of the blocks of one relation's fork, and passes that meet no fault.
use Rattle.std.specs.Prelude.{◌≡◌, ℕ, true, List}
use mathlib.Core.Option.{some}
use lib.ListN.{get_elem?}
use Rattle.block_tag.specs.declared.catalogue.RelEntry.{RelEntry}
use Rattle.block_tag.specs.declared.tag.Fork.{Fork}
use Rattle.block_tag.specs.declared.tag.Tag.{Tag}
use Rattle.block_tag.specs.Catalogue.{blocks_at}
use Rattle.segment_store.specs.Lanes.{tag_at}
use Rattle.table_rule.specs.Blocks.{has_block}
use Rattle.backend_pass.specs.Passes.{PassState}

-- the passes met no fault
abbrev pub MeetNothing : List PassState → List PassState → Type 0
MeetNothing ps qs =
    (w : ℕ) (p q : PassState) → get_elem? ps w ≡ some p → get_elem? qs w ≡ some q
    → q.view.met ≡ p.view.met

-- The catalogue has this many blocks of this fork of its first relation, and no other block
pub record IsCatalogOf (fork : Fork) (blocks : ℕ) (catalog : List RelEntry) : Type 0 where
  pub counted : blocks_at catalog 0 fork ≡ blocks
  pub alone : (tag : Tag) → has_block catalog tag ≡ true → tag ≡ tag_at fork tag.block
