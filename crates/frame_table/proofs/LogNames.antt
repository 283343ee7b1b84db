-- How the log names a block, and what a record is by that.
use Rattle.std.proofs.Common.{◌≡◌, ℕ, true, List, Option, Some, sym, ap, ◌∙◌}
use Rattle.std.specs.Prelude.{slice_get}
use Rattle.block_tag.specs.declared.tag.Tag.{Tag}
use Rattle.block_tag.specs.declared.catalogue.RelEntry.{RelEntry}
use Rattle.block_tag.specs.Names.{names_block, packed_tag}
use Rattle.pin_core.specs.State.{Page}
use Rattle.history_core.specs.Log.{image, record_bytes}
use Rattle.table_rule.specs.Blocks.{log_name, name_of, name_in, block_name}
use Rattle.table_rule.proofs.Tags.{packed_is}
use Rattle.frame_table.specs.Entering.{IsRecord}

-- the log's name of a block that the relations have
named_as : (relations : List RelEntry) (tag : Tag) (entry : RelEntry) → names_block tag ≡ true → slice_get relations tag.rel.0 ≡ Some entry → log_name relations (packed_tag tag) ≡ block_name entry tag
unfolding log_name
named_as relations tag entry named listed = ap (name_of relations) (packed_is tag named) ∙ ap (λ (x : Option RelEntry). name_in x tag) listed

-- the record is that of the entry in the log
pub record_is : (relations : List RelEntry) (names : ℕ → List ℕ) (tag : Tag) (start backend : ℕ) (p : Page) (bytes : List ℕ) → names ≡ log_name relations → names_block tag ≡ true → IsRecord relations tag start p bytes → bytes ≡ record_bytes names (record { start = start; backend = backend; change = image (packed_tag tag) p })
record_is relations names tag start backend p bytes same named r = r.is ∙ ap (λ (name : List ℕ). record_bytes (λ _. name) (record { start = start; backend = backend; change = image (packed_tag tag) p })) (sym (named_as relations tag r.entry named r.listed)) ∙ ap (λ (n : ℕ → List ℕ). record_bytes n (record { start = start; backend = backend; change = image (packed_tag tag) p })) (sym same)
