-- A manager of the blocks of one relation's fork.
use Rattle.std.specs.Prelude.{◌≡◌, ℕ, ◌≤◌, List, [], ◌∷◌, length, replicate, slice_set, Option}
use Rattle.block_tag.specs.declared.catalogue.RelEntry.{RelEntry}
use Rattle.block_tag.specs.Names.{fork_number}
use Rattle.segment_store.specs.Contents.{Pages}
use Rattle.table_rule.specs.Blocks.{log_name}
use Rattle.frame_table.specs.Seats.{base_of, lanes_in, opened_of, relations_of}
use Rattle.backend_pass.specs.declared.manager.Manager.{Manager}
use Rattle.backend_pass.specs.Managers.{AreNewPasses}
use Rattle.backend_pass.specs.Passes.{PassState}
use Rattle.page_jobs.specs.Relations.{IsCatalogOf}
use Rattle.relation_commands.specs.declared.starting.RelationFork.{RelationFork}

-- the relation in the catalogue: no other fork of it has blocks
abbrev pub relation_entry : RelationFork → RelEntry
relation_entry r = record {
  tablespace = 0;
  database = 0;
  relation = r.number;
  blocks = slice_set (replicate 4 0) (fork_number r.fork) r.blocks;
}

-- how the log names its blocks
abbrev pub names_of : RelationFork → ℕ → List ℕ
names_of r = log_name (relation_entry r ∷ [])

-- the log as the manager was started
abbrev pub log_of : {L G : Type 0} → Manager L G → G
log_of m = m.table.table.shared.key.log.value

-- The manager has the blocks of this fork and no others, and a log that begins at `base`; these are
-- all its passes, of which none has done anything
pub record IsStarted {L G : Type 0} (contents : L → Option Pages) (r : RelationFork) (base : ℕ)
    (m : Manager L G) (ps : List PassState) : Type 0 where
  pub entries : relations_of m.table ≡ relation_entry r ∷ []
  pub catalog : IsCatalogOf r.fork r.blocks (relations_of m.table)
  pub counted : length (opened_of m.table) ≡ lanes_in m.table
  pub based : base_of m.table ≡ base
  pub several : (2 ≤ length ps) × (length ps ≤ 64)
  pub passes : AreNewPasses contents m (length ps) ps
