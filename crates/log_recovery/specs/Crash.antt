-- What a crash leaves of the log's bytes, and redo of what is read of them.
use Rattle.std.specs.Prelude.{◌≡◌, ℕ, ◌+◌, ◌<◌, ◌≤◌, ◌^◌, false, List, ◌++◌, length}
use Rattle.std.specs.Prelude.{slice_get, Option, Some}
use Rattle.block_tag.specs.declared.catalogue.RelEntry.{RelEntry}
use Rattle.block_tag.specs.Catalogue.{IsCatalogue}
use Rattle.pin_core.specs.State.{Page}
use Rattle.pin_core.specs.State as pin_state
use Rattle.history_core.specs.Log.{Entry, Log, head_size}
use Rattle.history_core.specs.State.{State, stored, unsynced}
use Rattle.history_core.specs.Laws.{Laws}
use Rattle.history_core.specs.Crashes.{CanRedo, RedoGives, Survives}
use Rattle.table_rule.specs.Blocks.{is_block, log_name}
use Rattle.log_recovery.specs.Laws.{without_backends}
use Rattle.log_recovery.specs.Records.{IsLogOf}

-- After a crash the log's device has a beginning of its bytes, with all up to the flushed position
pub record IsLeft (s : State) (bytes : List ℕ) : Type 0 where
  pub lost : List ℕ
  pub prefix : bytes ++ lost ≡ s.device.bytes
  pub kept : s.log.base < s.flushed → head_size + s.flushed ≤ s.log.base + length bytes

-- a log can write the numbers of each relation, in 4 bytes each
abbrev pub AreSmall : List RelEntry → Type 0
AreSmall relations = (k : ℕ) (r : RelEntry) → slice_get relations k ≡ Some r
    → (r.tablespace < 2 ^ 32) × (r.database < 2 ^ 32) × (r.relation < 2 ^ 32)

-- The log is of the relations' blocks, all of it whole pages, and names blocks by the relations'
-- numbers
pub record IsLogBy (relations : List RelEntry) (s : State) : Type 0 where
  pub catalogue : IsCatalogue relations
  pub small : AreSmall relations
  pub names : s.names ≡ log_name relations
  pub blocks : (tag : ℕ) → pin_state.is_block s.pool.core tag ≡ is_block relations tag
  pub images : s.ranges ≡ false

-- What is read of the bytes that are left are entries that survive, but for their backends
abbrev pub SurvivorsAreRead : Type 0
SurvivorsAreRead = (relations : List RelEntry) (s : State) → Laws s → IsLogBy relations s
    → (bytes : List ℕ) → IsLeft s bytes → (log : Log) → IsLogOf relations bytes log
    → (es : List Entry) × Survives s es × (log.entries ≡ without_backends es)

-- Redo of what is read of the bytes that are left, on the pages that the lanes hold after a crash,
-- gives each block its page after these entries, but for excepted blocks
abbrev pub CrashesRecover : Type 0
CrashesRecover = (relations : List RelEntry) (s : State) → Laws s → IsLogBy relations s
    → (bytes : List ℕ) → IsLeft s bytes → (log : Log) → IsLogOf relations bytes log
    → (pages : ℕ → Option Page) → ((tag : ℕ) → unsynced s tag ≡ false → pages tag ≡ stored s tag)
    → (tag : ℕ) → CanRedo s log.entries tag → RedoGives s pages log.entries tag
