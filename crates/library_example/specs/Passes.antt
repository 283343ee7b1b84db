-- What passes of the example note and leave as the manager is closed, and what redo makes of the
-- blocks after a crash.
use Rattle.std.specs.Prelude.{◌≡◌, ◌+◌, ◌<◌, ◌≤◌, ℕ, false, List, length, slice_index_or, Option}
use Rattle.pin_core.specs.State.{Page}
use Rattle.history_core.specs.Crashes.{CanRedo, Crashed}
use Rattle.history_core.specs.Device.{HasRisen}
use Rattle.history_core.specs.Log.{Entry, cell, record_size}
use Rattle.history_core.specs.State.{State, last_position}
use Rattle.table_rule.specs.Shows.{Devices}
use Rattle.backend_pass.specs.declared.manager.Manager.{Manager}
use Rattle.backend_pass.specs.Between.{AllReturn}
use Rattle.backend_pass.specs.Closing.{ClosesAll}
use Rattle.backend_pass.specs.Passes.{PassState}

-- the pass noted no further block as unentered
abbrev pub NotesNone : PassState → PassState → Type 0
NotesNone p q = q.view.unentered ≡ p.view.unentered

-- The pass hasn't seen the log down, and has seen room for one record more
pub record SawLogTakesMore (p : PassState) : Type 0 where
  pub up : p.view.saw_down ≡ false
  pub room : p.view.end_seen + record_size ≤ last_position

-- each pass of a list that saw this of the log noted no further block as unentered
abbrev pub AllNoteNone : List PassState → List PassState → Type 0
AllNoteNone ps qs = (i : ℕ) (d : PassState) → i < length ps
    → SawLogTakesMore (slice_index_or qs i d)
    → NotesNone (slice_index_or ps i d) (slice_index_or qs i d)

-- The log's count of faults hasn't risen since the start, and the log has room for one record more
pub record LogTakesMore (s : State) : Type 0 where
  pub up : HasRisen s.log_faults s.device.faults → ⊥
  pub room : s.end + record_size ≤ last_position

-- The passes came back, each the same and idle, and the manager was closed with them, which gave
-- the lanes and the log back
pub record ClosesReturned {L G : Type 0} (d : Devices L G) (m : Manager L G)
    (old new : List PassState) (lanes : List L) (log : G) : Type 0 where
  pub counted : length new ≡ length old
  pub back : AllReturn d.contents m old new
  pub closed : ClosesAll d m.table.table.shared.key new lanes log

-- After a crash that finds the devices in this state, redo makes of each block that it can redo the
-- page that the surviving entries make of the one at the start: no block is excepted
abbrev pub RedoesEach : State → Type 0
RedoesEach s = (pages : ℕ → Option Page) (es : List Entry) → Crashed s pages es → (tag : ℕ)
    → CanRedo s es tag → cell pages es tag ≡ cell s.origin es tag
