-- What is left of the backends that were joined into the first.
use Rattle.std.specs.Prelude.{◌≡◌, ℕ, true}
use mathlib.Core.Option.{some}
use lib.ListN.{get_elem?}
use Rattle.pin_core.specs.declared.view.View.{View}
use Rattle.pin_core.specs.State.{emptied_view}
use Rattle.history_core.specs.State.{State}

-- an emptied view has nothing: no call, no fault counted, no latch, lock or right
abbrev pub SpentLaw : State → Type 0
SpentLaw s = (i : ℕ) (v : View) → get_elem? s.pool.core.views i ≡ some v → v.emptied ≡ true
    → v ≡ emptied_view
