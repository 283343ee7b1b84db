-- The log ends that backends have seen.
use Rattle.std.specs.Prelude.{◌≡◌, ℕ, ◌≤◌}
use mathlib.Core.Option.{some}
use lib.ListN.{get_elem?}
use Rattle.pin_core.specs.declared.view.View.{View}
use Rattle.history_core.specs.State.{State}

-- no backend has seen a log end beyond the log's end
abbrev pub EndsLaw : State → Type 0
EndsLaw s = (i : ℕ) (v : View) → get_elem? s.pool.core.views i ≡ some v → v.end_seen ≤ s.end
