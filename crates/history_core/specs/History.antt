-- The history that the calls of all backends make, when they have ended.
-- Calls are ordered by backend number. A view that took in others lists several backends' calls,
-- each in its own order; no number is given twice.
use Rattle.std.specs.Prelude.{◌≡◌, ◌≢◌, ℕ, Bool, true, List, length, Option}
use mathlib.Core.Option.{some}
use lib.ListN.{get_elem?}
use Rattle.pin_core.specs.declared.view.Call.{Call}
use Rattle.pin_core.specs.declared.view.View.{View}
use Rattle.pin_core.specs.State.{Page}
use Rattle.history_core.specs.Log.{Entry, Log, LogLaw, end_of, IsLegal, writes_in, writes_at}
use Rattle.history_core.specs.Log.{AreInOrder}
use Rattle.history_core.specs.State.{State}

-- The calls of backends are one history of a log; `origin` is what the lanes held at the start, and
-- `sizes` how many blocks each fork had
pub record IsHistory (known : ℕ → Bool) (origin : ℕ → Option Page) (sizes : ℕ → ℕ) (log : Log)
    (calls : List Call) : Type 0 where
  -- the entries follow one another, from the base on, and each is valid
  pub law : LogLaw log
  -- each call is legal: a write of a page or of a size is an entry of its backend, at its end; a
  -- page that was read is the block's page after the entries up to its place, if the contents of
  -- the block's lane are known; a size that was seen is the fork's after the entries up to its
  -- place
  pub legal : (k : ℕ) (c : Call) → get_elem? calls k ≡ some c → IsLegal known origin sizes log c
  -- there are as many writes as entries
  pub counted : writes_in calls ≡ length log.entries
  -- each entry is one write
  pub once : (k : ℕ) (e : Entry) → get_elem? log.entries k ≡ some e → writes_at (end_of e) calls ≡ 1
  -- the places of each backend's calls never fall
  pub in_order : AreInOrder calls

-- all backends but the first have ended
abbrev pub OthersEnded : State → Type 0
OthersEnded s = (i : ℕ) (v : View) → i ≢ 0 → get_elem? s.pool.core.views i ≡ some v
    → v.emptied ≡ true

-- once all backends but the first have ended, the calls of the first backend's view, with those
-- that it took in, are a history of the log
abbrev pub EndsInHistory : State → Type 0
EndsInHistory s = (v : View) → get_elem? s.pool.core.views 0 ≡ some v → OthersEnded s
    → IsHistory s.known s.origin s.opened_sizes s.log v.calls
