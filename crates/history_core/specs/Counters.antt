-- The counters of reads, writes and evictions: what the views fix of them.
use Rattle.std.specs.Prelude.{◌≡◌, ◌≢◌, ℕ, ◌+◌, ◌*◌, ◌≤◌, List}
use mathlib.Core.Option.{some}
use lib.ListN.{get_elem?}
use Rattle.pin_core.specs.declared.view.Published.{Published}
use Rattle.pin_core.specs.declared.view.View.{View}
use Rattle.history_core.specs.Balances.{Balances, added_to}
use Rattle.history_core.specs.State.{State}
use Rattle.history_core.specs.Words.{most_published}
use Rattle.grid.specs.Shape.{total}

-- The views fix each counter: it is the sum of what they have added
abbrev pub FollowsCounters : (ℕ → ℕ) → List View → Type 0
FollowsCounters counter views = (number : ℕ) → Balances (λ (v : View). v.published)
    (λ (p : Published). p.count) (λ (p : Published). 0) (λ (p : Published). p.more) number 0
    (counter number) views

-- What view i has added is bounded
pub record IsBounded (i : ℕ) (v : View) : Type 0 where
  -- the view has added to each counter at most 2^48 - 1 for itself, and as much for each view that
  -- was joined into it
  pub within : (number : ℕ) → added_to number v ≤ (v.joined + 1) * most_published
  -- no view but the first takes in others
  pub alone : i ≢ 0 → v.joined ≡ 0

-- The law of the counters
pub record CountersLaw (counter : ℕ → ℕ) (views : List View) : Type 0 where
  -- the views fix each counter
  pub fixed : FollowsCounters counter views
  -- what each view has added is bounded
  pub bounded : (i : ℕ) (v : View) → get_elem? views i ≡ some v → IsBounded i v

-- Each backend has added to a counter no more than it may, for itself and for each that was joined
-- into it
abbrev pub CountersAreBounded : State → Type 0
CountersAreBounded s = (i : ℕ) (v : View) → get_elem? s.pool.core.views i ≡ some v → IsBounded i v

-- Each counter is the sum of what the backends have added to it, including those that were joined
-- into the first
abbrev pub CountersAreSums : State → Type 0
CountersAreSums s = (number : ℕ)
    → s.counter number ≡ total (λ (v : View). added_to number v) s.pool.core.views
