-- The hint words: what they name, and what the views fix of them.
use Rattle.std.specs.Prelude.{ℕ, ◌≤◌, List}
use Rattle.pin_core.specs.declared.view.HintStore.{HintStore}
use Rattle.pin_core.specs.declared.view.View.{View}
use Rattle.history_core.specs.Balances.{Balances}
use Rattle.history_core.specs.State.{State}

-- The views fix each hint word: the sum of what their stores left there is the sum of what they
-- found there plus its present value. A word that nothing was stored in is 0
abbrev pub FollowsHints : (ℕ → ℕ) → List View → Type 0
FollowsHints hint views = (number : ℕ) → Balances (λ (v : View). v.hints)
    (λ (h : HintStore). h.number) (λ h. h.found) (λ h. h.left) number 0 (hint number) views

-- The law of the hint words
pub record HintsLaw (s : State) : Type 0 where
  -- each hint word names no frame, or one that is there
  pub named : (number : ℕ) → s.hint number ≤ s.pool.core.frames
  -- the views' lists of stores fix each hint word
  pub fixed : FollowsHints s.hint s.pool.core.views
