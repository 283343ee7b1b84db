-- What the views fix of the shared words. The changes of state words that they list follow on one
-- another, from the word at the start to the word that the frame has; they count the moves of the
-- clock's hand; they keep to where they raised the flushed and the redo position; and they list
-- what they added to counters and stored in hint words.
use Rattle.std.specs.Prelude.{◌≡◌, ◌≢◌, ℕ, ◌+◌, ◌%◌, ◌≤◌, List, [], ◌∷◌, ◌++◌, max, slice_set}
use mathlib.Core.Option.{some}
use lib.ListN.{get_elem?}
use Rattle.state_word.specs.declared.word.StateWord.{StateWord}
use Rattle.pin_core.specs.declared.view.View.{View}
use Rattle.pin_core.specs.declared.view.HintStore.{HintStore}
use Rattle.pin_core.specs.declared.view.Published.{Published}
use Rattle.pin_core.specs.declared.view.WordChange.{WordChange}
use Rattle.pin_core.specs.State.{Frame, zero_word}
use Rattle.history_core.specs.Balances.{Balances}
use Rattle.history_core.specs.State.{State, next_hand}
use Rattle.grid.specs.Shape.{put, total}

-- for each frame, each word was left as often as it was found, except that the first word wasn't
-- left by a change, and the last one, which the frame has, wasn't found: by every measure of words
-- the sums agree, so the views fix the word
abbrev pub Follows : (ℕ → Frame) → List View → Type 0
Follows frame views = (g : StateWord → ℕ) (f : ℕ) → Balances (λ (v : View). v.changes)
    (λ (c : WordChange). c.frame) (λ c. g c.found) (λ c. g c.left)
    f (g zero_word) (g (frame f).word) views

-- The position is the largest to which a view raised the flushed position; a view that raised it
-- nowhere keeps the log's base
pub record IsHighest (flushed : ℕ) (views : List View) : Type 0 where
  -- no view raised the flushed position beyond this one
  pub above : (i : ℕ) (v : View) → get_elem? views i ≡ some v → v.raised_to ≤ flushed
  -- for some view this is the largest position to which it raised the flushed position
  pub reached : (i : ℕ) × (v : View) × (get_elem? views i ≡ some v) × (v.raised_to ≡ flushed)

-- What the views fix of the shared words
pub record TrailLaw (s : State) : Type 0 where
  -- the views' changes of a frame's state word lead from the word at the start to the one that it
  -- has
  pub words : Follows s.pool.core.frame s.pool.core.views
  -- the hand stands where the moves that the views count have brought it from 0; from its last
  -- value a move brings it to 0
  pub hand : s.hand ≡ total (λ (v : View). v.ticks) s.pool.core.views % 18446744073709551616
  -- the flushed position is the largest to which a view raised it
  pub flushed : IsHighest s.flushed s.pool.core.views

-- The frames of two states have the same state words, the hand stands at the same place, and the
-- flushed position, the counters and the hint words are the same; so is the redo position, if the
-- logs begin at one place
pub record HasSameWords (s t : State) : Type 0 where
  -- each frame has the same state word
  pub words : (f : ℕ) → (t.pool.core.frame f).word ≡ (s.pool.core.frame f).word
  -- the clock's hand stands at the same place
  pub hand : t.hand ≡ s.hand
  -- the flushed position is the same
  pub flushed : t.flushed ≡ s.flushed
  -- if the logs begin at one place, the redo position is the same
  pub redo : t.log.base ≡ s.log.base → t.redo ≡ s.redo
  -- each counter is the same
  pub counters : (number : ℕ) → t.counter number ≡ s.counter number
  -- each hint word is the same
  pub hints : (number : ℕ) → t.hint number ≡ s.hint number

-- What one view, which was v in the state s and is w in the state t, lists and counts since was
-- made, and nothing else
pub record MakesListed (s t : State) (v w : View) : Type 0 where
  -- if the view lists no further change, each frame's state word is as it was
  pub still : w.changes ≡ v.changes → (f : ℕ)
      → (t.pool.core.frame f).word ≡ (s.pool.core.frame f).word
  -- if the view lists one more change, of a frame's word as it was, the frame has the word that was
  -- left
  pub changed : (f : ℕ) (c : WordChange) → w.changes ≡ v.changes ++ c ∷ [] → c.frame ≡ f
      → c.found ≡ (s.pool.core.frame f).word
      → (t.pool.core.frame f).word ≡ c.left
  -- if the view lists one more change, each other frame's state word is as it was
  pub others : (f : ℕ) (c : WordChange) → w.changes ≡ v.changes ++ c ∷ [] → f ≢ c.frame
      → (t.pool.core.frame f).word ≡ (s.pool.core.frame f).word
  -- if the view counts no further move of the hand, the hand stands where it stood
  pub unmoved : w.ticks ≡ v.ticks → t.hand ≡ s.hand
  -- if the view counts one more move of the hand, the hand has moved on by one
  pub moved : w.ticks ≡ v.ticks + 1 → t.hand ≡ next_hand s.hand
  -- if the largest position to which the view raised the flushed position hasn't fallen, the
  -- flushed position is the larger of what it was and of that
  pub raised : v.raised_to ≤ w.raised_to → t.flushed ≡ max s.flushed w.raised_to
  -- if the logs begin at one place, and the view didn't raise the redo position, it is as it was
  pub unraised : t.log.base ≡ s.log.base → w.redo_raised ≡ v.redo_raised → t.redo ≡ s.redo
  -- if the logs begin at one place, and the view raised the redo position once more, it is the
  -- larger of what it was and of where the view raised it to
  pub raised_redo : t.log.base ≡ s.log.base → (r : ℕ) → w.redo_raised ≡ v.redo_raised ++ r ∷ []
      → t.redo ≡ max s.redo r
  -- if the view lists no further addition, each counter is as it was
  pub unadded : w.published ≡ v.published → (number : ℕ) → t.counter number ≡ s.counter number
  -- if the view lists one more addition, its counter has risen by what was added, and no other has
  -- changed
  pub added : (p : Published) → w.published ≡ v.published ++ p ∷ [] → (number : ℕ)
      → t.counter number ≡ put s.counter p.count (s.counter p.count + p.more) number
  -- if the view lists no further store of a hint word, each hint word is as it was
  pub unstored : w.hints ≡ v.hints → (number : ℕ) → t.hint number ≡ s.hint number
  -- if the view lists one more store of a hint word, which found the word's value, the word has the
  -- value that was left, and no other hint word changed
  pub stored : (h : HintStore) → w.hints ≡ v.hints ++ h ∷ [] → h.found ≡ s.hint h.number
      → (number : ℕ) → t.hint number ≡ put s.hint h.number h.left number

-- if the views of the two states differ in one view alone, what that one lists more was made, and
-- nothing else
abbrev pub ListedIsMade : State → State → Type 0
ListedIsMade s t = (i : ℕ) (v w : View) → get_elem? s.pool.core.views i ≡ some v
    → t.pool.core.views ≡ slice_set s.pool.core.views i w
    → MakesListed s t v w
