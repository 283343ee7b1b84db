-- What the table's rule makes a step store: at a state word what the kind of step that it tells of
-- makes of the word found; at the clock's hand the number of the next frame; at the flushed and the
-- redo position the larger of it and the log's end; at a counter the sum of it and of what was
-- added; and at a hint word the value that it tells.
use Rattle.std.specs.Prelude.{◌≡◌, ℕ, ◌+◌, ◌<◌, max, length, slice_index}
use mathlib.Core.Option.{none, some}
use lib.ListN.{get_elem?}
use Rattle.atomic_table.specs.Table.{Me, step, Allows}
use Rattle.atomic_table.specs.Table as table
use Rattle.state_word.specs.declared.word.StateWord.{StateWord}
use Rattle.state_word.specs.Fields.{fields}
use Rattle.pin_core.specs.declared.view.View.{View}
use Rattle.history_core.specs.State.{State, next_hand}
use Rattle.history_core.specs.Words.{counter_count, hint_count}
use Rattle.table_rule.specs.declared.value.Value.{Value}
use Rattle.table_rule.specs.declared.opening.Opening.{Opening}
use Rattle.table_rule.specs.Layout.{end_place, flushed_place, redo_place, hand_place}
use Rattle.table_rule.specs.Layout.{counter_place, hint_place, state_place}
use Rattle.table_rule.specs.Shows.{Devices, RuleHolds}
use Rattle.frame_table.specs.WordSteps.{add_hand, raise_flushed, raise_redo, add_counter}
use Rattle.frame_table.specs.WordSteps.{store_hint, tells_word}
use Rattle.frame_table.specs.Kinds.{state_word, FrameKind, frame_after}
use Rattle.frame_table.specs.FrameSteps.{Choice, chosen, choice_part, tells}

-- The word `left` is what the kind makes of a frame f that had the word `found`
pub record Makes (k : FrameKind) (f : ℕ) (found left : StateWord) : Type 0 where
  pub state : State
  pub was : (state.pool.core.frame f).word ≡ found
  pub is : left ≡ (frame_after k state f).word

module _ {L G : Type 0} (d : Devices L G) (o : Opening L G) where
  -- The rule holds of the table t, the seat `id` with what it has is one of its seats, and its word
  -- i has 64 bits
  pub record IsSeated (slots id i : ℕ) (me : Me (Value L G) View) (t : table.State (Value L G) View)
      : Type 0 where
    pub held : RuleHolds d o t
    pub wide : length t.homes ≡ slots
    pub there : get_elem? t.views id ≡ some me.0
    pub small : slice_index t.words i < 18446744073709551616

  -- Whatever operation g on the state word of a frame keeps the rule and tells of a step of the
  -- kind k: the fields of what it stores are these, by those of the word found
  abbrev pub MustStore : FrameKind → (ℕ → StateWord → StateWord → Type 0) → Type 0
  MustStore k stores = (choice : Choice) (slots id f a b : ℕ) (g : ℕ → ℕ) (me : Me (Value L G) View)
      (t : table.State (Value L G) View) → choice_part choice ≡ state_word → f < o.config.frames
      → IsSeated slots id (state_place f) me t
      → Allows (RuleHolds d o) slots id me (state_place f) g
      (tells choice (step slots (state_place f) a b none) me)
      → chosen choice a (slice_index t.words (state_place f)) ≡ k
      → stores f (fields (slice_index t.words (state_place f)))
      (fields (g (slice_index t.words (state_place f))))

  -- Whatever operation g on the clock's hand keeps the rule and tells of a move of the hand: it
  -- stores the number of the next frame
  abbrev pub HandMustMove : Type 0
  HandMustMove = (slots id a b : ℕ) (g : ℕ → ℕ) (me : Me (Value L G) View)
      (t : table.State (Value L G) View) → IsSeated slots id (hand_place o.config.frames) me t
      → Allows (RuleHolds d o) slots id me (hand_place o.config.frames) g
      (tells_word add_hand (step slots (hand_place o.config.frames) a b none) me)
      → g (slice_index t.words (hand_place o.config.frames)) ≡ next_hand
      (slice_index t.words (hand_place o.config.frames))

  -- Whatever operation g on the word of the flushed position keeps the rule and tells that the
  -- position was raised: it stores the larger of that word and of the log's end
  abbrev pub FlushedMustRise : Type 0
  FlushedMustRise = (slots id a b : ℕ) (g : ℕ → ℕ) (me : Me (Value L G) View)
      (t : table.State (Value L G) View) → IsSeated slots id (flushed_place o.config.frames) me t
      → Allows (RuleHolds d o) slots id me (flushed_place o.config.frames) g
      (tells_word raise_flushed (step slots (flushed_place o.config.frames) a b none) me)
      → g (slice_index t.words (flushed_place o.config.frames))
      ≡ max (slice_index t.words (flushed_place o.config.frames))
      (slice_index t.words (end_place o.config.frames))

  -- Whatever operation g on the word of the redo position keeps the rule and tells that the
  -- position was raised: it stores the larger of that word and of the log's end
  abbrev pub RedoMustRise : Type 0
  RedoMustRise = (slots id a b : ℕ) (g : ℕ → ℕ)
      (me : Me (Value L G) View) (t : table.State (Value L G) View)
      → IsSeated slots id (redo_place o.config.frames) me t
      → Allows (RuleHolds d o) slots id me (redo_place o.config.frames) g
      (tells_word raise_redo (step slots (redo_place o.config.frames) a b none) me)
      → g (slice_index t.words (redo_place o.config.frames))
      ≡ max (slice_index t.words (redo_place o.config.frames))
      (slice_index t.words (end_place o.config.frames))

  -- Whatever operation g on a counter keeps the rule and tells that so much was added: it stores
  -- the sum of the counter and of that
  abbrev pub CounterMustRise : Type 0
  CounterMustRise = (number more slots id a b : ℕ) (g : ℕ → ℕ)
      (me : Me (Value L G) View) (t : table.State (Value L G) View)
      → number < counter_count
      → IsSeated slots id (counter_place o.config.frames number) me t
      → Allows (RuleHolds d o) slots id me (counter_place o.config.frames number) g
      (tells_word (add_counter number more)
      (step slots (counter_place o.config.frames number) a b none) me)
      → g (slice_index t.words (counter_place o.config.frames number))
      ≡ slice_index t.words (counter_place o.config.frames number) + more

  -- Whatever operation g on a hint word keeps the rule and tells that the word got a value: it
  -- stores that value
  abbrev pub HintMustBeStored : Type 0
  HintMustBeStored = (number value slots id a b : ℕ) (g : ℕ → ℕ) (me : Me (Value L G) View)
      (t : table.State (Value L G) View) → number < hint_count o.config.frames
      → IsSeated slots id (hint_place o.config.frames number) me t
      → Allows (RuleHolds d o) slots id me (hint_place o.config.frames number) g
      (tells_word (store_hint number value) (step slots (hint_place o.config.frames number) a b
      none) me)
      → g (slice_index t.words (hint_place o.config.frames number)) ≡ value
