-- The words of the table that no frame and no latch has, and the kinds of step at one.
-- What the kinds here make of view and state is written once, with the kind as a variable, so a new
-- word costs no law that doesn't speak of it. A read's place adds to the calls, so it is a step of
-- its own.
use Rattle.std.specs.Prelude.{◌≡◌, ℕ, ◌+◌, ◌*◌, ◌<◌, ◌≤◌, Bool, true, false, max, nat_eq, Some}
use Rattle.std.specs.Prelude.{if◌then◌else◌}
use Rattle.pin_core.specs.declared.view.View.{View}
use Rattle.history_core.specs.Balances.{added_to}
use Rattle.history_core.specs.State.{State, next_hand}

-- The words that no frame and no latch has
pub data Word : Type 0 where
  -- the log's end
  end_word : Word
  -- the position up to which the log is flushed
  flushed_word : Word
  -- the redo position (`RedoRecPtr`)
  redo_word : Word
  -- the clock's hand (`nextVictimBuffer`)
  hand_word : Word
  -- the counter of this number (`pg_stat_io`)
  counter_word : ℕ → Word
  -- the hint word of this number
  hint_word : ℕ → Word

-- how many counters there are: hits, reads, writes, evictions and reuses, each without a ring and
-- for each of the three kinds of ring
abbrev pub counter_count : ℕ
counter_count = 20

-- the most that one backend may add to a counter: 2 to the power 48, less 1
abbrev pub most_published : ℕ
most_published = 281474976710655

-- how many hint words a table of n frames has
abbrev pub hint_count : ℕ → ℕ
hint_count n = 4 * n

-- whether the two are one word
abbrev pub is_word : Word → Word → Bool
is_word end_word end_word = true
is_word flushed_word flushed_word = true
is_word redo_word redo_word = true
is_word hand_word hand_word = true
is_word (counter_word a) (counter_word b) = nat_eq a b
is_word (hint_word a) (hint_word b) = nat_eq a b
is_word _ _ = false

-- The numbers that the words have
pub record Words : Type 0 where
  -- the log's end
  pub end : ℕ
  -- the flushed position
  pub flushed : ℕ
  -- the redo position
  pub redo : ℕ
  -- the clock's hand
  pub hand : ℕ
  -- the counters, by their numbers
  pub counter : ℕ → ℕ
  -- the hint words, by their numbers
  pub hint : ℕ → ℕ

-- the numbers that the words of a state have
abbrev pub words_of : State → Words
words_of s = record {
  end = s.end;
  flushed = s.flushed;
  redo = s.redo;
  hand = s.hand;
  counter = s.counter;
  hint = s.hint;
}

-- the number that a word has among these
abbrev pub word_in : Word → Words → ℕ
word_in end_word w = w.end
word_in flushed_word w = w.flushed
word_in redo_word w = w.redo
word_in hand_word w = w.hand
word_in (counter_word number) w = w.counter number
word_in (hint_word number) w = w.hint number

-- the number that a word has in a state
abbrev pub word_of : Word → State → ℕ
word_of w s = word_in w (words_of s)

-- The kinds of step at these words
pub data WordKind : Type 0 where
  -- the log's end is loaded
  load_end : WordKind
  -- the log's end is loaded as a checkpoint begins (`CreateCheckPoint`)
  begin_checkpoint : WordKind
  -- the flushed position is loaded
  load_flushed : WordKind
  -- the flushed position is raised to the log's end
  raise_flushed : WordKind
  -- the redo position is loaded
  load_redo : WordKind
  -- the redo position is raised to the log's end
  raise_redo : WordKind
  -- the clock's hand is loaded
  load_hand : WordKind
  -- the clock's hand moves on (`ClockSweepTick`)
  add_hand : WordKind
  -- the counter of this number is loaded
  load_counter : ℕ → WordKind
  -- the counter of this number rises by so much
  add_counter : ℕ → ℕ → WordKind
  -- the hint word of this number is loaded
  load_hint : ℕ → WordKind
  -- the hint word of this number gets a value
  store_hint : ℕ → ℕ → WordKind

-- the word that a kind is at
abbrev pub word_at : WordKind → Word
word_at load_end = end_word
word_at begin_checkpoint = end_word
word_at load_flushed = flushed_word
word_at raise_flushed = flushed_word
word_at load_redo = redo_word
word_at raise_redo = redo_word
word_at load_hand = hand_word
word_at add_hand = hand_word
word_at (load_counter number) = counter_word number
word_at (add_counter number more) = counter_word number
word_at (load_hint number) = hint_word number
word_at (store_hint number value) = hint_word number

-- the flushed position is raised under the log's latch, after a sync;
-- the redo position is loaded under the log's latch, and raised once the log's end was loaded or
-- stored under it;
-- the counter is there, and what the backend adds to it stays within bounds;
-- the hint word is there, and the value names no frame, or one that is there
abbrev pub WordAllowed : WordKind → State → View → Type 0
WordAllowed raise_flushed s v = v.log.synced ≡ true
WordAllowed load_redo s v = v.log.held ≡ true
WordAllowed raise_redo s v = v.log.end ≡ Some s.end
WordAllowed (load_counter number) s v = number < counter_count
WordAllowed (add_counter number more) s v = (number < counter_count)
    × (added_to number v + more ≤ most_published)
WordAllowed (load_hint number) s v = number < hint_count s.pool.core.frames
WordAllowed (store_hint number value) s v = (number < hint_count s.pool.core.frames)
    × (value ≤ s.pool.core.frames)
WordAllowed _ s v = Unit {0}

-- the number that a kind leaves in its word
abbrev pub number_after : WordKind → State → ℕ
number_after raise_flushed s = max s.flushed s.end
number_after raise_redo s = max s.redo s.end
number_after add_hand s = next_hand s.hand
number_after (add_counter number more) s = s.counter number + more
number_after (store_hint number value) s = value
number_after k s = word_of (word_at k) s

-- the number that each word has once one of them has become `number`
abbrev pub word_set : Word → ℕ → State → Word → ℕ
word_set at number s w = if is_word w at then number else word_of w s
