-- Steps at the words after those of the frames: the log's end, the flushed and the redo position,
-- the clock's hand, the counters, and the hint words.
use Rattle.std.specs.Prelude.{◌≡◌, ◌≢◌, ℕ, ◌+◌, ◌*◌, ◌<◌, ◌≤◌, false, true, [], ◌∷◌, ◌++◌}
use Rattle.std.specs.Prelude.{Option, Some, None, unwrap_or}
use mathlib.Core.Option.{some}
use lib.ListN.{get_elem?}
use Rattle.atomic_table.specs.Table.{Me, Step}
use Rattle.pin_core.specs.declared.view.Content.TheVariants.{Unlocked}
use Rattle.pin_core.specs.declared.view.Link.{Link}
use Rattle.pin_core.specs.declared.view.View.{View}
use Rattle.pin_core.specs.declared.view.LoadedWord.TheVariants as seen
use Rattle.pin_core.specs.State.{Page, link}
use Rattle.history_core.specs.State.{State}
use Rattle.history_core.specs.Words as core
use Rattle.history_core.specs.Words.{Word, end_word, most_published, word_of, word_at}
use Rattle.history_core.specs.Words.{WordAllowed, number_after}
use Rattle.history_core.specs.Laws.{Laws}
use Rattle.history_core.specs.Steps.{Event, word, read, looked, has_read, view_after_word, state_set}
use Rattle.table_rule.specs.declared.value.Value.{Value}

pub data WordKind : Type 0 where
  -- a step at a word, as the protocol has it
  at_word : core.WordKind → WordKind
  -- the log's end is loaded as the place of a read of the page that was copied from a frame
  read_end : ℕ → WordKind

-- the log's end is loaded; so it is as a checkpoint begins
abbrev pub load_end : WordKind
load_end = at_word core.load_end

abbrev pub begin_checkpoint : WordKind
begin_checkpoint = at_word core.begin_checkpoint

-- the flushed position is loaded, and raised to the log's end
abbrev pub load_flushed : WordKind
load_flushed = at_word core.load_flushed

abbrev pub raise_flushed : WordKind
raise_flushed = at_word core.raise_flushed

-- the redo position is loaded, and raised to the log's end
abbrev pub load_redo : WordKind
load_redo = at_word core.load_redo

abbrev pub raise_redo : WordKind
raise_redo = at_word core.raise_redo

-- the clock's hand is loaded, and moves on
abbrev pub load_hand : WordKind
load_hand = at_word core.load_hand

abbrev pub add_hand : WordKind
add_hand = at_word core.add_hand

-- the counter of this number is loaded, and rises by so much
abbrev pub load_counter : ℕ → WordKind
load_counter number = at_word (core.load_counter number)

abbrev pub add_counter : ℕ → ℕ → WordKind
add_counter number more = at_word (core.add_counter number more)

-- the hint word of this number is loaded, and gets a value
abbrev pub load_hint : ℕ → WordKind
load_hint number = at_word (core.load_hint number)

abbrev pub store_hint : ℕ → ℕ → WordKind
store_hint number value = at_word (core.store_hint number value)

-- the word that a kind is at
abbrev pub kind_word : WordKind → Word
kind_word (at_word k) = word_at k
kind_word (read_end f) = end_word

-- the number that it leaves there
abbrev pub number_left : WordKind → State → ℕ
number_left (at_word k) s = number_after k s
number_left (read_end f) s = s.end

-- the event that it is
abbrev pub word_event : WordKind → ℕ → Event
word_event (at_word k) i = word i k
word_event (read_end f) i = read i f

-- A page was copied at a frame under a content lock that is held still, no entry is unapplied
-- there, and the pin remembers the tag
pub record IsCopied (l : Link) : Type 0 where
  pub right : l.content ≢ Unlocked
  pub copied : l.copied ≢ None
  pub applied : l.unapplied ≡ false
  pub remembered : l.tag ≢ None

-- when a kind is allowed
abbrev pub IsWordAllowed : WordKind → State → View → Type 0
IsWordAllowed (read_end f) s v = (f < s.pool.core.frames) × IsCopied (link v f)
IsWordAllowed (at_word core.raise_flushed) s v = (v.log.synced ≡ true) × (v.log.end ≡ Some s.end)
IsWordAllowed (at_word k) s v = WordAllowed k s v

-- a read of the page that was copied, of the block that the pin remembers
abbrev pub read_of : Option ℕ → Option Page → ℕ → View → View
read_of (Some tag) (Some page) end v = has_read end tag page v
read_of _ _ end v = v

-- the log's end, as the holder of its latch has loaded or stored it
abbrev pub end_known : View → ℕ
end_known v = unwrap_or v.log.end 0

-- What a kind makes of the view, if the number found is `found`
abbrev pub view_of : WordKind → ℕ → View → View
view_of (at_word k) found v = view_after_word k found (end_known v) v
view_of (read_end f) found v = looked (seen.LogEnd found)
    (read_of (link v f).tag (link v f).copied found v)

-- a view that has added to a counter
abbrev pub view_published : ℕ → ℕ → View → View
view_published number more v = record v {
  steps = v.steps + 1;
  published = v.published ++ record { count = number; more = more } ∷ [];
}

-- the state after it, by backend i, whose view is v
abbrev pub next_of : WordKind → State → ℕ → View → State
next_of k s i v = state_set (kind_word k) (number_left k s) s i
    (view_of k (word_of (kind_word k) s) v)

-- The view v became w by a step of the kind k, which found its word as `found`
pub record DidWord (k : WordKind) (v w : View) (found : ℕ) : Type 0 where
  -- the state that it was at, which has the law
  pub state : State
  pub laws : Laws state
  -- the view's place there
  pub seat : ℕ
  pub there : get_elem? state.pool.core.views seat ≡ some v
  pub live : v.emptied ≡ false
  pub says : word_of (kind_word k) state ≡ found
  pub allowed : IsWordAllowed k state v
  pub after : w ≡ view_of k found v

module _ {L G : Type 0} where
  -- a step at such a word: the slots in hand stay
  abbrev pub tells_word : WordKind → Step (Value L G) → Me (Value L G) View → ℕ
      → Me (Value L G) View → Type 0
  tells_word k st m found m' = (m'.1 ≡ m.1) × DidWord k m.0 m'.0 found

  -- a load of a hint word in a table of n frames: it names none past them
  abbrev pub tells_hint : ℕ → ℕ → Step (Value L G) → Me (Value L G) View → ℕ → Me (Value L G) View
      → Type 0
  tells_hint n number st m found m' = tells_word (load_hint number) st m found m' × (found ≤ n)

  -- a load of the redo position, over a log that begins at `base`: it is there or past that
  abbrev pub tells_redo : ℕ → Step (Value L G) → Me (Value L G) View → ℕ → Me (Value L G) View
      → Type 0
  tells_redo base st m found m' = tells_word load_redo st m found m' × (base ≤ found)

  -- a load of a counter: it is at most what 64 backends may add
  abbrev pub tells_counter : ℕ → Step (Value L G) → Me (Value L G) View → ℕ
      → Me (Value L G) View → Type 0
  tells_counter number st m found m' = tells_word (load_counter number) st m found m'
      × (found ≤ 64 * most_published)
