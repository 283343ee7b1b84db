-- Two examples of the definitions. A backend that has read a block into a frame evicts the block;
-- or another backend waits there for a cleanup lock, and gets it.
use Rattle.std.specs.Prelude.{◌≡◌, true, false, List, [], ◌∷◌, ◌++◌, Some, None}
use mathlib.Core.Option.{some}
use lib.ListN.{get_elem?}
use Rattle.pin_core.specs.declared.view.Content.TheVariants.{Exclusive}
use Rattle.pin_core.specs.declared.view.Role.TheVariants.{HandedOut}
use Rattle.pin_core.specs.declared.view.View.{View}
use Rattle.pin_core.specs.State.{link, no_tag, zero_word}
use Rattle.pin_core.specs.Kinds as pins
use Rattle.pin_core.specs.Turns.{TurnKind, take_turn, leave_turn, map_out, change_map, map_back}
use Rattle.pin_core.specs.Steps as pin_steps
use Rattle.page_core.specs.Kinds.{Kind, exclude, unexclude, set_waiter, clear_waiter}
use Rattle.page_core.specs.Steps as page_steps
use Rattle.page_core.specs.Sample.{sample_entry}
use Rattle.history_core.specs.State.{State}
use Rattle.history_core.specs.Steps as steps
use Rattle.history_core.specs.Steps.{Event, Run}
use Rattle.history_core.specs.Miss.{miss_start, pool_by, page_by, pool, turn, page, miss, fill}

-- the pin goes; under the latch of the partition the tag is erased, the frame cleared, and the
-- map's entry left out; then the tag word is loaded under the header
abbrev pub evict : List Event
evict = pool pins.unpin ∷ pool pins.lock_header ∷ pool pins.pin_victim ∷ turn take_turn
    ∷ pool pins.lock_header ∷ pool pins.erase_tag ∷ pool pins.clear
    ∷ turn (map_out (sample_entry ∷ [])) ∷ turn change_map ∷ turn (map_back []) ∷ turn leave_turn
    ∷ pool pins.unpin ∷ pool pins.lock_header ∷ pool pins.load_tag ∷ pool pins.unlock_header ∷ []

-- What holds after the eviction: the frame has no tag and no pin, and the map lacks the block
pub record Evicted (t : State) : Type 0 where
  -- the frame has no tag
  pub tag : (t.pool.core.frame 0).tag ≡ no_tag
  -- the frame's state word is 0, as at the start
  pub word : (t.pool.core.frame 0).word ≡ zero_word
  -- the map lacks the block
  pub mapped : (t.pool.core.partition 0).map 7 ≡ None
  -- the partition's latch is free
  pub taken : (t.pool.core.partition 0).taken ≡ false
  -- the backend has erased one tag, and lists the one block that it had seen in a frame as gone
  pub gone : (v : View) × (get_elem? t.pool.core.views 0 ≡ some v) × (v.cleared ≡ 1)
      × (v.residents ≡ record { frame = 0; tag = 7; gone = true } ∷ [])

-- these events lead from the start to a state after the eviction
abbrev pub EvictionRuns : Type 0
EvictionRuns = (t : State) × Run (miss ++ fill ++ evict) miss_start t × Evicted t

-- a step of a second backend, at the pins, the header or the tag of the one frame
abbrev pub second_pool : pins.Kind → Event
second_pool k = pool_by 1 k

-- a step of a second backend, at the one latch of a partition
abbrev pub second_turn : TurnKind → Event
second_turn k = steps.pool (page_steps.pins_and_maps (pin_steps.turn 1 0 k))

-- a step of a second backend, at the content lock, the page or the waiter of the one frame
abbrev pub second_page : Kind → Event
second_page k = page_by 1 k

-- the second backend pins the frame and locks it exclusively; the first one's pin is still there,
-- so the second sets itself as waiter, and lets go of the lock
abbrev pub wait : List Event
wait = steps.pool (page_steps.pins_and_maps pin_steps.split) ∷ second_turn take_turn
    ∷ second_pool (pins.pin_mapped 7 false) ∷ second_turn leave_turn ∷ second_pool pins.load_state
    ∷ second_page exclude ∷ second_pool pins.lock_header ∷ second_page (set_waiter 1)
    ∷ second_page unexclude ∷ []

-- the first backend gives up its pin and wakes the second, which locks the frame again, and loads
-- the state word
abbrev pub wake : List Event
wake = pool pins.unpin ∷ pool pins.lock_header ∷ page clear_waiter ∷ second_pool pins.load_state
    ∷ second_page exclude ∷ second_pool pins.load_state ∷ []

-- What holds while the second backend waits
pub record Waiting (t : State) : Type 0 where
  -- both backends pin the frame, and its state word has the number of the second as the waiter's
  pub word : (t.pool.core.frame 0).word
      ≡ record zero_word {
        pins = 2;
        usage = 2;
        valid = true;
        tag_valid = true;
        permanent = true;
        awaited = true;
        waiter = 1;
      }
  -- the second backend waits there under its number
  pub waits : (v : View) × (get_elem? t.pool.core.views 1 ≡ some v) × ((link v 0).waits ≡ Some 1)

-- What holds once the second backend has the cleanup lock
pub record Granted (t : State) : Type 0 where
  -- one pin of the frame is left, and no backend waits there
  pub word : (t.pool.core.frame 0).word
      ≡ record zero_word { pins = 1; usage = 2; valid = true; tag_valid = true; permanent = true }
  -- the second backend pins the frame, has its content lock exclusively, and doesn't wait
  pub locked : (v : View) × (get_elem? t.pool.core.views 1 ≡ some v) × ((link v 0).role ≡ HandedOut)
      × ((link v 0).content ≡ Exclusive) × ((link v 0).waits ≡ None)

-- these events lead from the start to the wait, and from there to the cleanup lock
abbrev pub WaitRuns : Type 0
WaitRuns = (m : State) × (t : State) × Run (miss ++ fill ++ wait) miss_start m × Waiting m
    × Run wake m t × Granted t
