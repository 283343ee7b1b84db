-- Two examples of events: a backend misses a block and reads it into a frame, copies its page under
-- a shared lock, and evicts it; or another backend waits there for a cleanup lock, and gets it.
use Rattle.std.specs.Prelude.{◌≡◌, true, false, List, [], ◌∷◌, ◌++◌, Some, None}
use mathlib.Core.Option.{some}
use lib.ListN.{get_elem?}
use Rattle.state_word.specs.declared.word.IoEnd.TheVariants.{ReadOk}
use Rattle.pin_core.specs.declared.view.Role.TheVariants.{HandedOut}
use Rattle.pin_core.specs.declared.view.Content.TheVariants.{Exclusive}
use Rattle.pin_core.specs.declared.view.MapEntry.{MapEntry}
use Rattle.pin_core.specs.declared.view.View.{View}
use Rattle.pin_core.specs.State.{CanOpen, Config, Page, link, no_tag, zero_word}
use Rattle.pin_core.specs.Kinds as pins
use Rattle.pin_core.specs.Turns.{TurnKind, take_turn, leave_turn, map_out, change_map, map_back}
use Rattle.pin_core.specs.Steps as pin_steps
use Rattle.page_core.specs.State.{State, opening}
use Rattle.page_core.specs.Kinds.{Kind, start_input, note_read, page_out, overwrite_read, page_back}
use Rattle.page_core.specs.Kinds.{end_io, share, exclude, take_copy, leave_copy, unshare, unexclude}
use Rattle.page_core.specs.Kinds.{set_waiter, clear_waiter}
use Rattle.page_core.specs.Steps.{Event, pins_and_maps, at, Run}

-- one frame, one partition, and room for two backends
abbrev pub sample_config : Config
sample_config = record {
  frames = 1;
  partitions = 1;
  partition_of = λ _. 0;
  is_fork = λ _. true;
  sizes = λ _. 8;
  resizes = false;
  lanes = 0;
  backends = 2;
  base = 0;
}

-- the page that the lane holds for each block, as far as its header goes: no flags, the line
-- pointers end at 24, and items and special space begin at 8192
abbrev pub example_page : Page
example_page = 0 ∷ 0 ∷ 0 ∷ 0 ∷ 0 ∷ 0 ∷ 0 ∷ 0 ∷ 0 ∷ 0 ∷ 0 ∷ 0 ∷ 24 ∷ 0 ∷ 0 ∷ 32 ∷ 0 ∷ 32 ∷ 4 ∷ 32 ∷ 0
    ∷ 0 ∷ 0 ∷ 0 ∷ []

-- the pool at the start
abbrev pub sample_start : State
sample_start = opening sample_config (λ _. Some example_page) []

-- the map's entry for the block 7 in the frame
abbrev pub sample_entry : MapEntry
sample_entry = record { tag = 7; frame = 0 }

-- a step of the first backend at the frame, of the kinds of `pin_core`
abbrev pub pool : pins.Kind → Event
pool k = pins_and_maps (pin_steps.at 0 0 k)

-- a step of the first backend at the latch of the partition
abbrev pub turn : TurnKind → Event
turn k = pins_and_maps (pin_steps.turn 0 0 k)

-- a step of the first backend at the frame, of the kinds of this crate
abbrev pub page : Kind → Event
page k = at 0 0 k

-- a step of the second backend at the frame, of the kinds of `pin_core`
abbrev pub second_pool : pins.Kind → Event
second_pool k = pins_and_maps (pin_steps.at 1 0 k)

-- a step of the second backend at the latch of the partition
abbrev pub second_turn : TurnKind → Event
second_turn k = pins_and_maps (pin_steps.turn 1 0 k)

-- a step of the second backend at the frame, of the kinds of this crate
abbrev pub second_page : Kind → Event
second_page k = at 1 0 k

-- the frame is given the block 7, under the latch of its partition
abbrev pub miss : List Event
miss = turn take_turn ∷ pool pins.lock_header ∷ pool pins.pin_victim ∷ pool pins.lock_header
    ∷ pool (pins.store_tag 7) ∷ pool pins.assign ∷ turn (map_out []) ∷ turn change_map
    ∷ turn (map_back (sample_entry ∷ [])) ∷ turn leave_turn ∷ []

-- the block's page is read into the frame
abbrev pub read : List Event
read = pool pins.lock_header ∷ page start_input ∷ page (note_read example_page) ∷ page page_out
    ∷ page (overwrite_read example_page) ∷ page page_back ∷ pool pins.lock_header
    ∷ page (end_io ReadOk) ∷ []

-- the frame's page is copied under the shared content lock
abbrev pub copy : List Event
copy = page share ∷ page take_copy ∷ page page_out ∷ page page_back ∷ page leave_copy ∷ []

-- the first backend's lock and pin go, and the frame is emptied
abbrev pub evict : List Event
evict = page unshare ∷ pool pins.unpin ∷ pool pins.lock_header ∷ pool pins.pin_victim
    ∷ turn take_turn ∷ pool pins.lock_header ∷ pool pins.erase_tag ∷ pool pins.clear
    ∷ turn (map_out (sample_entry ∷ [])) ∷ turn change_map ∷ turn (map_back []) ∷ turn leave_turn
    ∷ pool pins.unpin ∷ []

-- After the copy
pub record Copied (t : State) : Type 0 where
  -- the frame has the tag
  pub tag : (t.core.frame 0).tag ≡ 7
  -- the frame is valid, with one pin and a usage count of 1
  pub word : (t.core.frame 0).word
      ≡ record zero_word { pins = 1; usage = 1; valid = true; tag_valid = true; permanent = true }
  -- the frame holds the block's page
  pub held : (t.core.frame 0).page ≡ example_page
  -- one backend shares the frame's content lock
  pub shared : (t.core.frame 0).sharers ≡ 1
  -- the first backend pins the frame, and notes the page as the copy that it made
  pub noted : (v : View) × (get_elem? t.core.views 0 ≡ some v) × ((link v 0).role ≡ HandedOut)
      × ((link v 0).copied ≡ Some example_page)

-- After the eviction the frame has no tag and no pin, and the map lacks the block
pub record Evicted (t : State) : Type 0 where
  -- the frame has no tag
  pub tag : (t.core.frame 0).tag ≡ no_tag
  -- the frame's state word is as at the start
  pub word : (t.core.frame 0).word ≡ zero_word
  -- nobody shares the frame's content lock
  pub shared : (t.core.frame 0).sharers ≡ 0
  -- the map gives no frame for the block
  pub mapped : (t.core.partition 0).map 7 ≡ None
  -- the partition's latch is free
  pub taken : (t.core.partition 0).taken ≡ false

-- the pool can be made, and the events lead from its start to such states, one after the other
abbrev pub SampleRuns : Type 0
SampleRuns = CanOpen sample_config
    × ((m : State) × (t : State) × Run (miss ++ read ++ copy) sample_start m × Copied m
    × Run evict m t × Evicted t)

-- the second backend pins the frame and locks it exclusively; the first one's pin is there still,
-- so the second sets itself as waiter, and lets go of the lock
abbrev pub wait : List Event
wait = pins_and_maps pin_steps.split ∷ second_turn take_turn ∷ second_pool (pins.pin_mapped 7 false)
    ∷ second_turn leave_turn ∷ second_pool pins.load_state ∷ second_page exclude
    ∷ second_pool pins.lock_header ∷ second_page (set_waiter 1) ∷ second_page unexclude ∷ []

-- the first backend gives its pin up and wakes the second, which locks the frame again, and loads
-- the state word
abbrev pub wake : List Event
wake = pool pins.unpin ∷ pool pins.lock_header ∷ page clear_waiter ∷ second_pool pins.load_state
    ∷ second_page exclude ∷ second_pool pins.load_state ∷ []

-- While the second backend waits
pub record Waiting (t : State) : Type 0 where
  -- the word has two pins and the second backend's number as the waiter's
  pub word : (t.core.frame 0).word
      ≡ record zero_word {
        pins = 2;
        usage = 2;
        valid = true;
        tag_valid = true;
        permanent = true;
        awaited = true;
        waiter = 1;
      }
  -- nobody has the content lock exclusively
  pub free : (t.core.frame 0).exclusive ≡ false
  -- the second backend waits there under its number
  pub waits : (v : View) × (get_elem? t.core.views 1 ≡ some v) × ((link v 0).waits ≡ Some 1)

-- Once the second backend has the cleanup lock
pub record Granted (t : State) : Type 0 where
  -- one pin is left, and no backend is named as waiter
  pub word : (t.core.frame 0).word
      ≡ record zero_word { pins = 1; usage = 2; valid = true; tag_valid = true; permanent = true }
  -- the second backend pins the frame, has its content lock exclusively, and doesn't wait
  pub locked : (v : View) × (get_elem? t.core.views 1 ≡ some v) × ((link v 0).role ≡ HandedOut)
      × ((link v 0).content ≡ Exclusive) × ((link v 0).waits ≡ None)

-- from the start of the pool the events lead to such states, one after the other
abbrev pub CleanupRuns : Type 0
CleanupRuns = (m : State) × (t : State) × Run (miss ++ read ++ wait) sample_start m × Waiting m
    × Run wake m t × Granted t
