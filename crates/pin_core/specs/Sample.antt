-- An example of events: a backend misses a block and gives it a frame, and another one hits it
-- there.
use Rattle.std.specs.Prelude.{◌≡◌, true, false, List, [], ◌∷◌, Some}
use mathlib.Core.Option.{some}
use lib.ListN.{get_elem?}
use Rattle.pin_core.specs.declared.view.Role.TheVariants.{HandedOut}
use Rattle.pin_core.specs.declared.view.MapEntry.{MapEntry}
use Rattle.pin_core.specs.declared.view.View.{View}
use Rattle.pin_core.specs.State.{CanOpen, Config, State, link, no_tag, zero_word, opening}
use Rattle.pin_core.specs.Kinds.{pin_mapped, unpin, lock_header, pin_victim, store_tag, assign}
use Rattle.pin_core.specs.Turns.{take_turn, leave_turn, map_out, change_map, map_back}
use Rattle.pin_core.specs.Steps.{Event, at, turn, split, Run}

-- two frames, one partition, and room for two backends
abbrev pub sample_config : Config
sample_config = record {
  frames = 2;
  partitions = 1;
  partition_of = λ _. 0;
  is_fork = λ _. true;
  sizes = λ _. 8;
  resizes = false;
  lanes = 0;
  backends = 2;
  base = 0;
}

-- the pool at the start
abbrev pub sample_start : State
sample_start = opening sample_config []

-- the map's entry for the block 7 in the first frame
abbrev pub sample_entry : MapEntry
sample_entry = record { tag = 7; frame = 0 }

-- the first backend gives the block 7 the first frame, under the latch of its partition, and then
-- these events follow
abbrev pub miss_events : List Event → List Event
miss_events then = turn 0 0 take_turn ∷ at 0 0 lock_header ∷ at 0 0 pin_victim ∷ at 0 0 lock_header
    ∷ at 0 0 (store_tag 7) ∷ at 0 0 assign ∷ turn 0 0 (map_out []) ∷ turn 0 0 change_map
    ∷ turn 0 0 (map_back (sample_entry ∷ [])) ∷ turn 0 0 leave_turn ∷ then

-- after the miss of the first backend the second one finds and pins the block there, and the first
-- gives its pin up
abbrev pub sample_events : List Event
sample_events = miss_events (split ∷ turn 1 0 take_turn ∷ at 1 0 (pin_mapped 7 false)
    ∷ turn 1 0 leave_turn ∷ at 0 0 unpin ∷ [])

-- The state that the events lead to
pub record SampleEnd (t : State) : Type 0 where
  -- the first frame has the tag
  pub tag : (t.frame 0).tag ≡ 7
  -- the first frame has one pin, and a usage count of 2: 1 from the miss and 1 from the hit
  pub word : (t.frame 0).word
      ≡ record zero_word { pins = 1; usage = 2; tag_valid = true; permanent = true }
  -- the map gives the first frame for the tag, and the latch is free
  pub mapped : ((t.partition 0).map 7 ≡ Some 0) × ((t.partition 0).taken ≡ false)
  -- the pin of the first frame is the second backend's, and remembers the tag
  pub hit : (v : View) × (get_elem? t.views 1 ≡ some v) × ((link v 0).role ≡ HandedOut)
      × ((link v 0).tag ≡ Some 7)
  -- the second frame is as it was
  pub other : ((t.frame 1).tag ≡ no_tag) × ((t.frame 1).word ≡ zero_word)

-- the pool can be made, and the events lead from its start to such a state
abbrev pub SampleRuns : Type 0
SampleRuns = CanOpen sample_config × ((t : State) × Run sample_events sample_start t × SampleEnd t)
