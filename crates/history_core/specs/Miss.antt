-- An example, a miss and a read: a backend gives a frame to a block, reads the block from its lane
-- into it, copies the page under the shared content lock and gives the read its place.
use Rattle.std.specs.Prelude.{◌≡◌, ℕ, Bool, false, List, [], ◌∷◌, ◌++◌, Some}
use mathlib.Core.Option.{some}
use lib.ListN.{get_elem?}
use Rattle.state_word.specs.declared.word.IoEnd.TheVariants.{ReadOk}
use Rattle.pin_core.specs.declared.view.Call.TheVariants.{Read}
use Rattle.pin_core.specs.declared.view.View.{View}
use Rattle.pin_core.specs.Kinds as pins
use Rattle.pin_core.specs.Turns.{TurnKind, take_turn, leave_turn, map_out, change_map, map_back}
use Rattle.pin_core.specs.Steps as pin_steps
use Rattle.page_core.specs.Kinds.{Kind, start_input, note_read, page_out, overwrite_read, page_back}
use Rattle.page_core.specs.Kinds.{end_io, share, take_copy, leave_copy}
use Rattle.page_core.specs.Steps as page_steps
use Rattle.page_core.specs.Sample.{example_page, sample_entry}
use Rattle.history_core.specs.State.{State, opening}
use Rattle.history_core.specs.Lanes.{take_lane, leave_lane, lane_out, read_block, lane_back}
use Rattle.history_core.specs.Steps as steps
use Rattle.history_core.specs.Steps.{Event, Run}
use Rattle.history_core.specs.Sample.{sample_config, sample_store, sample_lane}

-- the lane holds a sound page for each block; entries may be made of ranges if `may` says so
abbrev pub start_with : Bool → State
start_with may =
    opening sample_config (record sample_store { origin = λ _. Some example_page; ranges = may }) []

-- the start of the example: no entry may be made of ranges
abbrev pub miss_start : State
miss_start = start_with false

-- a step of backend i at the one frame, of the kinds of `pin_core`
abbrev pub pool_by : ℕ → pins.Kind → Event
pool_by i k = steps.pool (page_steps.pins_and_maps (pin_steps.at i 0 k))

-- a step of backend i at the one frame, of the kinds of `page_core`
abbrev pub page_by : ℕ → Kind → Event
page_by i k = steps.pool (page_steps.at i 0 k)

-- a step of the first backend at the one frame, of the kinds of `pin_core`
abbrev pub pool : pins.Kind → Event
pool k = pool_by 0 k

-- a step of the first backend at the latch of the one partition
abbrev pub turn : TurnKind → Event
turn k = steps.pool (page_steps.pins_and_maps (pin_steps.turn 0 0 k))

-- a step of the first backend at the one frame, of the kinds of `page_core`
abbrev pub page : Kind → Event
page k = page_by 0 k

-- the frame is given to the block 7, under the latch of its partition
abbrev pub miss : List Event
miss = turn take_turn ∷ pool pins.lock_header ∷ pool pins.pin_victim ∷ pool pins.lock_header
    ∷ pool (pins.store_tag 7) ∷ pool pins.assign ∷ turn (map_out []) ∷ turn change_map
    ∷ turn (map_back (sample_entry ∷ [])) ∷ turn leave_turn ∷ []

-- input of the block begins
abbrev pub begin_input : List Event
begin_input = pool pins.lock_header ∷ page start_input ∷ []

-- the block is read from its lane, and its page put into the frame
abbrev pub fill : List Event
fill = begin_input ++ steps.lane 0 0 take_lane ∷ steps.lane 0 0 (lane_out sample_lane)
    ∷ steps.lane 0 0 (read_block 7 example_page)
    ∷ steps.note 0 0 0 (lane_back false) (note_read example_page) ∷ steps.lane 0 0 leave_lane
    ∷ page page_out ∷ page (overwrite_read example_page) ∷ page page_back ∷ pool pins.lock_header
    ∷ page (end_io ReadOk) ∷ []

-- the page is copied under the shared content lock, and the read gets its place
abbrev pub copy : List Event
copy = page share ∷ page take_copy ∷ page page_out ∷ page page_back ∷ page leave_copy
    ∷ steps.read 0 0 ∷ []

-- After the read: the frame holds the block's page, and the backend's one call is the read of it
pub record HasRead (t : State) : Type 0 where
  -- the frame holds the block's page
  pub held : (t.pool.core.frame 0).page ≡ example_page
  -- the backend's one call is the read of the page, at the log's base, which is its front
  pub called : (v : View) × (get_elem? t.pool.core.views 0 ≡ some v)
      × (v.calls ≡ Read 0 7 example_page 0 ∷ []) × (v.front ≡ 0)

-- the steps of the miss and the read lead from the start to such a state
abbrev pub MissRuns : Type 0
MissRuns = (t : State) × Run (miss ++ fill ++ copy) miss_start t × HasRead t
