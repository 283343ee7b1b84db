-- An example of the definitions: calls of a lane that fail. A backend fails to read a block into a
-- frame; then it syncs the lane, and fails to sync it again.
use Rattle.std.specs.Prelude.{◌≡◌, true, false, List, [], ◌∷◌, ◌++◌, None}
use mathlib.Core.Option.{some}
use lib.ListN.{get_elem?}
use Rattle.state_word.specs.declared.word.IoEnd.TheVariants.{Bad}
use Rattle.pin_core.specs.declared.view.DeviceCall.TheVariants.{LaneRead, LaneSync}
use Rattle.pin_core.specs.declared.view.TakenLane.{TakenLane}
use Rattle.pin_core.specs.declared.view.View.{View}
use Rattle.pin_core.specs.State.{zero_word}
use Rattle.pin_core.specs.Kinds as pins
use Rattle.page_core.specs.Kinds.{end_io}
use Rattle.history_core.specs.State.{State}
use Rattle.history_core.specs.Lanes.{take_lane, leave_lane, lane_out, fail_read, sync_lane}
use Rattle.history_core.specs.Lanes.{fail_sync, lane_back}
use Rattle.history_core.specs.Steps.{Event, lane, Run}
use Rattle.history_core.specs.Sample.{sample_lane}
use Rattle.history_core.specs.Miss.{miss_start, pool, page, miss, begin_input}

-- the lane after one read failed
abbrev pub faulted_lane : TakenLane
faulted_lane = record { pages = None; marks = []; read_faults = 1; write_faults = 0; calls = 1 }

-- the read of the block fails, which the backend counts, and input ends badly
abbrev pub fail_input : List Event
fail_input = lane 0 0 take_lane ∷ lane 0 0 (lane_out sample_lane) ∷ lane 0 0 (fail_read 7 1)
    ∷ lane 0 0 (lane_back true) ∷ lane 0 0 leave_lane ∷ pool pins.lock_header ∷ page (end_io Bad)
    ∷ []

-- a sync of the lane is done, and another one fails
abbrev pub sync_twice : List Event
sync_twice = lane 0 0 take_lane ∷ lane 0 0 (lane_out faulted_lane) ∷ lane 0 0 sync_lane
    ∷ lane 0 0 (lane_back false) ∷ lane 0 0 (lane_out faulted_lane) ∷ lane 0 0 (fail_sync 1)
    ∷ lane 0 0 (lane_back true) ∷ lane 0 0 leave_lane ∷ []

-- What holds after the failed read and the failed sync
pub record HasFailed (t : State) : Type 0 where
  -- the frame isn't valid, and carries BM_IO_ERROR
  pub word : (t.pool.core.frame 0).word
      ≡ record zero_word { pins = 1; usage = 1; tag_valid = true; permanent = true; failed = true }
  -- the lane's latch is free
  pub free : (t.lane 0).taken ≡ false
  -- the lane's count of failed reads has risen by 1
  pub read_faults : (t.lane 0).read_faults ≡ 1
  -- the lane's count of failed writes and syncs has risen by 1
  pub write_faults : (t.lane 0).write_faults ≡ 1
  -- the backend has counted both faults, and lists its calls: a read that failed, a sync that was
  -- done, and one that failed
  pub counted : (v : View) × (get_elem? t.pool.core.views 0 ≡ some v)
      × (v.met ≡ record { reads = 1; writes = 1; logs = 0 })
      × (v.device_calls ≡ LaneRead 0 7 false ∷ LaneSync 0 true ∷ LaneSync 0 false ∷ [])

-- these events lead from the start to a state after the failed read and the failed sync
abbrev pub FaultRuns : Type 0
FaultRuns = (t : State) × Run (miss ++ begin_input ++ fail_input ++ sync_twice) miss_start t
    × HasFailed t
