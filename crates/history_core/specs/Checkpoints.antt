-- A checkpoint from beginning to end, as an example of the definitions: a backend has put a page
-- into a frame and made the log durable; the checkpoint of a second one passes the frame and lists
-- it, writes the page to the block's lane, and syncs the lane; then the second backend is joined
-- into the first, which keeps the checkpoint.
use Rattle.std.specs.Prelude.{◌≡◌, true, false, List, [], ◌∷◌, ◌++◌, Some}
use mathlib.Core.Option.{some}
use lib.ListN.{get_elem?}
use Rattle.pin_core.specs.declared.view.JoinedCheckpoint.{JoinedCheckpoint}
use Rattle.pin_core.specs.declared.view.View.{View}
use Rattle.pin_core.specs.State.{Page, emptied_view}
use Rattle.pin_core.specs.Kinds as pins
use Rattle.pin_core.specs.Steps as pin_steps
use Rattle.page_core.specs.Kinds.{need_checkpoint}
use Rattle.page_core.specs.Steps as page_steps
use Rattle.history_core.specs.Log.{record_size}
use Rattle.history_core.specs.State.{State, stored, synced_upto}
use Rattle.history_core.specs.Lanes.{take_lane, leave_lane, lane_out, sync_lane, lane_back}
use Rattle.history_core.specs.Swept.{has_swept}
use Rattle.history_core.specs.Debts.{has_visited, has_left_to_write}
use Rattle.history_core.specs.Steps as steps
use Rattle.history_core.specs.Steps.{Event, lane, word, Run}
use Rattle.history_core.specs.Words.{load_flushed, begin_checkpoint}
use Rattle.history_core.specs.Sample.{sample_lane}
use Rattle.history_core.specs.Miss.{miss_start, miss, fill}
use Rattle.history_core.specs.Put.{IsPut, change, flush, write_out}
use Rattle.history_core.specs.Evictions.{second_pool, second_page}

-- the checkpoint of a second backend begins, and the dirty frame is flagged and left to write
abbrev pub begin : List Event
begin = steps.pool (page_steps.pins_and_maps pin_steps.split) ∷ word 1 begin_checkpoint
    ∷ second_pool pins.lock_header ∷ second_page need_checkpoint ∷ []

-- under a pin of the frame the page is written
abbrev pub write : Page → List Event
write p = second_pool (pins.pin false) ∷ second_pool pins.load_state ∷ word 1 load_flushed
    ∷ write_out 1 p

-- the pin goes; a load of the state word sees that the flag is gone, and nothing is left to write
abbrev pub drop : List Event
drop = second_pool pins.unpin ∷ second_pool pins.load_state ∷ []

-- the lane is synced
abbrev pub sync : List Event
sync = lane 1 0 take_lane ∷ lane 1 0 (lane_out sample_lane) ∷ lane 1 0 sync_lane
    ∷ lane 1 0 (lane_back false) ∷ lane 1 0 leave_lane ∷ []

-- the second backend, which holds nothing, is joined into the first
abbrev pub join : List Event
join = steps.pool (page_steps.pins_and_maps (pin_steps.join 1)) ∷ []

-- What holds after the checkpoint
pub record HasStored (p : Page) (t : State) : Type 0 where
  -- the block's lane holds the page
  pub lane : stored t 7 ≡ Some p
  -- the lane's sync covered the block's entry, up to the entry's end
  pub durable : synced_upto t 7 ≡ record_size
  -- the frame is clean
  pub clean : (t.pool.core.frame 0).word.dirty ≡ false
  -- the second backend's view is emptied
  pub joined : get_elem? t.pool.core.views 1 ≡ some emptied_view
  -- the first backend keeps one checkpoint: it began at the entry's end, has visited the frame,
  -- which is no longer left to write, and has swept the lane up to there
  pub ended : (v : View) × (c : JoinedCheckpoint) × (get_elem? t.pool.core.views 0 ≡ some v)
      × (v.joined_checkpoints ≡ c ∷ []) × (c.upto ≡ record_size) × (has_visited c 0 ≡ true)
      × (has_left_to_write c 0 ≡ false) × (has_swept c 0 ≡ record_size)

-- for each page that may be put these events lead from the start to a state after the checkpoint
abbrev pub CheckpointRuns : Type 0
CheckpointRuns = (p : Page) → IsPut p
    → (t : State)
    × Run (miss ++ fill ++ change p ++ flush p ++ begin ++ write p ++ drop ++ sync ++ join)
    miss_start t
    × HasStored p t
