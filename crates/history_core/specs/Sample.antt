-- An example, some events at a lane and at the log: a backend reads a block from its lane, and
-- makes the log durable.
use Rattle.std.specs.Prelude.{◌≡◌, true, false, List, [], ◌∷◌, Some, None}
use Rattle.pin_core.specs.declared.view.TakenLane.{TakenLane}
use Rattle.pin_core.specs.declared.view.TakenLog.{TakenLog}
use Rattle.pin_core.specs.State.{CanOpen, Config, Page}
use Rattle.history_core.specs.Log.{head_bytes}
use Rattle.history_core.specs.State.{CanStore, State, Store, opening}
use Rattle.history_core.specs.Lanes.{take_lane, leave_lane, lane_out, read_block, lane_back}
use Rattle.history_core.specs.Device.{take_log, leave_log, log_out, sync_log, log_back}
use Rattle.history_core.specs.Steps.{Event, lane, log, word, Run}
use Rattle.history_core.specs.Words.{load_end, load_flushed, raise_flushed}

-- one frame, one partition, one lane, and room for two backends
abbrev pub sample_config : Config
sample_config = record {
  frames = 1;
  partitions = 1;
  partition_of = λ _. 0;
  is_fork = λ _. true;
  sizes = λ _. 8;
  resizes = false;
  lanes = 1;
  backends = 2;
  base = 0;
}

-- the page that the lane holds for each block: three bytes
abbrev pub short_page : Page
short_page = 1 ∷ 2 ∷ 3 ∷ []

-- one lane, whose contents are known; nothing of the log's head is durable
abbrev pub sample_store : Store
sample_store = record {
  lane_of = λ _. 0;
  known = λ _. true;
  origin = λ _. Some short_page;
  names = λ _. 0 ∷ 0 ∷ 0 ∷ 0 ∷ 0 ∷ 0 ∷ 0 ∷ 0 ∷ 0 ∷ 0 ∷ 0 ∷ 0 ∷ 0 ∷ 0 ∷ 0 ∷ 0 ∷ 0 ∷ 0 ∷ 0 ∷ 0 ∷ [];
  ranges = false;
  read_faults = λ _. 0;
  write_faults = λ _. 0;
  unsynced = λ _. false;
  head_synced = 0;
  log_faults = 0;
}

-- the start of the example
abbrev pub sample_start : State
sample_start = opening sample_config sample_store []

-- the lane as it goes out
abbrev pub sample_lane : TakenLane
sample_lane = record { pages = None; marks = []; read_faults = 0; write_faults = 0; calls = 0 }

-- the log's device as it goes out
abbrev pub sample_log : TakenLog
sample_log = record { bytes = Some (head_bytes 0); synced = 0; faults = 0; calls = 0; down = None }

-- the block 7 is read from the lane
abbrev pub read_lane : List Event
read_lane = lane 0 0 take_lane ∷ lane 0 0 (lane_out sample_lane)
    ∷ lane 0 0 (read_block 7 short_page) ∷ lane 0 0 (lane_back false) ∷ lane 0 0 leave_lane ∷ []

-- the log is made durable, and the flushed position is raised; then it and the log's end are loaded
abbrev pub flush_log : List Event
flush_log = log 0 take_log ∷ log 0 (log_out sample_log) ∷ log 0 sync_log ∷ log 0 (log_back false)
    ∷ word 0 raise_flushed ∷ log 0 leave_log ∷ word 0 load_flushed ∷ word 0 load_end ∷ []

-- After that both latches are free, and the log's head is durable
pub record HeadFlushed (t : State) : Type 0 where
  -- the lane's latch is free
  pub lane : (t.lane 0).taken ≡ false
  -- the log's latch is free
  pub log : t.device.taken ≡ false
  -- the 16 bytes of the log's head are durable
  pub synced : t.device.synced ≡ 16
  -- the flushed position is the log's base still
  pub flushed : t.flushed ≡ 0

-- a buffer pool can be opened so, and the steps lead from its start to such a state
abbrev pub SampleRuns : Type 0
SampleRuns = CanOpen sample_config × CanStore sample_config sample_store
    × ((m : State) × (t : State) × Run read_lane sample_start m × Run flush_log m t × HeadFlushed t)
