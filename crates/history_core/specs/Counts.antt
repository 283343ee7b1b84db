-- The faults that backends count, and the devices' counts of faults.
use Rattle.std.specs.Prelude.{◌≡◌, ℕ, ◌+◌, ◌<◌, ◌≤◌, true, false, List, Some}
use mathlib.Core.Option.{some}
use lib.ListN.{get_elem?}
use Rattle.pin_core.specs.declared.view.TakenLane.{TakenLane}
use Rattle.pin_core.specs.declared.view.LogChange.{LogChange}
use Rattle.pin_core.specs.declared.view.TakenLog.{TakenLog}
use Rattle.pin_core.specs.declared.view.LaneHold.{LaneHold}
use Rattle.pin_core.specs.declared.view.FailedCalls.{FailedCalls}
use Rattle.pin_core.specs.declared.view.View.{View}
use Rattle.pin_core.specs.State.{lane_hold}
use Rattle.pin_core.specs.Tallies.{flag_weight, unless_flag}
use Rattle.history_core.specs.State.{Lane, Device, State}
use Rattle.history_core.specs.Lanes.{LaneColumn, LaneLink, Rises, is_failed_read, is_failed_write}
use Rattle.history_core.specs.Device.{is_failed, HasRisen}
use Rattle.grid.specs.Shape.{Shape, Part, Grid, total}

-- the faults that all views have counted
abbrev pub all_met : List View → FailedCalls
all_met views = record {
  reads = total (λ (v : View). v.met.reads) views;
  writes = total (λ (v : View). v.met.writes) views;
  logs = total (λ (v : View). v.met.logs) views;
}

-- What is known of every lane: the flushed position, and the faults that all views have counted
pub record Known : Type 0 where
  -- the flushed position
  pub flushed : ℕ
  -- the faults that all views have counted
  pub met : FailedCalls

-- What is summed over the views of a lane
pub data CountTally : Type 0 where
  -- the views that hold the latch
  holders : CountTally
  -- the views that have a failed read out
  failed_reads : CountTally
  -- the views that have a failed write or sync out
  failed_writes : CountTally
  -- the views that hold the latch and have no failed call out
  unfailed : CountTally

-- what a view adds to each sum
abbrev pub count_weigh : CountTally → LaneHold → ℕ
count_weigh holders h = flag_weight h.held
count_weigh failed_reads h = flag_weight (is_failed_read h.change)
count_weigh failed_writes h = flag_weight (is_failed_write h.change)
count_weigh unfailed h = unless_flag (is_failed_read h.change)
    (unless_flag (is_failed_write h.change) (flag_weight h.held))

-- the grid of views and lanes, for the counts of faults
abbrev pub count_shape : Shape
count_shape = record {
  Column = Lane;
  Link = LaneHold;
  View = View;
  Tally = CountTally;
  Block = Known;
  Own = Unit {0};
  weigh = count_weigh;
  link = lane_hold;
  own = λ _. tt;
  spot = λ _. 0;
}

-- the law of lanes, in this grid
abbrev pub counted_lane_part : Part count_shape
counted_lane_part = record {
  column = λ _ ln t. LaneColumn ln (λ _. t holders);
  cell = λ k ln _ h. LaneLink k.flushed ln h;
}

-- What holds of a device's count of faults, which was `start` at the start and is `now`: `out`
-- views have a failed call out, and `met` faults are counted
pub record CountLaw (start now out met : ℕ) : Type 0 where
  -- the count is at least what it was at the start
  pub least : start ≤ now
  -- if the count rose since the start, and no view has a failed call out, some view counts a fault
  pub is_met : out ≡ 0 → start < now → 0 < met

-- What holds of a lane's counts
pub record LaneCounts (m : FailedCalls) (ln : Lane) (t : CountTally → ℕ) : Type 0 where
  -- the law of the count of failed reads
  pub reads : CountLaw ln.read_faults_at_start ln.read_faults (t failed_reads) m.reads
  -- the law of the count of failed writes and syncs
  pub writes : CountLaw ln.write_faults_at_start ln.write_faults (t failed_writes) m.writes
  -- a view with a failed call out holds the latch
  pub split : t holders ≡ t unfailed + t failed_reads + t failed_writes
  -- if a block's last write failed, the count of failed writes and syncs rose since the start
  pub failed_rose : (tag : ℕ) → ln.failed tag ≡ true
      → HasRisen ln.write_faults_at_start ln.write_faults
  -- if a block's last write failed, and no view has a failed write or sync out, some view counts a
  -- failed write or sync
  pub failed_met : (tag : ℕ) → ln.failed tag ≡ true → t failed_writes ≡ 0 → 0 < m.writes

-- What holds of a lane's counts and of what a view has out
pub record HoldCounts (m : FailedCalls) (ln : Lane) (h : LaneHold) : Type 0 where
  -- if a failed read is out, the count of failed reads rose since the start
  pub read_rose : is_failed_read h.change ≡ true → HasRisen ln.read_faults_at_start ln.read_faults
  -- if a failed write or sync is out, the count of failed writes and syncs rose since the start
  pub write_rose : is_failed_write h.change ≡ true
      → HasRisen ln.write_faults_at_start ln.write_faults
  -- if the count of failed reads had risen when the lane went out, some view counts a failed read
  pub taken_reads : (taken : TakenLane) → h.out ≡ Some taken
      → ln.read_faults_at_start < taken.read_faults → 0 < m.reads
  -- if the count of failed writes and syncs had risen when the lane went out, some view counts a
  -- failed write or sync
  pub taken_writes : (taken : TakenLane) → h.out ≡ Some taken
      → ln.write_faults_at_start < taken.write_faults → 0 < m.writes

-- the law of the counts, in this grid
abbrev pub count_part : Part count_shape
count_part = record {
  column = λ k ln t. LaneCounts k.met ln t;
  cell = λ k ln _ h. HoldCounts k.met ln h;
}

-- The law of the counts of n lanes; the log is flushed up to `flushed`
pub record Counted (n : ℕ) (lane : ℕ → Lane) (flushed : ℕ) (views : List View) : Type 0 where
  -- the law of each lane's counts, and of what each view has out
  pub lanes : Grid count_shape count_part n lane
      (λ _. record { flushed = flushed; met = all_met views }) views
  -- if a view counts a failed read, some lane's count of these rose since the start
  pub reads_rose : 0 < (all_met views).reads
      → (q : ℕ) × (q < n) × HasRisen (lane q).read_faults_at_start (lane q).read_faults
  -- if a view counts a failed write or sync, some lane's count of these rose since the start
  pub writes_rose : 0 < (all_met views).writes
      → (q : ℕ) × (q < n) × HasRisen (lane q).write_faults_at_start (lane q).write_faults

-- what is known of every lane, in a state
abbrev pub known_of : State → Known
known_of s = record { flushed = s.flushed; met = all_met s.pool.core.views }

-- no view has a failed call of the log out
abbrev pub NoneFailedOut : List View → Type 0
NoneFailedOut views = (i : ℕ) (v : View) → get_elem? views i ≡ some v
    → is_failed v.log.change ≡ false

-- What holds of the count of the log's faults while the device is out
pub record FaultsOut (taken : TakenLog) (d : Device) (change : LogChange) : Type 0 where
  -- if the holder's call didn't fail, the count is as it was when the device went out
  pub same : is_failed change ≡ false → d.faults ≡ taken.faults
  -- if the holder's call failed, the count rose, or stands at its last value
  pub failed : is_failed change ≡ true → Rises taken.faults d.faults

-- The law of the count of the log's faults, from `start` on
pub record LogCounted (start : ℕ) (d : Device) (views : List View) : Type 0 where
  -- if a view counts a fault of the log, the log's count rose since the start
  pub rose : 0 < (all_met views).logs → HasRisen start d.faults
  -- if the log's count rose since the start, and no view has a failed call out, some view counts a
  -- fault of the log
  pub is_met : NoneFailedOut views → start < d.faults → 0 < (all_met views).logs
  -- if a failed call of the log is out, the count rose since the start
  pub out_rose : (i : ℕ) (v : View) → get_elem? views i ≡ some v → is_failed v.log.change ≡ true
      → HasRisen start d.faults
  -- while the device is out, its count is as it was, unless the holder's call failed
  pub counts : (i : ℕ) (v : View) (taken : TakenLog) → get_elem? views i ≡ some v
      → v.log.out ≡ Some taken → FaultsOut taken d v.log.change
  -- if the count had risen when the device went out, some view counts a fault of the log
  pub taken : (i : ℕ) (v : View) (taken : TakenLog) → get_elem? views i ≡ some v
      → v.log.out ≡ Some taken → start < taken.faults → 0 < (all_met views).logs

-- The laws of the counts of the lanes and of the log
pub record CountsLaw (s : State) : Type 0 where
  -- the law of the lanes' counts
  pub lanes : Counted s.lanes s.lane s.flushed s.pool.core.views
  -- the law of the count of the log's faults
  pub log : LogCounted s.log_faults s.device s.pool.core.views
