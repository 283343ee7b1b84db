-- A pass in the course of a checkpoint, and the calls of devices that it makes.
use Rattle.std.specs.Prelude.{◌≡◌, ℕ, zero, suc, true, List, [], ◌∷◌, ◌++◌, Option, min}
use Rattle.std.specs.List.{All}
use Rattle.segment_store.specs.Contents.{Pages}
use Rattle.pin_core.specs.declared.view.DeviceCall.{DeviceCall}
use Rattle.pin_core.specs.declared.view.DeviceCall.TheVariants.{LaneWrite, LaneSync, LogSync}
use Rattle.pin_core.specs.declared.view.View.{View}
use Rattle.frame_table.specs.Seats.{lanes_in}
use Rattle.buffer_frames.specs.Working.{Made}
use Rattle.buffer_frames.specs.declared.syncing.Synced.{Synced}
use Rattle.buffer_frames.specs.declared.syncing.Synced.TheVariants.{Skipped, Clean, Written}
use Rattle.buffer_frames.specs.Syncs.{LeavesLane, pages_written}
use Rattle.backend_pass.specs.Closing.{HasSwept}
use Rattle.backend_pass.specs.declared.manager.Manager.{Manager}
use Rattle.backend_pass.specs.Managers.{Belongs}
use Rattle.backend_pass.specs.Passes.{KeepsCallers, KeepsMark, PassState, SamePass}

-- the call was done, and is one of a flush: a sync of the log, or a write of a lane
abbrev pub IsFlush : DeviceCall → Type 0
IsFlush (LogSync done) = done ≡ true
IsFlush (LaneWrite lane tag page done) = done ≡ true
IsFlush _ = ⊥

-- how many pages were written for a frame, by its result
abbrev pub pages_by : Synced → ℕ
pages_by Written = 1
pages_by Skipped = 0
pages_by Clean = 0

-- a count as it is answered: it stands still at its type's last value
abbrev pub answered_count : ℕ → ℕ
answered_count n = min n 4294967295

-- The calls of devices that were made are flushes, by which this many pages were written
pub record FlushesPages (n : ℕ) (v w : View) : Type 0 where
  pub made : List DeviceCall
  pub calls : Made made v w
  pub each : All IsFlush made
  pub counted : answered_count (pages_written made) ≡ n

-- the syncs of this many lanes, from lane 0 on
abbrev pub syncs_below : ℕ → List DeviceCall
syncs_below zero = []
syncs_below (suc n) = syncs_below n ++ LaneSync n true ∷ []

module _ {L G : Type 0} (contents : L → Option Pages) (m : Manager L G) where
  -- What a checkpoint that has begun keeps of its pass
  pub record KeepsBackend (p q : PassState) : Type 0 where
    pub belongs : Belongs contents m q
    pub same : SamePass p q
    pub callers : KeepsCallers p q

  -- The pass marked frames, and called no device
  pub record MarksFrames (p q : PassState) : Type 0 where
    pub keeps : KeepsBackend p q
    pub mark : KeepsMark p q
    pub device_calls : q.view.device_calls ≡ p.view.device_calls
    pub met : q.view.met ≡ p.view.met

  -- The pass flushed, and wrote n pages; no call failed
  pub record WritesMarked (n : ℕ) (p q : PassState) : Type 0 where
    pub keeps : KeepsBackend p q
    pub mark : KeepsMark p q
    pub flushes : FlushesPages n p.view q.view
    pub met : q.view.met ≡ p.view.met

  -- The pass synced each lane, and no call failed. Its checkpoint had nothing left to write, so
  -- each lane is swept up to where that began
  pub record SyncsLanes (p q : PassState) : Type 0 where
    pub keeps : KeepsBackend p q
    pub calls : Made (syncs_below (lanes_in m.table)) p.view q.view
    pub met : q.view.met ≡ p.view.met
    pub swept : HasSwept (lanes_in m.table) p.view.upto q.view
    -- its last step left the latch of a lane
    pub left : (lane : ℕ) × LeavesLane (lanes_in m.table) lane q.view
