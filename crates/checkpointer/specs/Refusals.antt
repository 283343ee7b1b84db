-- Why a checkpoint stops.
use Rattle.std.specs.Prelude.{◌≡◌, ℕ, ◌<◌, ◌≤◌, true, false, List, [], ◌∷◌, ◌++◌, Option, Result}
use Rattle.std.specs.Prelude.{Ok, Err}
use Rattle.segment_store.specs.Contents.{Pages}
use Rattle.pin_core.specs.declared.view.DeviceCall.TheVariants.{LaneSync}
use Rattle.pin_core.specs.declared.view.FailedCalls.{FailedCalls}
use Rattle.pin_core.specs.declared.view.View.{View}
use Rattle.frame_table.specs.Seats.{OnlyRises, frames_of, lanes_in}
use Rattle.frame_table.specs.WordSteps.{begin_checkpoint, view_of}
use Rattle.wal_flush.specs.declared.flushes.FlushLog.{FlushLog}
use Rattle.wal_flush.specs.declared.flushes.FlushLog.TheVariants as log
use Rattle.wal_flush.specs.Flushes.{FlushRefused, Flushed}
use Rattle.buffer_frames.specs.Flushing.{EndedInError, met_refused, syncs_refused}
use Rattle.buffer_frames.specs.Working.{Made, met_log, met_write}
use Rattle.buffer_frames.specs.declared.syncing.SyncOnly.TheVariants.{Needed}
use Rattle.buffer_frames.specs.Syncs.{SyncsFrame}
use Rattle.backend_pass.specs.declared.errors.FlushError.{FlushError}
use Rattle.backend_pass.specs.declared.errors.FlushError.TheVariants as flush
use Rattle.backend_pass.specs.declared.manager.Manager.{Manager}
use Rattle.backend_pass.specs.declared.marked.MarkedFrame.{MarkedFrame}
use Rattle.backend_pass.specs.FrameFlushes.{frame_refusal}
use Rattle.backend_pass.specs.Passes.{KeepsMark, PassState}
use Rattle.checkpointer.specs.declared.ending.Checkpoint.{Checkpoint}
use Rattle.checkpointer.specs.declared.ending.CheckpointError.{CheckpointError}
use Rattle.checkpointer.specs.declared.ending.CheckpointError.TheVariants.{WriteFault, LogFault}
use Rattle.checkpointer.specs.declared.ending.CheckpointError.TheVariants.{LogDown, LogShort}
use Rattle.checkpointer.specs.declared.ending.CheckpointError.TheVariants.{SyncFault}
use Rattle.checkpointer.specs.Marked.{HasNoneLeft, ListsDirty}
use Rattle.checkpointer.specs.Stages.{FlushesPages, KeepsBackend, syncs_below}
use Rattle.checkpointer.specs.Writes.{MarksAndWrites, WritesUpTo}

-- by the refusal of a frame's write, and by that of a flush of the log
abbrev pub refusal_of_flush : FlushError → CheckpointError
refusal_of_flush (flush.WriteFault tag) = WriteFault tag
refusal_of_flush flush.LogFault = LogFault
refusal_of_flush (flush.LogDown at) = LogDown at
refusal_of_flush (flush.LogShort lsn end) = LogShort lsn end

abbrev pub refusal_of_log : FlushLog → CheckpointError
refusal_of_log log.LogFault = LogFault
refusal_of_log (log.LogDown at) = LogDown at
refusal_of_log (log.LogShort lsn end) = LogShort lsn end

-- the faults that were met, by the refusal, and by the answer
abbrev pub met_stopping : CheckpointError → FailedCalls → FailedCalls
met_stopping (WriteFault tag) m = met_write m
met_stopping LogFault m = met_log m
met_stopping (LogDown at) m = m
met_stopping (LogShort lsn end) m = m
met_stopping (SyncFault lane) m = met_write m

abbrev pub met_checkpointing : Result Checkpoint CheckpointError → FailedCalls → FailedCalls
met_checkpointing (Ok done) m = m
met_checkpointing (Err why) m = met_stopping why m

-- it completed, or a page is past the log's end
abbrev pub IsCompleteOrShort : Result Checkpoint CheckpointError → Type 0
IsCompleteOrShort (Ok done) = Unit {0}
IsCompleteOrShort (Err (LogShort lsn end)) = Unit {0}
IsCompleteOrShort _ = ⊥

-- the log is down, or failed
abbrev pub IsDownOrFault : FlushLog → Type 0
IsDownOrFault log.LogFault = Unit {0}
IsDownOrFault (log.LogDown at) = Unit {0}
IsDownOrFault (log.LogShort lsn end) = ⊥

module _ {L G : Type 0} (contents : L → Option Pages) (m : Manager L G) where
  -- A checkpoint began at `upto`, and wrote the frames that it marked, this many pages, up to this
  -- one, whose page was not written
  pub record StopsAtFrame (upto : ℕ) (v w : View) (why : FlushError) : Type 0 where
    pub frame : ℕ
    pub marked : List MarkedFrame
    pub listed : View
    pub lists : ListsDirty (frames_of m.table) marked (view_of begin_checkpoint upto v) listed
    -- the view by then
    pub before : View
    pub since : OnlyRises v before
    pub writes : WritesUpTo contents m.table marked frame listed before
    pub written : ℕ
    pub flushes : FlushesPages written v before
    pub refused : SyncsFrame contents m.table Needed frame before w (Err (frame_refusal why))
    pub ended : EndedInError frame before w
    -- whether it has marked a frame dirty or synced a lane is as it was
    pub mark : w.dirtied_or_synced ≡ v.dirtied_or_synced

  -- The checkpoint wrote all that it marked, and then the log was not flushed up to `upto`
  pub record StopsAtLog (upto : ℕ) (v w : View) (why : FlushLog) : Type 0 where
    pub before : View
    pub since : OnlyRises v before
    pub written : ℕ
    pub writes : MarksAndWrites contents m.table upto written v before
    pub none_left : HasNoneLeft (frames_of m.table) before
    pub refused : FlushRefused upto before w why
    -- for it ends there or past it
    pub cause : IsDownOrFault why
    pub shows : w.saw_down ≡ true
    pub calls : Made (syncs_refused why) before w
    pub mark : w.dirtied_or_synced ≡ v.dirtied_or_synced

  -- The checkpoint wrote all that it marked, the log was flushed up to `upto`, the lanes before
  -- this one were synced, and its sync failed
  pub record StopsAtLane (upto : ℕ) (v w : View) (lane : ℕ) : Type 0 where
    pub before : View
    pub written : ℕ
    pub writes : MarksAndWrites contents m.table upto written v before
    pub logged : View
    pub log : Flushed upto before logged
    pub since : OnlyRises v logged
    pub none_left : HasNoneLeft (frames_of m.table) logged
    pub flushed : upto ≤ logged.flushed
    pub calls : Made (syncs_below lane ++ LaneSync lane false ∷ []) logged w

  -- Why a checkpoint stopped that had begun at `upto`
  pub data Stops (upto : ℕ) (v w : View) (why : CheckpointError) : Type 0 where
    at_frame : (cause : FlushError) → why ≡ refusal_of_flush cause → StopsAtFrame upto v w cause
        → Stops upto v w why
    at_log : (cause : FlushLog) → why ≡ refusal_of_log cause → StopsAtLog upto v w cause
        → Stops upto v w why
    at_lane : (lane : ℕ) → why ≡ SyncFault lane → lane < lanes_in m.table
        → StopsAtLane upto v w lane → Stops upto v w why

  -- The checkpoint stopped at the frame f, whose page was not written, after this work
  pub record StopsWriting (Work : View → Type 0) (f : ℕ) (p q : PassState)
      (why : FlushError) : Type 0 where
    pub keeps : KeepsBackend contents m p q
    pub before : View
    pub since : OnlyRises p.view before
    pub work : Work before
    pub written : ℕ
    pub flushes : FlushesPages written p.view before
    pub refused : SyncsFrame contents m.table Needed f before q.view (Err (frame_refusal why))
    pub ended : EndedInError f before q.view
    pub mark : KeepsMark p q
    pub met : q.view.met ≡ met_refused (frame_refusal why) p.view.met

  -- The checkpoint stopped at this lane, whose sync failed
  pub record StopsSyncing (p q : PassState) (lane : ℕ) : Type 0 where
    pub keeps : KeepsBackend contents m p q
    pub inside : lane < lanes_in m.table
    pub calls : Made (syncs_below lane ++ LaneSync lane false ∷ []) p.view q.view
    pub met : q.view.met ≡ met_write p.view.met
