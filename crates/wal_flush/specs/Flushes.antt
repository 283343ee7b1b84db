-- The log is flushed, or why not.
use Rattle.std.specs.Prelude.{◌≡◌, ℕ, ◌<◌, ◌≤◌, true, false, [], ◌∷◌, ◌++◌, Option}
use Rattle.pin_core.specs.declared.view.DeviceCall.TheVariants.{LogSync}
use Rattle.pin_core.specs.declared.view.View.{View}
use Rattle.history_core.specs.Device.{sync_log, fail_sync, log_back}
use Rattle.frame_table.specs.WordSteps.{DidWord, load_flushed, raise_flushed}
use Rattle.segment_store.specs.Contents.{Pages}
use Rattle.frame_table.specs.declared.table.FrameTable.{FrameTable}
use Rattle.frame_table.specs.Opened.{LoggedOrOpening}
use Rattle.frame_table.specs.LogWork.{DidTwo}
use Rattle.wal_flush.specs.declared.flushes.FlushedBy.{FlushedBy}
use Rattle.wal_flush.specs.declared.flushes.FlushedBy.TheVariants.{NoSync, OneSync}
use Rattle.wal_flush.specs.declared.flushes.FlushLog.{FlushLog}
use Rattle.wal_flush.specs.declared.flushes.FlushLog.TheVariants.{LogShort, LogDown, LogFault}
use Rattle.wal_flush.specs.Latched.{FindsDown, GoesOutUp, UnderLatch, downed, faulted}

-- The flushed position was loaded, and it is at `lsn` or past it
pub record SeesFlushed (lsn : ℕ) (v w : View) : Type 0 where
  pub found : ℕ
  pub did : DidWord load_flushed v w found
  pub enough : lsn ≤ found

-- The flushed position was loaded, and it is before `lsn`
pub record SeesUnflushed (lsn : ℕ) (v w : View) : Type 0 where
  pub found : ℕ
  pub did : DidWord load_flushed v w found
  pub before : found < lsn

-- The flushed position was loaded any number of times, and was before `lsn` each time
pub data LoadsBelow (lsn : ℕ) : View → View → Type 0 where
  still : {v : View} → LoadsBelow lsn v v
  again : {v u w : View} → LoadsBelow lsn v u → SeesUnflushed lsn u w → LoadsBelow lsn v w

-- The flushed position was loaded until it was at `lsn` or past it
pub record Awaits (lsn : ℕ) (v w : View) : Type 0 where
  pub last : View
  pub waits : LoadsBelow lsn v last
  pub sees : SeesFlushed lsn last w

-- The one call of the log was a sync, which was done, and the flushed position was raised to the
-- log's end
pub record SyncsLog (v w : View) : Type 0 where
  pub out : View
  pub home : View
  pub found : ℕ
  pub went : GoesOutUp v out
  pub syncs : DidTwo sync_log (log_back false) out home
  pub raises : DidWord raise_flushed home w found

-- The one call of the log was a sync, which failed: no more of the log's bytes are taken as durable
-- than when it went out
pub record FailsToSync (v w : View) : Type 0 where
  pub out : View
  pub faults : ℕ
  pub went : GoesOutUp v out
  pub fails : DidTwo (fail_sync went.taken.synced faults) (log_back true) out w

-- Under the log's latch, where the log ends at `end`, the flushed position was loaded once more,
-- and was at `lsn` or past it by then
pub record FindsFlushed (lsn end : ℕ) (v w : View) : Type 0 where
  pub within : lsn ≤ end
  pub sees : SeesFlushed lsn v w

-- or it was before `lsn` still, and then this was done
pub record StillUnflushed (lsn end : ℕ) (Work : View → View → Type 0) (v w : View) : Type 0 where
  pub within : lsn ≤ end
  pub looked : View
  pub second : SeesUnflushed lsn v looked
  pub work : Work looked w

-- What the holder of the latch did if it found the log flushed up to `lsn`, or flushed it
abbrev pub HolderFlushed : ℕ → ℕ → FlushedBy → View → View → Type 0
HolderFlushed lsn end NoSync v w = FindsFlushed lsn end v w
HolderFlushed lsn end OneSync v w = StillUnflushed lsn end SyncsLog v w

-- Why the log, which ends at `end`, is not synced, and what was done
abbrev pub SyncRefused : ℕ → FlushLog → View → View → Type 0
SyncRefused end (LogShort l e) v w = ⊥
SyncRefused end (LogDown at) v w = (at ≡ end) × FindsDown at v w
SyncRefused end LogFault v w = FailsToSync v w

-- Why the holder of the latch doesn't flush the log up to `lsn`: the log ends before that; or it
-- doesn't, the flushed position was before `lsn` still, and no sync was done
abbrev pub HolderRefused : ℕ → ℕ → FlushLog → View → View → Type 0
HolderRefused lsn end (LogShort l e) v w = (l ≡ lsn) × (e ≡ end) × (end < lsn) × (w ≡ v)
HolderRefused lsn end why v w = StillUnflushed lsn end (SyncRefused end why) v w

-- The flushed position was loaded, and was before `lsn`; then this was done under the log's latch,
-- where the log ends at `end`
pub record Tries (lsn end : ℕ) (Work : View → View → Type 0) (v w : View) : Type 0 where
  pub looked : View
  pub first : SeesUnflushed lsn v looked
  pub work : UnderLatch end Work looked w

abbrev pub FlushRefused : ℕ → View → View → FlushLog → Type 0
FlushRefused lsn v w why = (end : ℕ) × Tries lsn end (HolderRefused lsn end why) v w

-- The log, which ends at `lsn` or past it, was not flushed that far at first, and was when its
-- latch was taken
pub record WasFlushed (lsn : ℕ) (v w : View) : Type 0 where
  pub end : ℕ
  pub tried : Tries lsn end (FindsFlushed lsn end) v w

-- It was not then either: it was synced once, and then the flushed position was awaited
pub record Flushes (lsn : ℕ) (v w : View) : Type 0 where
  pub end : ℕ
  pub synced : View
  pub tried : Tries lsn end (StillUnflushed lsn end SyncsLog) v synced
  pub awaits : Awaits lsn synced w

-- the view v, with the steps and loads that w counts, the log end and the flushed position that w
-- has seen, and where it raised that position to
abbrev pub as_looked : View → View → View
as_looked v w = record v {
  steps = w.steps;
  loads = w.loads;
  end_seen = w.end_seen;
  flushed = w.flushed;
  raised_to = w.raised_to;
}

-- The log end that a refusal names was seen, and is at or past all that the view had seen of it
abbrev pub FlushSeesEnd : FlushLog → View → View → Type 0
FlushSeesEnd (LogShort lsn end) v w = (v.end_seen ≤ end) × (end ≤ w.end_seen)
FlushSeesEnd (LogDown at) v w = (v.end_seen ≤ at) × (at ≤ w.end_seen)
FlushSeesEnd LogFault v w = Unit {0}

-- if the log is too short each page that the view has copied has a position at its end or before
-- it, or is the one that its block's lane held as the table was opened, if that is known
abbrev pub ShortOf : {L G : Type 0} → (L → Option Pages) → FrameTable L G → View → FlushLog → Type 0
ShortOf contents t v (LogShort lsn end) = LoggedOrOpening contents t end v
ShortOf contents t v _ = Unit {0}

-- the view once the log is flushed: no device was called, or one sync was done
abbrev pub flushed_view : FlushedBy → View → View
flushed_view NoSync v = v
flushed_view OneSync v = record v { device_calls = v.device_calls ++ LogSync true ∷ [] }

-- What was done until the log was flushed up to `lsn`: it was so already, or was once the latch was
-- taken; or one sync was done
pub data FlushWork (lsn : ℕ) (v w : View) : FlushedBy → Type 0 where
  already : SeesFlushed lsn v w → FlushWork lsn v w NoSync
  meanwhile : WasFlushed lsn v w → FlushWork lsn v w NoSync
  by_sync : Flushes lsn v w → FlushWork lsn v w OneSync

-- The log is flushed up to `lsn`
pub record Flushed (lsn : ℕ) (v w : View) : Type 0 where
  pub by : FlushedBy
  pub work : FlushWork lsn v w by
  -- the flush makes this of the view, and no more
  pub view : w ≡ as_looked (flushed_view by v) w

-- the view after a refusal
abbrev pub unflushed_view : FlushLog → View → View
unflushed_view (LogShort lsn end) v = v
unflushed_view (LogDown at) v = downed v
unflushed_view LogFault v = record (faulted v) {
  device_calls = v.device_calls ++ LogSync false ∷ [];
}
