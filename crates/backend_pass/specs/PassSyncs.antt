-- What a pass shows once a frame's page was to be written, the log flushed or a lane synced.
use Rattle.std.specs.Prelude.{Result, Ok, Err}
use Rattle.byte_devices.specs.declared.device.Failed.{Failed}
use Rattle.wal_flush.specs.declared.flushes.FlushLog.{FlushLog}
use Rattle.wal_flush.specs.declared.flushes.FlushLog.TheVariants.{LogShort, LogDown, LogFault}
use Rattle.buffer_frames.specs.declared.syncing.Synced.{Synced}
use Rattle.backend_pass.specs.declared.errors.FlushError.{FlushError}
use Rattle.backend_pass.specs.declared.met.Shown.{Shown}
use Rattle.backend_pass.specs.FrameFlushes.{shown_unflushed}
use Rattle.backend_pass.specs.Passes.{shown_log, shown_write}

-- what is shown after a frame was to be written, the log to be flushed, and a lane to be synced
abbrev pub shown_synced : Result Synced FlushError → Shown → Shown
shown_synced (Ok synced) s = s
shown_synced (Err why) s = shown_unflushed why s

abbrev pub shown_log_flushed : Result Unit FlushLog → Shown → Shown
shown_log_flushed (Ok done) s = s
shown_log_flushed (Err (LogShort lsn end)) s = s
shown_log_flushed (Err (LogDown at)) s = s
shown_log_flushed (Err LogFault) s = shown_log s

abbrev pub shown_lane_synced : Result Unit Failed → Shown → Shown
shown_lane_synced (Ok done) s = s
shown_lane_synced (Err failed) s = shown_write s
