-- The logs of a host in memory.
use Rattle.std.specs.Prelude.{ℕ, List, length, Option, Some, None, string_bytes}
use Rattle.byte_devices.specs.MemoryLog.{StoredLog, as_stored}
use Rattle.segment_store.specs.Logs.{Logs}
use Rattle.segment_store.specs.Paths.{of_first}
use Rattle.segment_store.specs.declared.memory_logs.LogFile.{LogFile}
use Rattle.segment_store.specs.declared.memory_logs.MemLogs.{MemLogs}

abbrev pub log_path : LogFile → List ℕ
log_path file = string_bytes file.path

abbrev pub log_in_file : LogFile → Option StoredLog
log_in_file file = Some (as_stored file.log)

-- the logs at their paths
abbrev pub logs_at : List LogFile → Logs
logs_at files = of_first log_path log_in_file None files

-- the path of the log that was opened last
abbrev pub opened_path : MemLogs → List ℕ
opened_path logs = string_bytes logs.open_path

-- a log of these bytes, all of them durable
abbrev pub all_durable : List ℕ → StoredLog
all_durable bytes = record { bytes = bytes; synced = length bytes }
