-- Logs in memory.
use Rattle.std.specs.Prelude.{ℕ, List}
use Rattle.byte_devices.specs.Plan.{Plan}
use Rattle.byte_devices.specs.declared.memory_log.MemLog.{MemLog}

-- a log's bytes, and how many of them are durable
pub record StoredLog : Type 0 where
  pub bytes : List ℕ
  pub synced : ℕ

abbrev pub as_stored : MemLog → StoredLog
as_stored log = record { bytes = log.sink.bytes; synced = log.synced }

-- how many bytes it has room for in all
abbrev pub room_of : MemLog → ℕ
room_of log = log.sink.room

-- which appends and which syncs are to fail
abbrev pub appends_of : MemLog → Plan
appends_of log = log.sink.puts

abbrev pub syncs_of : MemLog → Plan
syncs_of log = log.syncs
