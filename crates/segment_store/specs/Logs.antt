-- Logs: their bytes, how many of them are durable, and what a host keeps of them.
use Rattle.std.specs.Prelude.{◌≡◌, ℕ, ◌+◌, ◌-◌, ◌^◌, ◌≤◌, min, List, [], Option, Some, None, Result}
use Rattle.std.specs.Prelude.{MatchResult, IfSome, IsSomeAnd, option_map, if◌then◌else◌}
use Rattle.std.specs.Option.{option_and_then}
use Rattle.std.specs.Str.{bytes_eq}
use Rattle.byte_devices.specs.Faults.{Rose}
use Rattle.byte_devices.specs.MemoryLog.{StoredLog}
use Rattle.segment_store.specs.declared.host.LogOpen.{LogOpen}
use Rattle.segment_store.specs.declared.host.LogOpen.TheVariants.{Failed, Memory}

-- paths to logs, None if there is none
abbrev pub Logs : Type 0
Logs = List ℕ → Option StoredLog

abbrev pub empty_log : StoredLog
empty_log = record { bytes = []; synced = 0 }

-- this log at this path; all other paths are as they were
abbrev pub with_log : List ℕ → StoredLog → Logs → Logs
with_log at log logs = λ path. if bytes_eq path at then Some log else logs path

-- the log that was given back, if one was, in the place of the log at this path, if there is one;
-- all other paths are as they were
abbrev pub logs_after : List ℕ → Option StoredLog → Logs → Logs
logs_after at None logs = logs
logs_after at (Some log) logs =
    λ path. if bytes_eq path at then option_map (λ _. log) (logs path) else logs path

-- a count of faults rose if the log could not be opened, and is the same if memory was short
abbrev pub RoseIfLogFailed : ℕ → ℕ → LogOpen → Type 0
RoseIfLogFailed before now Failed = Rose before now
RoseIfLogFailed before now Memory = now ≡ before

-- the count never falls, is the same after Ok, and rose if the answer is a fault
pub record HasLogCause {T : Type 0} (before now : ℕ) (result : Result T LogOpen) : Type 0 where
  pub later : before ≤ now
  pub cause : MatchResult result (λ _. now ≡ before) (RoseIfLogFailed before now)

-- a count is one more if the log could not be opened, as far as the type goes, and is the same if
-- memory was short
abbrev pub IsOneMoreIfLogFailed : ℕ → ℕ → LogOpen → Type 0
IsOneMoreIfLogFailed before now Failed = now ≡ min (before + 1) (2 ^ 64 - 1)
IsOneMoreIfLogFailed before now Memory = now ≡ before

-- an opening counts itself if it is a fault, and nothing else
abbrev pub CountsOneLogOpening : {T : Type 0} → ℕ → ℕ → Result T LogOpen → Type 0
CountsOneLogOpening before now result =
    MatchResult result (λ _. now ≡ before) (IsOneMoreIfLogFailed before now)

module _ {L : Type 0} (bytes : L → Option (List ℕ)) (synced : L → ℕ) where
  -- what a log is, if its bytes are known
  abbrev pub stored_log : L → Option StoredLog
  stored_log log = option_map (λ known. record { bytes = known; synced = synced log }) (bytes log)

  -- the same of a log that may be none
  abbrev pub given_log : Option L → Option StoredLog
  given_log log = option_and_then stored_log log

  -- a log that was just opened is empty, without faults, and known if the host's logs are
  pub record IsOpenedLog (faults : L → ℕ) (known : Option Logs) (log : L) : Type 0 where
    pub faults_are : faults log ≡ 0
    pub synced_are : synced log ≡ 0
    pub empty : IfSome (bytes log) (λ b. b ≡ [])
    pub told : IfSome known (λ _. bytes log ≡ Some [])

-- a source that was just opened has no faults; if the logs are known there is one at the path, and
-- all its bytes are left
pub record IsOpenedSource {S : Type 0} (left : S → Option (List ℕ)) (faults : S → ℕ)
    (known : Option Logs) (path : List ℕ) (source : S) : Type 0 where
  pub faultless : faults source ≡ 0
  pub there : IfSome known (λ logs. IsSomeAnd (logs path) (λ log. left source ≡ Some log.bytes))
