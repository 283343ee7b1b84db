-- Where a job is done to its end.
use Rattle.std.specs.Prelude.{◌≡◌, ℕ, ◌+◌, ◌-◌, ◌^◌, ◌<◌, List, Option, Result, Ok, Err}
use mathlib.Core.Option.{some}
use lib.ListN.{get_elem?}
use Rattle.segment_store.specs.Contents.{Pages}
use Rattle.history_core.specs.Log.{record_size}
use Rattle.history_core.specs.State.{last_position}
use Rattle.backend_pass.specs.declared.manager.Manager.{Manager}
use Rattle.backend_pass.specs.Passes.{NoDeviceFails, PassState}
use Rattle.backend_pass.specs.Reading.{NothingFails}
use Rattle.page_jobs.specs.declared.ending.JobError.{JobError}
use Rattle.page_jobs.specs.declared.ending.JobError.TheVariants.{LogFull, LogShort, Memory}
use Rattle.page_jobs.specs.declared.ending.Totals.{Totals}

-- the job ended well, or there was no memory
abbrev pub IsDoneOrMemory : Result Totals JobError → Type 0
IsDoneOrMemory (Ok totals) = Unit {0}
IsDoneOrMemory (Err e) = e ≡ Memory

-- The output's count of faults is as it was, and not at its last value, past which it doesn't rise
pub record OutIsQuiet (before now : ℕ) : Type 0 where
  pub same : now ≡ before
  pub below : now < 2 ^ 64 - 1

-- a rewrite ended well, or there was no memory, or the log was full: a record at this end would
-- pass the last position
abbrev pub IsDoneFullOrMemory : Result Totals JobError → Type 0
IsDoneFullOrMemory (Ok totals) = Unit {0}
IsDoneFullOrMemory (Err (LogFull end)) = last_position < end + record_size
IsDoneFullOrMemory (Err e) = e ≡ Memory

-- a scan or a dump ended well, or there was no memory, or a page was past the log's end; a rewrite
-- ended so, or as the log was full
abbrev pub IsDoneShortOrMemory : Result Totals JobError → Type 0
IsDoneShortOrMemory (Err (LogShort lsn end)) = Unit {0}
IsDoneShortOrMemory r = IsDoneOrMemory r

abbrev pub IsDoneFullShortOrMemory : Result Totals JobError → Type 0
IsDoneFullShortOrMemory (Err (LogShort lsn end)) = Unit {0}
IsDoneFullShortOrMemory r = IsDoneFullOrMemory r

-- for none of the passes a device failed
abbrev pub NoDeviceFailsIn : List PassState → List PassState → Type 0
NoDeviceFailsIn ps qs =
    (w : ℕ) (p q : PassState) → get_elem? ps w ≡ some p → get_elem? qs w ≡ some q
    → NoDeviceFails p q

-- for none of the passes a device failed, and none could meet a page that can't be written
abbrev pub NothingFailsIn : {L G : Type 0} → (L → Option Pages) → Manager L G → List PassState
    → List PassState → Type 0
NothingFailsIn contents m ps qs =
    (w : ℕ) (p q : PassState) → get_elem? ps w ≡ some p → get_elem? qs w ≡ some q
    → NothingFails contents m.table p q
