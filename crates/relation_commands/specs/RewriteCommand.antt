-- The steps of a rewrite of a host's relation: the survey, the log, the rewrite, and what is
-- printed.
use Rattle.std.specs.Prelude.{◌≡◌, ◌≢◌, ◌⊎◌, ℕ, ◌+◌, ◌*◌, ◌%◌, ◌<◌, ◌≤◌, List, [], All, length, map}
use Rattle.std.specs.Prelude.{sum_by, Option, Some, None, IfSome, Result, Ok, Err, MatchResult}
use Rattle.std.specs.Prelude.{option_map}
use Rattle.byte_devices.specs.Faults.{Rose}
use Rattle.segment_store.specs.Contents.{Marks, Pages, no_marks}
use Rattle.segment_store.specs.Lanes.{HasBlocks}
use Rattle.segment_store.specs.Logs.{Logs, empty_log, with_log}
use Rattle.segment_store.specs.Paths.{Paths}
use Rattle.pin_core.specs.State.{Page}
use Rattle.history_core.specs.Log.{record_size}
use Rattle.history_core.specs.State.{last_position}
use Rattle.relation_commands.specs.declared.limits.PositionLimit.TheVariants.{OfPages}
use Rattle.relation_commands.specs.declared.rewriting.RewriteError.{RewriteError}
use Rattle.relation_commands.specs.declared.rewriting.RewriteError.TheVariants.{ReadFault}
use Rattle.relation_commands.specs.declared.rewriting.RewriteError.TheVariants.{WriteFault}
use Rattle.relation_commands.specs.declared.rewriting.RewriteError.TheVariants.{LogFault, OutFault}
use Rattle.relation_commands.specs.declared.rewriting.RewriteError.TheVariants.{Memory, OverLimit}
use Rattle.relation_commands.specs.declared.starting.RelationFork.{RelationFork}
use Rattle.relation_commands.specs.Answers.{ArePastLimit, CountsLater, FaultCounts, IsOverLimit}
use Rattle.relation_commands.specs.Limits.{PassesLimit, largest_lsn, log_base}
use Rattle.command_line.specs.Request.{LoggedAsked}
use Rattle.relation_commands.specs.RewriteFiles.{HostFiles, RewritesFiles, fork_at, pages_at}
use Rattle.relation_commands.specs.Rewriting.{ArePages, HavePages}
use Rattle.relation_commands.specs.Status.{rewrite_tool_error, status_of_error}

module _ {L : Type 0} (contents : L → Option Pages) where
  -- why a survey says of no position that the log begins there, by the faults that the lanes then
  -- have
  abbrev pub IsSurveyRefusal : RelationFork → List L → ℕ → RewriteError → Type 0
  IsSurveyRefusal relation lanes faults ReadFault = 0 < faults
  IsSurveyRefusal relation lanes faults Memory = faults ≡ 0
  IsSurveyRefusal relation lanes faults (OverLimit (OfPages largest blocks)) =
      (faults ≡ 0) × PassesLimit largest blocks
      × ((pages : List Page) → HavePages contents relation lanes pages
      → (largest ≡ largest_lsn pages) × (blocks ≡ length pages))
  IsSurveyRefusal relation lanes faults _ = ⊥

module _ {L : Type 0} (contents : L → Option Pages) (failed : L → Marks)
    (read_faults write_faults : L → ℕ) where
  -- The lanes of the relation that is open, and the position where its log is to begin, once they
  -- were surveyed: no call failed, and no block was written. If the paths are known the relation is
  -- there, its pages stand in the lanes, and no record of theirs passes the last position
  pub record AreSurveyed (known : Option Paths) (r : LoggedAsked) (relation : RelationFork)
      (base : ℕ) (lanes : List L) : Type 0 where
    pub count : length lanes ≡ r.options.lanes
    pub reads : sum_by read_faults lanes ≡ 0
    pub writes : sum_by write_faults lanes ≡ 0
    pub unmarked : All (λ lane. failed lane ≡ no_marks) lanes
    pub has : HasBlocks relation.fork relation.blocks (map contents lanes)
    pub begins : (base % 8 ≡ 0) × (base + record_size * relation.blocks ≤ last_position)
    pub there : IfSome known (λ paths. paths r.path ≢ [])
    pub relation_is : IfSome known (λ paths. relation ≡ fork_at r paths)
    pub base_is : IfSome known (λ paths. base ≡ log_base (pages_at r paths))
    pub pages : IfSome known (λ paths. ArePages contents relation base lanes (pages_at r paths))

-- A log was opened at a path, and is still empty; or none was, and all logs are as they were
abbrev pub OpensLog : {G : Type 0} → Option G → List ℕ → Option Logs → Option Logs → List ℕ → Type 0
OpensLog None path old new at = new ≡ old
OpensLog (Some log) path old new at =
    (new ≡ option_map (with_log path empty_log) old) × IfSome old (λ _. at ≡ path)

-- why no log was begun: its opening failed, or a call of it did, as its own count of faults says
abbrev pub IsLogRefusal : ℕ → ℕ → ℕ → RewriteError → Type 0
IsLogRefusal logs logs_now faults LogFault = Rose logs logs_now ⊎ (0 < faults)
IsLogRefusal logs logs_now faults Memory = Unit {0}
IsLogRefusal logs logs_now faults _ = ⊥

-- a fault is one of the count that rose
abbrev pub IsFaultOf : FaultCounts → FaultCounts → RewriteError → Type 0
IsFaultOf old new ReadFault = Rose old.reads new.reads
IsFaultOf old new WriteFault = Rose old.writes new.writes
IsFaultOf old new LogFault = Rose old.logs new.logs
IsFaultOf old new OutFault = Rose old.outs new.outs
IsFaultOf old new Memory = Unit {0}
IsFaultOf old new (OverLimit limit) = Unit {0}

-- No count fell, and all stay if all went well
pub record HasFaultOf {T : Type 0} (old new : FaultCounts)
    (result : Result T RewriteError) : Type 0 where
  pub later : CountsLater old new
  pub cause : MatchResult result (λ _. new ≡ old) (IsFaultOf old new)

-- the refusals that come of the pages' positions alone
abbrev pub MeetsLimit : Option (List Page) → RewriteError → Type 0
MeetsLimit known (OverLimit limit) = IsOverLimit known limit
MeetsLimit known _ = Unit {0}

-- if the pages are known, their positions stay below the last one, unless the survey failed, memory
-- was short or the refusal says otherwise
abbrev pub StaysBelowLimit : {T : Type 0} → Option (List Page) → Result T RewriteError → Type 0
StaysBelowLimit known (Ok done) = IfSome known (λ pages. ¬ ArePastLimit pages)
StaysBelowLimit known (Err ReadFault) = Unit {0}
StaysBelowLimit known (Err WriteFault) = IfSome known (λ pages. ¬ ArePastLimit pages)
StaysBelowLimit known (Err LogFault) = IfSome known (λ pages. ¬ ArePastLimit pages)
StaysBelowLimit known (Err OutFault) = IfSome known (λ pages. ¬ ArePastLimit pages)
StaysBelowLimit known (Err Memory) = Unit {0}
StaysBelowLimit known (Err (OverLimit limit)) = IsOverLimit known limit

-- the status of an end
abbrev pub rewrite_status : {T : Type 0} → Result T RewriteError → ℕ
rewrite_status (Ok done) = 0
rewrite_status (Err e) = status_of_error (rewrite_tool_error e)

-- what an end leaves of the files
abbrev pub LeavesByEnd : {T : Type 0} → LoggedAsked → Result T RewriteError → HostFiles → HostFiles
    → Type 0
LeavesByEnd r result old new = RewritesFiles r (rewrite_status result) old new

-- why the text isn't out: its put failed, or there was no memory for it
abbrev pub IsPutRefusal : ℕ → ℕ → RewriteError → Type 0
IsPutRefusal faults faults_now OutFault = Rose faults faults_now
IsPutRefusal faults faults_now Memory = faults_now ≡ faults
IsPutRefusal faults faults_now _ = ⊥
