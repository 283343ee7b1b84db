-- The steps of a recovery of a host's relation: how redo over its lanes ends, and what it tells.
use Rattle.std.specs.Prelude.{◌≡◌, ◌≢◌, ◌≤◌, ◌⊎◌, ℕ, List, Option, IfErr, IfOk, IfSome, IsErrOf}
use Rattle.std.specs.Prelude.{OnErr, OnOk, Result, length, map}
use Rattle.block_tag.specs.declared.catalogue.RelEntry.{RelEntry}
use Rattle.byte_devices.specs.Faults.{Rose}
use Rattle.segment_store.specs.Contents.{Marks, Pages}
use Rattle.segment_store.specs.Logs.{Logs}
use Rattle.log_recovery.specs.declared.error.RecoverError.{RecoverError}
use Rattle.log_recovery.specs.declared.error.RecoverError.TheVariants as recovery
use Rattle.log_recovery.specs.declared.recovering.Redone.{Redone}
use Rattle.log_recovery.specs.Records.{HasBadHead}
use Rattle.log_recovery.specs.Redo.{AnyRose, IsRecovered, LeavesPart, MarksNone, NoneFell, Tells}
use Rattle.command_line.specs.Request.{LoggedAsked}
use Rattle.relation_commands.specs.RecoverFiles.{ForLogOf}

module _ {L S : Type 0} (contents : L → Option Pages) (failed room : L → Marks)
    (reads writes : L → ℕ) (left : S → Option (List ℕ)) (faults : S → ℕ) where
  -- How the redo of a log over lanes ends, by the bytes that are left of its source
  pub record EndsRedo (relations : List RelEntry) (lanes lanes_now : List L)
      (source source_now : S) (result : Result Redone RecoverError) : Type 0 where
    pub redone : IfOk result (IsRecovered contents failed relations (left source) lanes lanes_now)
    pub part : OnErr result (LeavesPart contents failed relations (left source) lanes lanes_now)
    pub marked : IfErr result (λ error. error ≢ recovery.WriteFault
        → MarksNone contents failed lanes lanes_now)
    pub rooms : map room lanes_now ≡ map room lanes
    pub count : length lanes_now ≡ length lanes
    pub bad : IsErrOf result recovery.BadLog → (lanes_now ≡ lanes)
        × (faults source_now ≡ faults source) × IfSome (left source) HasBadHead
    pub bad_head : IfSome (left source) (λ bytes. HasBadHead bytes
        → ¬ Rose (faults source) (faults source_now)
        → IsErrOf result recovery.BadLog ⊎ IsErrOf result recovery.Memory)
    pub read_fault : IsErrOf result recovery.ReadFault → Rose (faults source) (faults source_now)
        ⊎ AnyRose (map reads lanes) (map reads lanes_now)
    pub write_fault : IsErrOf result recovery.WriteFault
        → AnyRose (map writes lanes) (map writes lanes_now)
    pub quiet : OnOk result ((faults source_now ≡ faults source)
        × (map reads lanes_now ≡ map reads lanes) × (map writes lanes_now ≡ map writes lanes))
    pub later : (faults source ≤ faults source_now)
        × NoneFell (map reads lanes) (map reads lanes_now)
        × NoneFell (map writes lanes) (map writes lanes_now)

-- what was redone is that of the file's log, if the logs are known
abbrev pub TellsLogOf : LoggedAsked → Option Logs → Redone → Type 0
TellsLogOf r logs redone = IfSome logs (λ logs. ForLogOf r logs (λ log. Tells log redone))
