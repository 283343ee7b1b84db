-- How the redo of a log over lanes ends.
use Rattle.std.proofs.Common.{◌⊎◌, inl, inr, ℕ, List, map, Option, Some, None, Result, Err, refl, arith}
use Rattle.std.specs.Prelude.{IfSome, IsErrOf}
use Rattle.std.proofs.lemmas.Option.{IfSome_then}
use Rattle.block_tag.specs.declared.catalogue.RelEntry.{RelEntry}
use Rattle.byte_devices.specs.Faults.{Rose}
use Rattle.segment_store.specs.Contents.{Marks, Pages}
use Rattle.log_recovery.specs.declared.error.RecoverError.{RecoverError}
use Rattle.log_recovery.specs.declared.error.RecoverError.TheVariants as recovery
use Rattle.log_recovery.specs.declared.recovering.Redone.{Redone}
use Rattle.log_recovery.specs.Records.{HasBadHead}
use Rattle.log_recovery.specs.Redo.{NoneFell}
use Rattle.log_recovery.proofs.Running.{part_none}
use Rattle.relation_commands.specs.RecoverCommand.{EndsRedo}

module _ {L S : Type 0} (contents : L → Option Pages) (failed rooms : L → Marks) (reads writes : L → ℕ) (left : S → Option (List ℕ)) (faults : S → ℕ) (relations : List RelEntry) where
  none_fell : (ns : List ℕ) → NoneFell ns ns
  none_fell ns = record { count = refl; each = λ q. omega arith }

  -- out of memory, before anything was read
  pub ends_short : (lanes : List L) (source : S) → EndsRedo contents failed rooms reads writes left faults relations lanes lanes source source (Err recovery.Memory)
  ends_short lanes source = record {
    redone = tt;
    part = part_none contents failed relations (left source) lanes;
    marked = λ other tag known is. is;
    rooms = refl;
    count = refl;
    bad = λ is. absurd (cc);
    bad_head = short (left source);
    read_fault = λ is. absurd (cc);
    write_fault = λ is. absurd (cc);
    quiet = tt;
    later = ((omega arith), none_fell (map reads lanes), none_fell (map writes lanes));
  }
    where
      short : (known : Option (List ℕ)) → IfSome known (λ bytes. HasBadHead bytes → ¬ Rose (faults source) (faults source)
          → IsErrOf {T = Redone} (Err recovery.Memory) recovery.BadLog ⊎ IsErrOf {T = Redone} (Err recovery.Memory) recovery.Memory)
      short None = tt
      short (Some bytes) = λ bad still. inr refl

  -- that the head is bad is answered, or that memory is short
  pub bad_or_short : (known : Option (List ℕ)) (source source_now : S) (result : Result Redone RecoverError)
      → IfSome known (λ bytes. HasBadHead bytes → ¬ Rose (faults source) (faults source_now) → IsErrOf result recovery.BadLog)
      → IfSome known (λ bytes. HasBadHead bytes → ¬ Rose (faults source) (faults source_now) → IsErrOf result recovery.BadLog ⊎ IsErrOf result recovery.Memory)
  bad_or_short known source source_now result bad_head = IfSome_then known bad_head (λ bytes is bad still. inl (is bad still))
