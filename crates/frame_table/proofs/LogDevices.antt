-- The log's device in the state follows the device that is out.
use Rattle.std.proofs.Common.{◌≡◌, ◌≢◌, ℕ, ◌+◌, ◌<◌, Bool, cond, eq-eqb, ne_eqb, List, [], ◌++◌, length, Option, Some, None, sym, refl, ap, ◌∙◌, subst, arith}
use Rattle.std.proofs.lemmas.Option.{same_Some}
use Rattle.std.specs.Prelude.{option_map, IfSome, IsSomeAnd}
use mathlib.Core.Logic.{dite}
use native.Mathlib.Decide.{ℕ_discrete}
use Rattle.byte_devices.specs.Bytes.{GainsPrefix}
use Rattle.byte_devices.specs.Faults.{Rose}
use Rattle.pin_core.specs.declared.view.TakenLog.{TakenLog}
use Rattle.history_core.specs.State.{Device, raised}
use Rattle.history_core.specs.Lanes.{Rises}
use Rattle.history_core.specs.Outings.{IsAsTaken}
use Rattle.table_rule.specs.Shows.{Devices, IsLog}
use Rattle.table_rule.specs.LogCalls.{HasAppended, HasFailedToAppend, HasSynced, HasFailedToSync}
use Rattle.frame_table.specs.LogWork.{IsTakenLog, IsPart}

-- a count that rose is above what it was, or stands at its last value
pub rises : (a b : ℕ) → a < 18446744073709551616 → b < 18446744073709551616 → Rose a b → Rises a b
rises a b low below rose = dite (ℕ_discrete a 18446744073709551615)
    (λ (e : a ≡ 18446744073709551615). record { least = (let z : raised a ≡ a = ap (λ (x : Bool). cond x a (a + 1)) (eq-eqb a 18446744073709551615 e) in omega arith); within = omega arith })
    (λ (n : a ≢ 18446744073709551615). record { least = (let z : raised a ≡ a + 1 = ap (λ (x : Bool). cond x a (a + 1)) (ne_eqb a 18446744073709551615 n) in omega arith); within = omega arith })

module _ {L G : Type 0} (d : Devices L G) where
  -- the device that went out is the state's
  pub log_before : (g : G) (taken : TakenLog) (dev : Device) → IsTakenLog d.bytes d.synced d.log_faults d.log_calls g taken → IsAsTaken taken dev → dev.faults ≡ taken.faults → IsLog d g taken.down dev
  log_before g taken dev was same faults = record {
    bytes = λ known told. sym (same.bytes known (was.told ∙ told));
    synced = λ known told. same.synced ∙ was.durable known told;
    faults = faults ∙ was.counted;
    down = same.down;
  }

  -- what is told of bytes that are known
  of_known : (P : List ℕ → Type 0) (o : Option (List ℕ)) (known : List ℕ) → o ≡ Some known → IfSome o P → P known
  of_known P None known e h = absurd (cc)
  of_known P (Some x) known e h = subst P (same_Some x known e) h

  pub log_appended : (g g' : G) (mark : Option ℕ) (dev : Device) (piece : List ℕ) → IsLog d g mark dev → HasAppended d.bytes d.synced d.log_faults d.log_calls piece g g' → IsLog d g' mark (record dev { bytes = dev.bytes ++ piece })
  log_appended g g' mark dev piece h did = of_told (d.bytes g) refl
    where
      of_told : (o : Option (List ℕ)) → d.bytes g ≡ o → IsLog d g' mark (record dev { bytes = dev.bytes ++ piece })
      of_told None e = let none : d.bytes g' ≡ None = did.added ∙ ap (option_map (λ (old : List ℕ). old ++ piece)) e in record {
        bytes = λ known told. absurd (let z = sym none ∙ told in cc);
        synced = λ known told. absurd (let z = sym none ∙ told in cc);
        faults = h.faults ∙ sym did.counted;
        down = h.down;
      }
      of_told (Some old) e = let now : d.bytes g' ≡ Some (old ++ piece) = did.added ∙ ap (option_map (λ (old : List ℕ). old ++ piece)) e in record {
        bytes = λ known told. ap (λ (l : List ℕ). l ++ piece) (h.bytes old e) ∙ same_Some (old ++ piece) known (sym now ∙ told);
        synced = λ known told. h.synced old e ∙ sym (of_known (λ _. d.synced g' ≡ d.synced g) (d.bytes g) old e did.durable);
        faults = h.faults ∙ sym did.counted;
        down = h.down;
      }

  -- What the device has of a record whose append failed
  pub record Torn (piece : List ℕ) (g g' : G) (end : ℕ) (dev : Device) : Type 0 where
    pub part : List ℕ
    pub more : List ℕ
    pub is_part : IsPart (d.bytes g) (d.bytes g') part
    pub begins : part ++ more ≡ piece
    pub is_log : IsLog d g' (Some end) (record dev { bytes = dev.bytes ++ part; faults = d.log_faults g'; down = Some end })

  pub log_torn : (g g' : G) (mark : Option ℕ) (end : ℕ) (dev : Device) (piece : List ℕ) → IsLog d g mark dev → HasFailedToAppend d.bytes d.synced d.log_faults d.log_calls piece g g' → Torn piece g g' end dev
  log_torn g g' mark end dev piece h did = of_told (d.bytes g) refl
    where
      of_prefix : (old : List ℕ) → d.bytes g ≡ Some old → (o : Option (List ℕ)) → d.bytes g' ≡ o → IsSomeAnd o (GainsPrefix piece old) → Torn piece g g' end dev
      of_prefix old e None now x = absurd x
      of_prefix old e (Some known) now x = let is : d.bytes g' ≡ Some (old ++ x.prefix) = now ∙ ap (λ (l : List ℕ). Some l) x.is in record {
        part = x.prefix;
        more = x.rest;
        is_part = record { added = is ∙ sym (ap (option_map (λ (l : List ℕ). l ++ x.prefix)) e); unknown = λ none. absurd (let z = sym e ∙ none in cc) };
        begins = sym x.whole;
        is_log = record {
          bytes = λ other told. ap (λ (l : List ℕ). l ++ x.prefix) (h.bytes old e) ∙ same_Some (old ++ x.prefix) other (sym is ∙ told);
          synced = λ other told. h.synced old e ∙ sym (of_known (λ _. d.synced g' ≡ d.synced g) (d.bytes g) old e did.durable);
          faults = refl;
          down = refl;
        };
      }

      of_told : (o : Option (List ℕ)) → d.bytes g ≡ o → Torn piece g g' end dev
      of_told None e = let none : d.bytes g' ≡ None = did.unknown e in record {
        part = [];
        more = piece;
        is_part = record { added = none ∙ sym (ap (option_map (λ (l : List ℕ). l ++ [])) e); unknown = λ _. refl };
        begins = refl;
        is_log = record { bytes = λ known told. absurd (let z = sym none ∙ told in cc); synced = λ known told. absurd (let z = sym none ∙ told in cc); faults = refl; down = refl };
      }
      of_told (Some old) e = of_prefix old e (d.bytes g') refl (of_known (λ (l : List ℕ). IsSomeAnd (d.bytes g') (GainsPrefix piece l)) (d.bytes g) old e did.added)

  pub log_synced : (g g' : G) (mark : Option ℕ) (dev : Device) → IsLog d g mark dev → HasSynced d.bytes d.synced d.log_faults d.log_calls g g' → IsLog d g' mark (record dev { synced = length dev.bytes })
  log_synced g g' mark dev h did = record {
    bytes = λ known told. h.bytes known (sym did.same ∙ told);
    synced = λ known told. let e : d.bytes g ≡ Some known = sym did.same ∙ told in ap (λ (l : List ℕ). length l) (h.bytes known e) ∙ sym (of_known (λ (l : List ℕ). d.synced g' ≡ length l) (d.bytes g) known e did.durable);
    faults = h.faults ∙ sym did.counted;
    down = h.down;
  }

  pub log_unsynced : (g g' : G) (mark : Option ℕ) (end : ℕ) (dev : Device) → IsLog d g mark dev → HasFailedToSync d.bytes d.synced d.log_faults d.log_calls g g' → IsLog d g' (Some end) (record dev { faults = d.log_faults g'; down = Some end })
  log_unsynced g g' mark end dev h did = record {
    bytes = λ known told. h.bytes known (sym did.same ∙ told);
    synced = λ known told. let e : d.bytes g ≡ Some known = sym did.same ∙ told in h.synced known e ∙ sym (of_known (λ _. d.synced g' ≡ d.synced g) (d.bytes g) known e did.durable);
    faults = refl;
    down = refl;
  }

  -- the same with another mark
  pub log_marked : (g : G) (a b : Option ℕ) (dev : Device) → a ≡ b → IsLog d g a dev → IsLog d g b dev
  log_marked g a b dev e h = record { bytes = h.bytes; synced = h.synced; faults = h.faults; down = h.down ∙ e }
