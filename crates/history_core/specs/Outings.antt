-- What a backend that has the log's device out knows of it.
use Rattle.std.specs.Prelude.{◌≡◌, ℕ, List, Some}
use mathlib.Core.Option.{some}
use lib.ListN.{get_elem?}
use Rattle.pin_core.specs.declared.view.LogChange.TheVariants.{Untouched}
use Rattle.pin_core.specs.declared.view.TakenLog.{TakenLog}
use Rattle.pin_core.specs.declared.view.View.{View}
use Rattle.history_core.specs.State.{Device, State}

-- The device is as it was when it went out
pub record IsAsTaken (taken : TakenLog) (d : Device) : Type 0 where
  -- if the device's bytes were noted, it has them still
  pub bytes : (bytes : List ℕ) → taken.bytes ≡ Some bytes → bytes ≡ d.bytes
  -- as many bytes are durable as when the device went out
  pub synced : d.synced ≡ taken.synced
  -- the log is down if and only if it was when the device went out, and at the same end
  pub down : d.down ≡ taken.down

-- until its holder makes a call, a log's device that is out is as it was when it went out
abbrev pub OutingsLaw : State → Type 0
OutingsLaw s = (i : ℕ) (v : View) (taken : TakenLog) → get_elem? s.pool.core.views i ≡ some v
    → v.log.out ≡ Some taken → v.log.change ≡ Untouched
    → IsAsTaken taken s.device
