-- A flag adds 1 to a sum if it is set, and 0 if it isn't.
use Rattle.std.proofs.Common.{◌≡◌, Bool, true, false, refl}
use Rattle.std.specs.Prelude.{if◌then◌else◌}
use Rattle.pin_core.specs.Tallies.{flag_weight}

pub flag_count : (b : Bool) → flag_weight b ≡ (if b then 1 else 0)
flag_count true = refl
flag_count false = refl
