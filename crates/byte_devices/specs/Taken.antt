-- Bytes that are taken from a source.
use Rattle.std.specs.Prelude.{◌≡◌, ℕ, ◌≤◌, List, length, Option}
use Rattle.byte_devices.specs.Sources.{Takes}

-- The first `at` bytes of a piece of `long` bytes were taken
pub record IsTakenUpto (at long : ℕ) (piece : List ℕ) (old new : Option (List ℕ))
    (faults faults_now : ℕ) : Type 0 where
  pub within : at ≤ long
  pub size : length piece ≡ long
  pub taken : Takes at piece old new
  pub faults_are : faults_now ≡ faults
