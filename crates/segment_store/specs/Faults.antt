-- Counts of faults of openings.
use Rattle.std.specs.Prelude.{◌≡◌, ℕ, ◌+◌, ◌-◌, ◌^◌, ◌≤◌, min, Result, MatchResult}
use Rattle.byte_devices.specs.Faults.{Rose}
use Rattle.segment_store.specs.declared.host.HostError.{HostError}
use Rattle.segment_store.specs.declared.host.HostError.TheVariants.{Missing, Failed, Memory}

-- a count rose if the host failed, and is the same after any other refusal
abbrev pub RoseIfFailed : ℕ → ℕ → HostError → Type 0
RoseIfFailed before now Failed = Rose before now
RoseIfFailed before now Missing = now ≡ before
RoseIfFailed before now Memory = now ≡ before

-- a count is one more if the host failed, as far as the type goes, and is the same after any other
-- refusal
abbrev pub IsOneMoreIfFailed : ℕ → ℕ → HostError → Type 0
IsOneMoreIfFailed before now Failed = now ≡ min (before + 1) (2 ^ 64 - 1)
IsOneMoreIfFailed before now Missing = now ≡ before
IsOneMoreIfFailed before now Memory = now ≡ before

-- an opening counts itself if it is a fault, and nothing else
abbrev pub CountsOneOpening : {T : Type 0} → ℕ → ℕ → Result T HostError → Type 0
CountsOneOpening before now result =
    MatchResult result (λ _. now ≡ before) (IsOneMoreIfFailed before now)

-- the count of an opening never falls, is the same after Ok, and rose if the answer is a fault
pub record HasOpeningCause {T : Type 0} (before now : ℕ)
    (result : Result T HostError) : Type 0 where
  pub later : before ≤ now
  pub cause : MatchResult result (λ _. now ≡ before) (RoseIfFailed before now)
