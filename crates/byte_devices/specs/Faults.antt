-- Counts of faults, and the answers that they explain.
use Rattle.std.specs.Prelude.{◌≡◌, ℕ, ◌+◌, ◌-◌, ◌^◌, ◌≤◌, min, Result, OnOk, OnErr, MatchResult}

-- the count is above what it was, or stands at its type's last value
abbrev pub Rose : ℕ → ℕ → Type 0
Rose before now = min (before + 1) (2 ^ 64 - 1) ≤ now

-- the count never falls, is the same after Ok, and rose if the answer is a fault
pub record HasCause {T E : Type 0} (before now : ℕ) (result : Result T E) : Type 0 where
  pub later : before ≤ now
  pub ok : OnOk result (now ≡ before)
  pub failed : OnErr result (Rose before now)

-- the count is the same after Ok, and one more after a failure, as far as the type goes
abbrev pub CountsOne : {T E : Type 0} → ℕ → ℕ → Result T E → Type 0
CountsOne before now result =
    MatchResult result (λ _. now ≡ before) (λ _. now ≡ min (before + 1) (2 ^ 64 - 1))

-- another count was added, as far as the type goes
abbrev pub Added : ℕ → ℕ → ℕ → Type 0
Added before more now = now ≡ min (before + more) (2 ^ 64 - 1)
