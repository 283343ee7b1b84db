-- Calls that are to fail.
use Rattle.std.specs.Prelude.{ℕ, ◌+◌, ◌-◌, ◌^◌, ◌==◌, Bool, List, min}
use Rattle.std.specs.List.{list_any}

-- how many calls there were, and the numbers of those that are to fail, from 1 on
pub record Plan : Type 0 where
  pub calls : ℕ
  pub failing : List ℕ

-- the number of the next call
abbrev pub next_call : Plan → ℕ
next_call plan = min (plan.calls + 1) (2 ^ 64 - 1)

-- whether the next call is to fail
abbrev pub fails_next : Plan → Bool
fails_next plan = list_any (λ number. number == next_call plan) plan.failing

-- the plan once the next call was made
abbrev pub after_call : Plan → Plan
after_call plan = record plan { calls = next_call plan }

-- the same calls to fail, with no call made
abbrev pub fresh_plan : Plan → Plan
fresh_plan plan = record plan { calls = 0 }
