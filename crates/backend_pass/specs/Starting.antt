-- Why a manager is not started.
use Rattle.std.specs.Prelude.{ℕ, nat_lt, nat_eq, Bool, ◌||◌, Option, Some, None, if◌then◌else◌}
use Rattle.table_rule.specs.declared.config.Config.{Config}
use Rattle.backend_pass.specs.declared.errors.Setting.TheVariants.{Frames, Passes, Lanes}
use Rattle.backend_pass.specs.declared.errors.StartError.{StartError}
use Rattle.backend_pass.specs.declared.errors.StartError.TheVariants.{BadConfig, LanesDiffer}

-- whether a number isn't one of these
abbrev pub is_out_of_range : ℕ → ℕ → ℕ → Bool
is_out_of_range least most n = nat_lt n least || nat_lt most n

-- what is refused, given this many lanes: the first number that is out of range, or another number
-- of lanes; out of memory aside
abbrev pub start_refusal : Config → ℕ → Option StartError
start_refusal c given =
    if is_out_of_range 16 4096 c.frames then Some (BadConfig Frames c.frames)
    else if is_out_of_range 1 64 c.passes then Some (BadConfig Passes c.passes)
    else if is_out_of_range 1 16 c.lanes then Some (BadConfig Lanes c.lanes)
    else if nat_eq c.lanes given then None
    else Some (LanesDiffer c.lanes given)
