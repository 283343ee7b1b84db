-- Counts of calls.
use Rattle.std.specs.Prelude.{ℕ, ◌+◌}
use Rattle.byte_devices.specs.declared.count.CallCount.{CallCount}
use Rattle.byte_devices.specs.declared.count.CallCount.TheVariants.{Zero, After'}

-- how many calls were counted
abbrev pub calls_counted : CallCount → ℕ
calls_counted Zero = 0
calls_counted (After' shape before) = calls_counted before + 1
