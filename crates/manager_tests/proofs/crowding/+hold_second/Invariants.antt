use Rattle.std.proofs.Common.{◌-◌}
use Rattle.manager_tests.proofs.crowding.+hold_second.Given as goal

abbrev pub decreases-hold_second : goal.decreases-hold_second
decreases-hold_second g l = 16 - l.number
