use Rattle.std.proofs.Common.{◌-◌}
use Rattle.manager_tests.proofs.crowding.+hold_first.Given as goal

abbrev pub decreases-hold_first : goal.decreases-hold_first
decreases-hold_first g l = 8 - l.number
