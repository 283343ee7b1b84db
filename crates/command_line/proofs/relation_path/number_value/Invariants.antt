use Rattle.std.proofs.Common.{◌≡◌, ◌^◌, ◌-◌, take, min}
use Rattle.command_line.specs.RelationPath.{number_value}
use Rattle.command_line.proofs.relation_path.number_value.Given as goal

abbrev pub invariant-loop-digit : goal.invariant-loop-digit
invariant-loop-digit l = l.value ≡ min (number_value (take l.digit-index l.digits)) (2 ^ 64 - 1)
