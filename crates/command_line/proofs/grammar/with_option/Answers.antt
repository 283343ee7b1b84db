use Rattle.std.proofs.Common.{refl}
use Rattle.command_line.proofs.Built.{arg_added}
use Rattle.command_line.proofs.grammar.with_option.Goals as goal

pub returns-clause-app : goal.returns-clause-app
returns-clause-app c =
    arg_added _ _ _ _ _ c.in_ok-command.ensures c.number_option.ensures.local c.number_option.ensures.rule refl
