use Rattle.command_line.specs.Grammar.{tool_app}
use Rattle.command_line.proofs.Built.{subcommand_added}
use Rattle.command_line.proofs.grammar.tool_command.Goals as goal

pub returns : goal.returns
unfolding tool_app
returns c =
    subcommand_added _ _ _ _ _ c.in_ok-tool.ensures c.in_ok-sample_command.ensures.local c.in_ok-sample_command.ensures.app
    (subcommand_added _ _ _ _ _ c.in_ok-subcommand-4.ensures c.in_ok-recover_command.ensures.local c.in_ok-recover_command.ensures.app
    (subcommand_added _ _ _ _ _ c.in_ok-subcommand-3.ensures c.in_ok-rewrite_command.ensures.local c.in_ok-rewrite_command.ensures.app
    (subcommand_added _ _ _ _ _ c.in_ok-subcommand-2.ensures c.in_ok-path_command-2.ensures.local c.in_ok-path_command-2.ensures.app
    (subcommand_added _ _ _ _ _ c.in_ok-subcommand.ensures c.in_ok-path_command.ensures.local c.in_ok-path_command.ensures.app c.bare_command.ensures))))
