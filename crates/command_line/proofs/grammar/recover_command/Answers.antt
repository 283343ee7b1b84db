use Rattle.std.proofs.lemmas.Result.{IfOk-weaker}
use Rattle.command_line.specs.Grammar.{recover_app}
use Rattle.command_line.proofs.Built.{arg_added, rule_after}
use Rattle.command_line.proofs.grammar.recover_command.Goals as goal

pub returns-clause-app : goal.returns-clause-app
unfolding recover_app
returns-clause-app c =
    let before =
    rule_after _ _ _ _ c.in_ok-command-2.ensures.app
    (arg_added _ _ _ _ _ c.in_ok-command.ensures c.log_option.ensures.local c.log_option.ensures.rule
    (arg_added _ _ _ _ _ c.in_ok-arg.ensures c.text_arg.ensures.local c.text_arg.ensures.rule c.new.ensures.app)) in
    IfOk-weaker c.with_option-2.result _ _ (λ command app. rule_after _ _ _ _ app before) c.with_option-2.ensures.app
