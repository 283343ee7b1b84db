use Rattle.std.proofs.lemmas.Result.{IfOk-weaker}
use Rattle.command_line.specs.Grammar.{with_options}
use Rattle.command_line.proofs.Built.{rule_after}
use Rattle.command_line.proofs.grammar.with_options.Goals as goal

pub returns-clause-app : goal.returns-clause-app
unfolding with_options
returns-clause-app c =
    let before =
    rule_after _ _ _ _ c.in_ok-command-4.ensures.app
    (rule_after _ _ _ _ c.in_ok-command-3.ensures.app
    (rule_after _ _ _ _ c.in_ok-command-2.ensures.app
    c.in_ok-command.ensures.app)) in
    IfOk-weaker c.with_option-5.result _ _ (λ command app. rule_after _ _ _ _ app before) c.with_option-5.ensures.app
