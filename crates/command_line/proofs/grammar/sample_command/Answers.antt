use Rattle.std.proofs.Common.{◌∙◌, ap}
use Rattle.std.proofs.lemmas.Result.{IfOk-weaker}
use Rattle.command_line.specs.Grammar.{with_options}
use Rattle.command_line.proofs.Built.{arg_added}
use Rattle.command_line.proofs.grammar.sample_command.Goals as goal

pub returns-clause-app : goal.returns-clause-app
returns-clause-app c =
    let before =
    arg_added _ _ _ _ _ c.in_ok-command.ensures c.number_arg-2.ensures.local c.number_arg-2.ensures.rule
    (arg_added _ _ _ _ _ c.in_ok-arg.ensures c.number_arg.ensures.local c.number_arg.ensures.rule c.new.ensures.app) in
    IfOk-weaker c.with_options.result _ _ (λ command app. app ∙ ap with_options before) c.with_options.ensures.app
