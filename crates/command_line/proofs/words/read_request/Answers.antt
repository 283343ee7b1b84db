use Rattle.std.proofs.Common.{◌∙◌, ap, map, string_bytes}
use Rattle.std.specs.Prelude.{option_map}
use Rattle.std.proofs.lemmas.Result.{IfOk-weaker}
use Rattle.command_line.specs.Request.{asked}
use Rattle.command_line.proofs.Given.{request_of-refused, request_of-taken}
use Rattle.command_line.proofs.words.read_request.Goals as goal

pub returns-in-Ok-clause-request : goal.returns-in-Ok-clause-request
returns-in-Ok-clause-request c =
    c.request_of_subcommand.ensures.asked ∙ request_of-taken _ _ c.in-Ok.ensures.fails c.in-Ok.ensures.matches

pub returns-in-Err-clause-request : goal.returns-in-Err-clause-request
returns-in-Err-clause-request c =
    IfOk-weaker c.refused.result _ _
    (λ request none. ap (option_map asked) none.0
    ∙ request_of-refused (map string_bytes c.args.words.now) c.in-Err.error c.in-Err.ensures.fails none.1) c.refused.ensures
