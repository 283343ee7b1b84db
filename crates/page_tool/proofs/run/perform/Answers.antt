use Rattle.relation_commands.specs.declared.error.ToolError.TheVariants.{Memory}
use Rattle.relation_commands.specs.Answers.{counted_asked}
use Rattle.command_line.specs.Spelled.{request_in}
use Rattle.relation_commands.proofs.GivenFiles.{of_none}
use Rattle.relation_commands.proofs.IoLines.{counted_nothing}
use Rattle.page_tool.proofs.run.perform.Goals as goal

pub returns-in-Err-clause-counted : goal.returns-in-Err-clause-counted
returns-in-Err-clause-counted g c =
    of_none (request_in c.args.words.now) _
    (λ a. of_none (counted_asked a (g.H.Host.contents c.args.host.now)) _ (λ t. counted_nothing t (g.O.Sink.bytes c.args.out.now) Memory))
