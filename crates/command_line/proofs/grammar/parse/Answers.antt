use Rattle.clap.specs.Words.{app_of}
use Rattle.command_line.proofs.Built.{fails_by_tool, matches_tool}
use Rattle.command_line.proofs.grammar.parse.Goals as goal

pub returns-clause-fails : goal.returns-clause-fails
returns-clause-fails c =
    fails_by_tool (app_of c.in_ok-tool.tool) _ _ c.in_ok-tool.ensures c.try_get_matches_from.ensures.kinds

pub returns-clause-matches : goal.returns-clause-matches
returns-clause-matches c =
    matches_tool (app_of c.in_ok-tool.tool) _ _ c.in_ok-tool.ensures c.try_get_matches_from.ensures.matches
