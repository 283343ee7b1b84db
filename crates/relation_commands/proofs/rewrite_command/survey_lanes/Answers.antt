use Rattle.std.proofs.Common.{◌∙◌}
use Rattle.relation_commands.proofs.Counting.{some_in_sum, sum_same}
use Rattle.relation_commands.proofs.Surveyed.{largest_is}
use Rattle.relation_commands.proofs.rewrite_command.survey_lanes.Goals as goal

pub returns-in-Ok-survey-clause-quiet : goal.returns-in-Ok-survey-clause-quiet
returns-in-Ok-survey-clause-quiet g c = sum_same g.L.BlockLane.read_faults _ _ c.in-Ok-survey.ensures.ok ∙ c.requires.reads

pub returns-in-Ok-survey-clause-largest : goal.returns-in-Ok-survey-clause-largest
returns-in-Ok-survey-clause-largest g c pages have =
    largest_is c.args.relation.fork c.args.relation.blocks _ _ pages _ c.in-Ok.ensures.catalog have.held have.counted c.in-Ok-survey.ensures.largest

pub returns-clause-cause : goal.returns-clause-cause
returns-clause-cause g c = some_in_sum g.L.BlockLane.read_faults c.in-Err.field-0.tag c.args.lanes.now _ c.requires.some c.in-Err.ensures.fault
