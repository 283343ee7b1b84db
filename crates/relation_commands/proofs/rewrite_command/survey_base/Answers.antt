use Rattle.std.proofs.Common.{◌∙◌, ap}
use Rattle.relation_commands.specs.Limits.{log_base, rounded_up}
use Rattle.relation_commands.proofs.rewrite_command.survey_base.Goals as goal

pub returns-in-Ok-log_base-clause-base : goal.returns-in-Ok-log_base-clause-base
unfolding log_base
returns-in-Ok-log_base-clause-base g c pages have = c.in-Ok-log_base.ensures.base.0 ∙ ap rounded_up (c.in-Ok.ensures.largest pages have)
