use Rattle.state_word.proofs.Counts.{usage_lowered}
use Rattle.state_word.proofs.usage_down.Goals as goal

pub returns : goal.returns
returns c = usage_lowered c.args.word c.requires
