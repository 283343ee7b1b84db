use Rattle.state_word.proofs.Counts.{pin_gone}
use Rattle.state_word.proofs.unpinned.Goals as goal

pub returns : goal.returns
returns c = pin_gone c.args.word c.requires
