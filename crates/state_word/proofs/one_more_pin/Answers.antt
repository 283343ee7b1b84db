use Rattle.state_word.proofs.Counts.{pin_added}
use Rattle.state_word.proofs.one_more_pin.Goals as goal

pub returns : goal.returns
returns c = pin_added c.args.word c.requires
