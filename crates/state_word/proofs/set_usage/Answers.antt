use Rattle.state_word.proofs.Counts.{usage_replaced}
use Rattle.state_word.proofs.set_usage.Goals as goal

pub returns : goal.returns
returns c = rw (c.from-2.ensures, c.from.ensures) (usage_replaced c.args.word c.usage.result c.args.count c.usage.ensures c.requires)
