use Rattle.state_word.proofs.Counts.{waiter_replaced}
use Rattle.state_word.proofs.set_waiter.Goals as goal

pub returns : goal.returns
returns c = rw c.from.ensures (waiter_replaced c.args.word c.args.number)
