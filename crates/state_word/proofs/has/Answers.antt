use Rattle.state_word.proofs.Masks.{has_flag}
use Rattle.state_word.proofs.has.Goals as goal

pub returns : goal.returns
returns c = rw (← has_flag c.args.flag c.args.word) (rw (← c.from.ensures, ← c.from_bits_retain.ensures tt) (c.contains.ensures tt))
