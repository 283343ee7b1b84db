use Rattle.state_word.proofs.Masks.{sets_flag}
use Rattle.state_word.proofs.set_flag.Goals as goal

pub returns : goal.returns
returns c = rw (c.bits.ensures tt, c.union.ensures tt, c.from.ensures, c.from_bits_retain.ensures tt) (sets_flag c.args.flag c.args.word)
