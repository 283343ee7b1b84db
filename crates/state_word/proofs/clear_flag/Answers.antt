use Rattle.std.proofs.Common.{arith}
use Rattle.state_word.proofs.Masks.{clears_flag}
use Rattle.state_word.proofs.clear_flag.Goals as goal

pub returns : goal.returns
returns c = rw (c.bits.ensures tt, c.difference.ensures tt, c.from.ensures, c.from_bits_retain.ensures tt) (clears_flag c.args.flag c.args.word (omega arith))
