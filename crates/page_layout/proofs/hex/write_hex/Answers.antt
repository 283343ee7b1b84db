use Rattle.std.proofs.Common.{[], arith}
use Rattle.page_layout.proofs.Dumps.{hex_none}
use Rattle.page_layout.proofs.Hexes.{written_all, written_more}
use Rattle.page_layout.proofs.hex.write_hex.Goals as goal

pub loop-i-init : goal.loop-i-init
loop-i-init c = hex_none []

pub loop-i-preserved : goal.loop-i-preserved
loop-i-preserved c = written_more c.args.bytes.now c.loop-i.out c.loop-i.i _ _ (omega arith) (omega arith) c.hex_digit.ensures c.hex_digit-in-loop-i.ensures c.loop-i.invariant

pub returns : goal.returns
returns c = written_all c.args.bytes.now c.loop-i.out c.loop-i.i (omega arith) (omega arith) c.loop-i.invariant
