use Rattle.std.proofs.Common.{◌<◌, arith, refl}
use Rattle.clock_sweep.specs.Choosing.{ticked}
use Rattle.clock_sweep.proofs.clock.next_frame.Goals as goal

pub returns-clause-next : goal.returns-clause-next
returns-clause-next g c = let some : 0 < c.args.tries = omega arith in ticked c.add_hand-hand.result some c.add_hand-hand.ensures.did (cc) refl
