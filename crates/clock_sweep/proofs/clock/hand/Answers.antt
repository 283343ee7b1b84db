use Rattle.clock_sweep.proofs.Keeping.{hand_grows}
use Rattle.clock_sweep.proofs.clock.hand.Goals as goal

pub returns-clause-grows : goal.returns-clause-grows
returns-clause-grows g c = hand_grows _ _ _ c.load_hand.ensures.did
