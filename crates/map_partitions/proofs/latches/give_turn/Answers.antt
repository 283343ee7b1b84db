use Rattle.map_partitions.proofs.Growing.{turn_grows}
use Rattle.map_partitions.proofs.latches.give_turn.Goals as goal

pub returns-clause-grows : goal.returns-clause-grows
returns-clause-grows g c = turn_grows _ _ _ _ c.leave_turn.ensures.did
