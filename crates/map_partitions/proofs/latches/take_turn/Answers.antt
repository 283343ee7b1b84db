use Rattle.map_partitions.proofs.Seen.{holds_free}
use Rattle.map_partitions.proofs.Growing.{turn_grows}
use Rattle.map_partitions.proofs.latches.take_turn.Goals as goal

pub returns-clause-holds : goal.returns-clause-holds
returns-clause-holds g c = holds_free _ _ _ c.take_turn.ensures.did c.take_turn.ensures.turned

pub returns-clause-grows : goal.returns-clause-grows
returns-clause-grows g c = turn_grows _ _ _ _ c.take_turn.ensures.did
