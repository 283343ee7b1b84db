use Rattle.segment_store.proofs.Placed.{stands_in_place}
use Rattle.segment_store.proofs.laws.blocks_stand_in_place.Goals as goal

pub returns : goal.returns
returns c = stands_in_place
