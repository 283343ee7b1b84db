use Rattle.segment_store.specs.declared.memory_lane.MemLane.{MemLane}
use Rattle.recovery_tests.proofs.Lanes.{one_holds}
use Rattle.recovery_tests.proofs.memory_tests.recover_one.Goals as goal

pub recover-answer-requires-clause-placed : goal.recover-answer-requires-clause-placed
recover-answer-requires-clause-placed c = one_holds {L = MemLane} _ c.args.lanes.now c.requires
