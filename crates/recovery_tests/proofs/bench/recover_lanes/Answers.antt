use Rattle.recovery_tests.specs.declared.kept_lane.KeptLane.{KeptLane}
use Rattle.recovery_tests.proofs.Lanes.{unknown_hold}
use Rattle.recovery_tests.proofs.bench.recover_lanes.Goals as goal

pub recover-answer-requires-clause-placed : goal.recover-answer-requires-clause-placed
recover-answer-requires-clause-placed g c = unknown_hold {L = KeptLane} c.args.lanes.now
