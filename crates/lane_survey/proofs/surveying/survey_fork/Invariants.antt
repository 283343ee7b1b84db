use Rattle.lane_survey.specs.Survey.{AreOfFork, Surveys}
use Rattle.lane_survey.proofs.surveying.survey_fork.Given as goal

abbrev pub invariant-loop-block : goal.invariant-loop-block
invariant-loop-block g l =
    Surveys {L = g.row.L.Denot} g.L.BlockLane.contents g.L.BlockLane.failed_writes g.L.BlockLane.unsynced g.L.BlockLane.read_faults g.L.BlockLane.write_faults g.L.BlockLane.calls
    (AreOfFork l.rel.0 l.fork l.block) l.block l.initial.lanes l.lanes l.largest
