use Rattle.block_tag.specs.Catalogue.{blocks_at}
use Rattle.lane_survey.specs.Survey.{AreOfForks, Surveys}
use Rattle.lane_survey.proofs.Surveys.{forks_before}
use Rattle.lane_survey.proofs.surveying.survey_relation.Given as goal

abbrev pub invariant-loop-fork : goal.invariant-loop-fork
invariant-loop-fork g l =
    Surveys {L = g.row.L.Denot} g.L.BlockLane.contents g.L.BlockLane.failed_writes g.L.BlockLane.unsynced g.L.BlockLane.read_faults g.L.BlockLane.write_faults g.L.BlockLane.calls
    (AreOfForks l.catalog l.rel.0 l.fork-index) (forks_before (blocks_at l.catalog l.rel.0) l.fork-index) l.initial.lanes l.lanes l.largest
