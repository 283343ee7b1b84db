use Rattle.std.proofs.Common.{take}
use Rattle.std.specs.Prelude.{sum_by}
use Rattle.lane_survey.specs.Survey.{AreOfRelations, Surveys, relation_blocks}
use Rattle.lane_survey.proofs.surveying.survey.Given as goal

abbrev pub invariant-loop-rel : goal.invariant-loop-rel
invariant-loop-rel g l =
    Surveys {L = g.row.L.Denot} g.L.BlockLane.contents g.L.BlockLane.failed_writes g.L.BlockLane.unsynced g.L.BlockLane.read_faults g.L.BlockLane.write_faults g.L.BlockLane.calls
    (AreOfRelations l.catalog l.rel) (sum_by relation_blocks (take l.rel l.catalog)) l.initial.lanes l.lanes l.largest
