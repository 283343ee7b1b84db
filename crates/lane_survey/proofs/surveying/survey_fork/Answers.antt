use Rattle.std.proofs.Common.{ℕ, ◌+◌, refl, subst, sym}
use Rattle.block_tag.specs.Names.{tag_of_parts}
use Rattle.lane_survey.specs.Survey.{AreOfBlock, AreOfFork, Surveys}
use Rattle.lane_survey.proofs.Surveys.{earlier_block, next_block, survey_of_both, this_block}
use Rattle.lane_survey.proofs.surveying.survey_fork.Goals as goal

pub loop-block-preserved : goal.loop-block-preserved
loop-block-preserved g c =
    let rel = c.args.rel.0 in
    let fork = c.args.fork in
    let block = c.loop-block.block in
    subst (λ (n : ℕ). Surveys {L = g.row.L.Denot} g.L.BlockLane.contents g.L.BlockLane.failed_writes g.L.BlockLane.unsynced g.L.BlockLane.read_faults g.L.BlockLane.write_faults g.L.BlockLane.calls (AreOfFork rel fork (block + 1)) (block + 1) c.args.lanes.now c.survey_block.new.lanes n) (sym c.max-largest.ensures)
    (survey_of_both {L = g.row.L.Denot} g.L.BlockLane.contents g.L.BlockLane.failed_writes g.L.BlockLane.unsynced g.L.BlockLane.read_faults g.L.BlockLane.write_faults g.L.BlockLane.calls (AreOfFork rel fork block) (AreOfBlock (tag_of_parts rel fork block)) (AreOfFork rel fork (block + 1)) (this_block rel fork block)
    c.args.lanes.now c.loop-block.lanes c.survey_block.new.lanes block 1 c.loop-block.largest c.loop-block.invariant (next_block rel fork block) (earlier_block rel fork block) (block + 1) refl c.in-Ok.lsn c.in-Ok.ensures.done)
