use Rattle.std.proofs.Common.{◌≡◌, ℕ, ◌+◌, get_or, subst, sym, arith, [], ◌∷◌}
use Rattle.block_tag.specs.declared.tag.Fork.{Fork}
use Rattle.block_tag.specs.declared.tag.Fork.TheVariants.{Main, Fsm, Vm, Init}
use Rattle.block_tag.specs.Catalogue.{blocks_at}
use Rattle.block_tag.specs.Names.{fork_number}
use Rattle.lane_survey.specs.Survey.{AreOfFork, AreOfForks, Surveys}
use Rattle.lane_survey.proofs.Surveys.{earlier_fork, fork_at, forks_before, next_fork, next_fork_count, survey_of_both, this_fork}
use Rattle.lane_survey.proofs.surveying.survey_relation.Goals as goal

pub loop-fork-preserved : goal.loop-fork-preserved
loop-fork-preserved g c =
    let catalog = c.args.catalog.now in
    let rel = c.args.rel.0 in
    let i = c.loop-fork.fork-index in
    let fork : Fork = get_or (Main ∷ (Fsm ∷ (Vm ∷ (Init ∷ [])))) i Main in
    let blocks = c.blocks-blocks.result in
    let at : fork_number fork ≡ i = fork_at i Main (omega arith) in
    let count : forks_before (blocks_at catalog rel) i + blocks ≡ forks_before (blocks_at catalog rel) (i + 1) =
    subst (λ (n : ℕ). forks_before (blocks_at catalog rel) i + n ≡ forks_before (blocks_at catalog rel) (i + 1)) (sym c.blocks-blocks.ensures) (next_fork_count (blocks_at catalog rel) fork i at) in
    subst (λ (n : ℕ). Surveys {L = g.row.L.Denot} g.L.BlockLane.contents g.L.BlockLane.failed_writes g.L.BlockLane.unsynced g.L.BlockLane.read_faults g.L.BlockLane.write_faults g.L.BlockLane.calls (AreOfForks catalog rel (i + 1)) (forks_before (blocks_at catalog rel) (i + 1)) c.args.lanes.now c.survey_fork.new.lanes n) (sym c.max-largest.ensures)
    (survey_of_both {L = g.row.L.Denot} g.L.BlockLane.contents g.L.BlockLane.failed_writes g.L.BlockLane.unsynced g.L.BlockLane.read_faults g.L.BlockLane.write_faults g.L.BlockLane.calls (AreOfForks catalog rel i) (AreOfFork rel fork blocks) (AreOfForks catalog rel (i + 1)) (this_fork catalog rel fork blocks c.blocks-blocks.ensures i at)
    c.args.lanes.now c.loop-fork.lanes c.survey_fork.new.lanes (forks_before (blocks_at catalog rel) i) blocks c.loop-fork.largest c.loop-fork.invariant
    (next_fork catalog rel fork blocks c.blocks-blocks.ensures i at) (earlier_fork catalog rel fork blocks c.blocks-blocks.ensures i at) (forks_before (blocks_at catalog rel) (i + 1)) count c.in-Ok.lsn c.in-Ok.ensures.done)
