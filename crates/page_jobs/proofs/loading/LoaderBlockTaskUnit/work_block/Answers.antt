use Rattle.page_jobs.proofs.LoadedBlocks.{free_block}
use Rattle.page_jobs.proofs.loading.LoaderBlockTaskUnit.work_block.Goals as goal

pub returns-clause-free : goal.returns-clause-free
returns-clause-free g c =
    free_block {L = g.row.L.Denot} {G = g.row.G.Denot} g.L.BlockLane.contents c.args.manager.now c.args.tag c.args.pass.now c.load_block.new.pass c.load_block.result c.load_block.ensures.loads
