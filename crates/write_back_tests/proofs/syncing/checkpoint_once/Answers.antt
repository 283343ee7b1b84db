use Rattle.manager_bench.proofs.Freeing.{free_on}
use Rattle.write_back_tests.proofs.syncing.checkpoint_once.Goals as goal

pub returns : goal.returns
returns g c =
    let e = c.checkpoint.ensures in
    free_on {L = g.row.L.Denot} {G = g.row.G.Denot} g.L.BlockLane.contents c.args.manager.now c.args._number c.args.pass.now c.checkpoint.new.pass c.requires e.belongs e.callers
