use Rattle.manager_bench.proofs.Freeing.{free_on}
use Rattle.manager_bench.proofs.counting.totals_once.Goals as goal

pub returns : goal.returns
returns g c = let e = c.io_totals.ensures in free_on {L = g.row.L.Denot} {G = g.row.G.Denot} g.L.BlockLane.contents c.args.manager.now c.args._number c.args.pass.now c.io_totals.new.self c.requires e.belongs e.callers
