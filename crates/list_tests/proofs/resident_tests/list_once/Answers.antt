use Rattle.manager_bench.proofs.Freeing.{free_on}
use Rattle.list_tests.proofs.resident_tests.list_once.Goals as goal

pub returns : goal.returns
returns g c = let e = c.residents.ensures.looks in free_on {L = g.row.L.Denot} {G = g.row.G.Denot} g.L.BlockLane.contents c.args.manager.now c.args._number c.args.pass.now c.residents.new.pass c.requires e.belongs e.callers
