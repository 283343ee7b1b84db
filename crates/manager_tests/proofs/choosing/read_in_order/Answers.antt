use Rattle.manager_bench.proofs.Freeing.{free_on}
use Rattle.manager_tests.proofs.choosing.read_in_order.Goals as goal

pub returns : goal.returns
returns g c = let h = c.hand.ensures in free_on {L = g.row.L.Denot} {G = g.row.G.Denot} g.L.BlockLane.contents c.args.manager.now c.args._number c.loop-number.pass c.hand.new.self c.loop-number.invariant.free h.belongs h.callers
