use Rattle.manager_bench.proofs.Freeing.{three_free}
use Rattle.manager_bench.proofs.bench.start_over.Goals as goal

pub returns-in-Ok-start-clause-first : goal.returns-in-Ok-start-clause-first
returns-in-Ok-start-clause-first g c = (three_free {L = g.row.L.Denot} {G = g.row.G.Denot} g.L.BlockLane.contents c.in-Ok-start.manager _ _ _ _ _ _ _ c.in-Ok-start.ensures.passes c.take_last-third.ensures.items c.take_last-second.ensures.items c.take_last-first.ensures.items).0

pub returns-in-Ok-start-clause-second : goal.returns-in-Ok-start-clause-second
returns-in-Ok-start-clause-second g c = (three_free {L = g.row.L.Denot} {G = g.row.G.Denot} g.L.BlockLane.contents c.in-Ok-start.manager _ _ _ _ _ _ _ c.in-Ok-start.ensures.passes c.take_last-third.ensures.items c.take_last-second.ensures.items c.take_last-first.ensures.items).1

pub returns-in-Ok-start-clause-third : goal.returns-in-Ok-start-clause-third
returns-in-Ok-start-clause-third g c = (three_free {L = g.row.L.Denot} {G = g.row.G.Denot} g.L.BlockLane.contents c.in-Ok-start.manager _ _ _ _ _ _ _ c.in-Ok-start.ensures.passes c.take_last-third.ensures.items c.take_last-second.ensures.items c.take_last-first.ensures.items).2
