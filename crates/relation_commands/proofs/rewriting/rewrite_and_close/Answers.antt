use Rattle.std.proofs.Common.{rules}
use Rattle.frame_table.specs.Seats.{base_of}
use Rattle.relation_commands.proofs.RewriteOutcome.{cause, leaves}
use Rattle.relation_commands.proofs.rewriting.rewrite_and_close.Goals as goal

pub returns-clause-cause : goal.returns-clause-cause
returns-clause-cause g c =
    let job = c.rewrite_and_store-passes in
    cause {L = g.row.L.Denot} {G = g.row.G.Denot} _ c.args.manager c.args.relation (base_of c.args.manager.table) c.args.passes.items job.result.passes.items c.requires.started (search rules)
    c.close-lanes.result.0.items c.close-lanes.result.1 c.close-lanes.ensures c.requires.reads c.requires.writes job.result.end job.ensures.stores

pub returns-clause-leaves : goal.returns-clause-leaves
returns-clause-leaves g c =
    let job = c.rewrite_and_store-passes in
    let laws = c.rewrite_closes.ensures in
    leaves {L = g.row.L.Denot} {G = g.row.G.Denot} _ c.args.manager c.args.relation (base_of c.args.manager.table) c.args.passes.items job.result.passes.items c.requires.started (search rules)
    c.close-lanes.result.0.items c.close-lanes.result.1 c.close-lanes.ensures laws.any laws.all laws.full c.requires.room c.requires.logs c.requires.writes (g.met.L.BlockLane g.world.𝓛 g.world.𝓜 g.world.𝓡 ((λ s x. x), (λ x. x), (λ x. x), λ x. x)).whole c.all_positions.ensures.rewritten job.result.end job.ensures.stores
