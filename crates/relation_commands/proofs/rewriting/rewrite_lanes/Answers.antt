use Rattle.std.proofs.Common.{Err, List, arith, sym, subst}
use Rattle.relation_commands.specs.declared.rewriting.RewriteError.TheVariants.{Memory}
use Rattle.relation_commands.specs.Rewriting.{LeavesRewritten}
use Rattle.relation_commands.proofs.RewriteUntouched.{untouched}
use Rattle.relation_commands.proofs.rewriting.rewrite_lanes.Goals as goal

pub returns-in-Err-clause-leaves : goal.returns-in-Err-clause-leaves
returns-in-Err-clause-leaves g c =
    let back = c.in-Err.ensures.back in
    let lanes = c.args.lanes.items in
    subst (λ (log : g.row.G.Denot). LeavesRewritten g.L.BlockLane.contents g.L.BlockLane.failed_writes g.G.LogDevice.bytes g.G.LogDevice.synced g.L.BlockLane.write_faults g.G.LogDevice.faults c.args.relation c.args.base lanes c.in-Err.lanes.items log (Err Memory)) (sym back.1)
    (subst (λ (l : List g.row.L.Denot). LeavesRewritten g.L.BlockLane.contents g.L.BlockLane.failed_writes g.G.LogDevice.bytes g.G.LogDevice.synced g.L.BlockLane.write_faults g.G.LogDevice.faults c.args.relation c.args.base lanes l c.args.log (Err Memory)) (sym back.0)
    (untouched g.L.BlockLane.contents g.L.BlockLane.failed_writes g.G.LogDevice.bytes g.G.LogDevice.synced g.L.BlockLane.write_faults g.G.LogDevice.faults c.args.relation c.args.base lanes c.args.log c.requires.log.head (let low = c.requires.base.1 in omega arith) (g.met.L.BlockLane g.world.𝓛 g.world.𝓜 g.world.𝓡 ((λ s x. x), (λ x. x), (λ x. x), λ x. x)).whole c.requires.unmarked))
