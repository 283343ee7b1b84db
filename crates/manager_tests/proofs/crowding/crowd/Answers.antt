use Rattle.backend_pass.proofs.Between.{token_kept, gives_one}
use Rattle.manager_tests.proofs.crowding.crowd.Goals as goal

pub release-requires-clause-pinned : goal.release-requires-clause-pinned
release-requires-clause-pinned g c = let f = c.refusal-full.ensures in (token_kept c.args.held c.args.first.now c.refusal-full.new.pass f.tokens f.locks c.requires.held).token

pub release-requires-clause-unlocked : goal.release-requires-clause-unlocked
release-requires-clause-unlocked g c one = let f = c.refusal-full.ensures in (token_kept c.args.held c.args.first.now c.refusal-full.new.pass f.tokens f.locks c.requires.held).unlocked

pub returns-clause-first : goal.returns-clause-first
returns-clause-first g c = let r = c.release.ensures in gives_one {L = g.row.L.Denot} {G = g.row.G.Denot} g.L.BlockLane.contents c.args.manager.now c.args.held.frame c.args.first.now c.refusal-full.new.pass c.release.new.self c.refusal-full.ensures r.belongs r.same r.tokens r.locks
