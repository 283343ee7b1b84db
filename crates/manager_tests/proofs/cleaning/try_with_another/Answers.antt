use Rattle.backend_pass.proofs.Between.{held_pinned}
use Rattle.manager_tests.proofs.cleaning.try_with_another.Goals as goal

pub returns : goal.returns
returns g c =
    let e = c.in-Ok.ensures in
    let t = c.try_clean-refused in
    let r = c.release.ensures in
    held_pinned {L = g.row.L.Denot} {G = g.row.G.Denot} g.L.BlockLane.contents c.args.manager.now c.in-Ok.pinned t.result.0 c.args.pass.now c.read_buffer.new.self t.new.pass c.release.new.self t.ensures.token e.same e.locks e.back t.ensures.pass r.belongs r.same r.tokens r.locks
