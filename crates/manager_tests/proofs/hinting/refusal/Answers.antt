use Rattle.backend_pass.proofs.Between.{held_released}
use Rattle.manager_tests.proofs.hinting.refusal.Goals as goal

pub returns-in-Ok : goal.returns-in-Ok
returns-in-Ok g c =
    let e = c.in-Ok.ensures in
    let r = c.release.ensures in
    held_released {L = g.row.L.Denot} {G = g.row.G.Denot} g.L.BlockLane.contents c.args.manager.now c.in-Ok.pinned c.args.pass.now c.read_buffer.new.self c.release.new.self e.same e.locks e.back r.belongs r.same r.tokens r.locks
