use Rattle.backend_pass.proofs.Between.{held_pinned, held_on}
use Rattle.manager_tests.proofs.cleaning.try_twice.Goals as goal

pub returns : goal.returns
returns g c =
    let m = c.args.manager.now in
    let u = c.read_buffer.new.self in
    let v = c.try_clean-once.new.pass in
    let between = held_on {L = g.row.L.Denot} {G = g.row.G.Denot} g.L.BlockLane.contents m u c.try_with_another-twice.new.pass v c.try_with_another-twice.ensures c.try_clean-once.ensures.pass in
    let e = c.in-Ok.ensures in
    let r = c.release.ensures in
    held_pinned {L = g.row.L.Denot} {G = g.row.G.Denot} g.L.BlockLane.contents m c.in-Ok.pinned c.try_clean-once.result.0 c.args.pass.now u v c.release.new.self c.try_clean-once.ensures.token e.same e.locks e.back between r.belongs r.same r.tokens r.locks
