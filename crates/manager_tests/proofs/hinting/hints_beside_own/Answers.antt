use Rattle.std.proofs.Common.{refl}
use Rattle.backend_pass.proofs.Between.{held_pinned, held_on}
use Rattle.manager_tests.proofs.hinting.hints_beside_own.Goals as goal

pub returns : goal.returns
returns g c =
    let m = c.args.manager.now in
    let u = c.read_buffer.new.self in
    let a = c.hint_of-same_word in
    let b = c.hint_of-further in
    let v = c.hint_of-past in
    let first = held_on {L = g.row.L.Denot} {G = g.row.G.Denot} g.L.BlockLane.contents m u a.new.pass b.new.pass a.ensures b.ensures in
    let between = held_on {L = g.row.L.Denot} {G = g.row.G.Denot} g.L.BlockLane.contents m u b.new.pass v.new.pass first v.ensures in
    let e = c.in-Ok.ensures in
    let r = c.release.ensures in
    held_pinned {L = g.row.L.Denot} {G = g.row.G.Denot} g.L.BlockLane.contents m c.in-Ok.pinned c.in-Ok.pinned c.args.pass.now u v.new.pass c.release.new.self refl e.same e.locks e.back between r.belongs r.same r.tokens r.locks
