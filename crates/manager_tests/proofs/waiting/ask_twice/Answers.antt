use Rattle.std.proofs.Common.{◌∙◌}
use Rattle.backend_pass.proofs.Between.{held_pinned, held_on}
use Rattle.manager_tests.proofs.waiting.ask_twice.Goals as goal

pub returns : goal.returns
returns g c =
    let m = c.args.manager.now in
    let u = c.read_buffer.new.self in
    let w = c.clean-refused.new.pass in
    let v = c.ask_once-later.new.pass in
    let asked = held_on {L = g.row.L.Denot} {G = g.row.G.Denot} g.L.BlockLane.contents m u c.look_for-pinned.new.pass w c.look_for-pinned.ensures.pass c.clean-refused.ensures.pass in
    let between = held_on {L = g.row.L.Denot} {G = g.row.G.Denot} g.L.BlockLane.contents m u w v asked c.ask_once-later.ensures in
    let e = c.in-Ok.ensures in
    let r = c.release.ensures in
    held_pinned {L = g.row.L.Denot} {G = g.row.G.Denot} g.L.BlockLane.contents m c.in-Ok.pinned c.clean-refused.result.0 c.args.pass.now u v c.release.new.self (c.clean-refused.ensures.token ∙ c.look_for-pinned.ensures.token) e.same e.locks e.back between r.belongs r.same r.tokens r.locks
