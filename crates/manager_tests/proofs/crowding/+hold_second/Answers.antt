use Rattle.std.proofs.Common.{refl}
use Rattle.backend_pass.proofs.Between.{held_none, held_pinned, gives_one}
use Rattle.manager_tests.proofs.crowding.+hold_second.Goals as goal

pub returns-then-number-gt15-clause-second : goal.returns-then-number-gt15-clause-second
returns-then-number-gt15-clause-second g t c = held_none {L = g.row.L.Denot} {G = g.row.G.Denot} g.L.BlockLane.contents c.args.manager.now c.args.second.now c.requires.second

pub returns-in_default-clause-first : goal.returns-in_default-clause-first
returns-in_default-clause-first g t c =
    let r = c.release.ensures in
    gives_one {L = g.row.L.Denot} {G = g.row.G.Denot} g.L.BlockLane.contents c.args.manager.now c.args.held.frame c.args.first.now c.args.first.now c.release.new.self (held_none {L = g.row.L.Denot} {G = g.row.G.Denot} g.L.BlockLane.contents c.args.manager.now c.args.first.now c.requires.first) r.belongs r.same r.tokens r.locks

pub returns-clause-second : goal.returns-clause-second
returns-clause-second g t c =
    let e = c.in-Ok.ensures in
    let r = c.release-2.ensures in
    held_pinned {L = g.row.L.Denot} {G = g.row.G.Denot} g.L.BlockLane.contents c.args.manager.now c.in-Ok.pinned c.in-Ok.pinned c.args.second.now c.read_buffer.new.self c.hold_second-crowded.new.second c.release-2.new.self refl e.same e.locks e.back c.hold_second-crowded.ensures.second r.belongs r.same r.tokens r.locks
