use Rattle.backend_pass.proofs.Between.{held_none, held_released}
use Rattle.manager_tests.proofs.crowding.crowd_frames.Goals as goal

pub returns-in_default-clause-second : goal.returns-in_default-clause-second
returns-in_default-clause-second g c = held_none {L = g.row.L.Denot} {G = g.row.G.Denot} g.L.BlockLane.contents c.args.manager.now c.args.second.now c.requires.second

pub returns-clause-first : goal.returns-clause-first
returns-clause-first g c =
    let e = c.in-Ok.ensures in
    let w = c.hold_first.ensures.first in
    held_released {L = g.row.L.Denot} {G = g.row.G.Denot} g.L.BlockLane.contents c.args.manager.now c.in-Ok.held c.args.first.now c.read_buffer.new.self c.hold_first.new.first e.same e.locks e.back w.belongs w.same w.tokens w.locks
