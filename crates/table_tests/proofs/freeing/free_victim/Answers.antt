use Rattle.table_tests.proofs.Seats.{rests_freed}
use Rattle.table_tests.proofs.freeing.free_victim.Goals as goal

pub returns-in-Ok : goal.returns-in-Ok
returns-in-Ok g c =
    let e = c.in-Ok.ensures in
    let p = c.victim_pin-pin.ensures in
    let u = c.unpin.ensures in
    rests_freed _ c.args.seat.now c.victim.new.seat c.victim_pin-pin.new.seat _ c.in-Ok.held.frame c.into_frame-frame.result c.victim_pin-pin.result.frame c.in-Ok.held.word
    c.requires.fresh c.victim.ensures.seat e.held e.absent c.into_frame-frame.ensures p.seat p.touches p.pin p.pinned u.seat u.touches u.unpinned
