use Rattle.table_tests.proofs.Seats.{rests_given_up, rests_refused, rests_stood}
use Rattle.table_tests.proofs.hinting.read_released.Goals as goal

pub returns-in-Ok : goal.returns-in-Ok
returns-in-Ok g c =
    let e = c.in-Ok.ensures in
    let u = c.unpin_and_wake.ensures in
    rests_given_up _ _ _ _ _ _ c.requires.none e.keeps.stands e.keeps.latches e.answer.1 u.seat u.touches u.unpinned

pub returns : goal.returns
returns g c =
    let e = c.in-Err.ensures in
    rests_stood _ _ _ c.requires.none e.keeps.stands (rests_refused _ _ _ _ c.args.seat.now.me.0 c.read_block.new.seat.me.0 c.in-Err._why e.answer) e.keeps.latches
