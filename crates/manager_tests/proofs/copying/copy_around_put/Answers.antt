use Rattle.pin_core.specs.declared.view.Content.TheVariants.{Unlocked}
use Rattle.manager_bench.proofs.Freeing.{holds_on}
use Rattle.manager_tests.proofs.copying.copy_around_put.Goals as goal

pub unpin-requires : goal.unpin-requires
unpin-requires g c =
    let m = c.args.manager.now in
    let a = c.read_page-earlier.ensures in
    let b = c.read_page-later.ensures in
    let held = holds_on {L = g.row.L.Denot} {G = g.row.G.Denot} g.L.BlockLane.contents m Unlocked c.in_ok-pinned.pinned 0 c.pin.new.pass c.read_page-earlier.new.self c.in_ok-pinned.ensures.pinned a.belongs a.same a.tokens a.locks in
    holds_on {L = g.row.L.Denot} {G = g.row.G.Denot} g.L.BlockLane.contents m Unlocked c.in_ok-pinned.pinned 0 c.read_page-earlier.new.self c.read_page-later.new.self held b.belongs b.same b.tokens b.locks
