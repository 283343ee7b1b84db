use Rattle.pin_core.specs.declared.view.Content.TheVariants.{Exclusive, Unlocked}
use Rattle.manager_bench.proofs.Freeing.{holds_relocked}
use Rattle.manager_tests.proofs.locking.try_beside_exclusive.Goals as goal

pub unpin-requires : goal.unpin-requires
unpin-requires g c =
    let m = c.args.manager.now in
    let e = c.exclusive-token.ensures in
    let u = c.unexclusive-pinned.ensures in
    let taken = holds_relocked {L = g.row.L.Denot} {G = g.row.G.Denot} g.L.BlockLane.contents m Exclusive c.in-Ok.pinned c.exclusive-token.result.pinned 0 c.pin.new.pass c.exclusive-token.new.self c.in-Ok.ensures.pinned e.token e.belongs e.same.keeps e.tokens e.lock in
    holds_relocked {L = g.row.L.Denot} {G = g.row.G.Denot} g.L.BlockLane.contents m Unlocked c.exclusive-token.result.pinned c.unexclusive-pinned.result 0 c.exclusive-token.new.self c.unexclusive-pinned.new.self taken u.token u.belongs u.same.keeps u.tokens u.lock
