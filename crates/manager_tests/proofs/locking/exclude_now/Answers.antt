use Rattle.pin_core.specs.declared.view.Content.TheVariants.{Exclusive, Unlocked}
use Rattle.manager_bench.proofs.Freeing.{holds_relocked}
use Rattle.manager_tests.proofs.locking.exclude_now.Goals as goal

pub returns-in-Ok : goal.returns-in-Ok
returns-in-Ok g c =
    let m = c.args.manager.now in
    let i = c.args._number in
    let e = c.in-Ok.ensures in
    let u = c.unexclusive.ensures in
    holds_relocked {L = g.row.L.Denot} {G = g.row.G.Denot} g.L.BlockLane.contents m Unlocked c.in-Ok.exclusive.pinned c.unexclusive.result i c.try_exclusive.new.self c.unexclusive.new.self
    (holds_relocked {L = g.row.L.Denot} {G = g.row.G.Denot} g.L.BlockLane.contents m Exclusive c.args.pinned c.in-Ok.exclusive.pinned i c.args.pass.now c.try_exclusive.new.self c.requires e.token e.belongs e.same.keeps e.tokens e.lock)
    u.token u.belongs u.same.keeps u.tokens u.lock
