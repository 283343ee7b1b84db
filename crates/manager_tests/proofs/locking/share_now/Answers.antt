use Rattle.pin_core.specs.declared.view.Content.TheVariants.{Shared, Unlocked}
use Rattle.manager_bench.proofs.Freeing.{holds_relocked}
use Rattle.manager_tests.proofs.locking.share_now.Goals as goal

pub returns-in-Ok : goal.returns-in-Ok
returns-in-Ok g c =
    let m = c.args.manager.now in
    let i = c.args._number in
    let e = c.in-Ok.ensures in
    let u = c.unshare.ensures in
    holds_relocked {L = g.row.L.Denot} {G = g.row.G.Denot} g.L.BlockLane.contents m Unlocked c.in-Ok.shared.pinned c.unshare.result i c.try_share.new.self c.unshare.new.self
    (holds_relocked {L = g.row.L.Denot} {G = g.row.G.Denot} g.L.BlockLane.contents m Shared c.args.pinned c.in-Ok.shared.pinned i c.args.pass.now c.try_share.new.self c.requires e.token e.belongs e.same.keeps e.tokens e.lock)
    u.token u.belongs u.same.keeps u.tokens u.lock
