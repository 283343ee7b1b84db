use Rattle.pin_core.specs.declared.view.Content.TheVariants.{Shared, Unlocked}
use Rattle.manager_bench.proofs.Freeing.{holds_relocked}
use Rattle.manager_tests.proofs.cleaning.try_not_alone.Goals as goal

pub unpin-requires : goal.unpin-requires
unpin-requires g c =
    let m = c.args.manager.now in
    let e = c.share-token.ensures in
    let u = c.unshare-token.ensures in
    let taken = holds_relocked {L = g.row.L.Denot} {G = g.row.G.Denot} g.L.BlockLane.contents m Shared c.in-Ok.token c.share-token.result.pinned 1 c.pin.new.pass c.share-token.new.self c.in-Ok.ensures.pinned e.token e.belongs e.same.keeps e.tokens e.lock in
    holds_relocked {L = g.row.L.Denot} {G = g.row.G.Denot} g.L.BlockLane.contents m Unlocked c.share-token.result.pinned c.unshare-token.result 1 c.share-token.new.self c.unshare-token.new.self taken u.token u.belongs u.same.keeps u.tokens u.lock
