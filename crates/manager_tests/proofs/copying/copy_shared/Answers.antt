use Rattle.pin_core.specs.declared.view.Content.TheVariants.{Shared, Unlocked}
use Rattle.manager_bench.proofs.Freeing.{holds_on, holds_relocked}
use Rattle.manager_tests.proofs.copying.copy_shared.Goals as goal

pub unpin-requires : goal.unpin-requires
unpin-requires g c =
    let m = c.args.manager.now in
    let i = c.args._number in
    let s = c.share-shared.ensures in
    let r = c.read_shared-place.ensures in
    let u = c.unshare-pinned.ensures in
    let shared = holds_relocked {L = g.row.L.Denot} {G = g.row.G.Denot} g.L.BlockLane.contents m Shared c.in_ok-pinned.pinned c.share-shared.result.pinned i c.pin.new.pass c.share-shared.new.self c.in_ok-pinned.ensures.pinned s.token s.belongs s.same.keeps s.tokens s.lock in
    let read = holds_on {L = g.row.L.Denot} {G = g.row.G.Denot} g.L.BlockLane.contents m Shared c.share-shared.result.pinned i c.share-shared.new.self c.read_shared-place.new.self shared r.belongs r.same r.tokens r.locks in
    holds_relocked {L = g.row.L.Denot} {G = g.row.G.Denot} g.L.BlockLane.contents m Unlocked c.share-shared.result.pinned c.unshare-pinned.result i c.read_shared-place.new.self c.unshare-pinned.new.self read u.token u.belongs u.same.keeps u.tokens u.lock
