use Rattle.std.proofs.Common.{sym, subst}
use Rattle.pin_core.specs.declared.view.Content.TheVariants as lock
use Rattle.backend_pass.specs.declared.tokens.Exclusive.{Exclusive}
use Rattle.manager_bench.specs.Bench.{IsHolding}
use Rattle.manager_bench.proofs.Freeing.{holds_put, holds_relocked}
use Rattle.manager_bench.proofs.putting.read_and_put.Goals as goal

pub unpin-requires : goal.unpin-requires
unpin-requires g c =
    let m = c.args.manager.now in
    let i = c.args._number in
    let e = c.exclusive-token.ensures in
    let p = c.put-end.ensures in
    let u = c.unexclusive-pinned.ensures in
    let token = c.exclusive-token.result in
    let taken = holds_relocked {L = g.row.L.Denot} {G = g.row.G.Denot} g.L.BlockLane.contents m lock.Exclusive c.in-Ok.pinned token.pinned i c.pin.new.pass c.exclusive-token.new.self c.in-Ok.ensures.pinned e.token e.belongs e.same.keeps e.tokens e.lock in
    let put = holds_put {L = g.row.L.Denot} {G = g.row.G.Denot} g.L.BlockLane.contents m lock.Exclusive token.pinned i c.exclusive-token.new.self c.put-end.new.self taken p.belongs p.same p.tokens p.locks in
    let same = subst (λ (x : Exclusive). IsHolding {L = g.row.L.Denot} {G = g.row.G.Denot} g.L.BlockLane.contents lock.Exclusive x.pinned m i c.put-end.new.self) (sym p.token) put in
    holds_relocked {L = g.row.L.Denot} {G = g.row.G.Denot} g.L.BlockLane.contents m lock.Unlocked c.put-end.new.exclusive.pinned c.unexclusive-pinned.result i c.put-end.new.self c.unexclusive-pinned.new.self same u.token u.belongs u.same.keeps u.tokens u.lock
