use Rattle.std.proofs.Common.{◌≡◌}
use Rattle.std.proofs.lemmas.Result.{IfErr-weaker}
use Rattle.manager_bench.specs.Bench.{IsFree}
use Rattle.manager_bench.proofs.Freeing.{free_kept, holds_read}
use Rattle.manager_bench.proofs.reading.pin.Goals as goal

pub returns-clause-pinned : goal.returns-clause-pinned
returns-clause-pinned g c =
    let e = c.read_buffer.ensures in
    holds_read {L = g.row.L.Denot} {G = g.row.G.Denot} g.L.BlockLane.contents c.args.manager.now c.args.tag c.args._number c.args.pass.now c.read_buffer.new.self c.read_buffer.result c.requires e.belongs e.same e.locks e.tag e.pinned e.back

pub returns-clause-refused : goal.returns-clause-refused
returns-clause-refused g c =
    let m = c.args.manager.now in
    let p = c.args.pass.now in
    let q = c.read_buffer.new.self in
    let e = c.read_buffer.ensures in
    IfErr-weaker c.read_buffer.result (λ _. q.tokens ≡ p.tokens) (λ _. IsFree {L = g.row.L.Denot} {G = g.row.G.Denot} g.L.BlockLane.contents m c.args._number q)
    (λ why tokens. free_kept {L = g.row.L.Denot} {G = g.row.G.Denot} g.L.BlockLane.contents m c.args._number p q c.requires e.belongs e.same tokens e.locks) e.refused
