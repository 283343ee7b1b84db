use Rattle.pin_core.specs.declared.view.Content.TheVariants.{Unlocked}
use Rattle.manager_bench.proofs.Freeing.{holds_on}
use Rattle.manager_bench.proofs.putting.flush_once.Goals as goal

pub unpin-requires : goal.unpin-requires
unpin-requires g c =
    let e = c.flush_frame-flushed.ensures in
    holds_on {L = g.row.L.Denot} {G = g.row.G.Denot} g.L.BlockLane.contents c.args.manager.now Unlocked c.in-Ok.pinned c.args._number c.pin.new.pass c.flush_frame-flushed.new.self c.in-Ok.ensures.pinned e.belongs e.same e.tokens e.locks
