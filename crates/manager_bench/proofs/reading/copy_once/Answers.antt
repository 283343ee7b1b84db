use Rattle.pin_core.specs.declared.view.Content.TheVariants.{Unlocked}
use Rattle.manager_bench.proofs.Freeing.{holds_on}
use Rattle.manager_bench.proofs.reading.copy_once.Goals as goal

pub unpin-requires : goal.unpin-requires
unpin-requires g c = let e = c.read_page-place.ensures in holds_on {L = g.row.L.Denot} {G = g.row.G.Denot} g.L.BlockLane.contents c.args.manager.now Unlocked c.in_ok-pinned.pinned c.args._number c.pin.new.pass c.read_page-place.new.self c.in_ok-pinned.ensures.pinned e.belongs e.same e.tokens e.locks
