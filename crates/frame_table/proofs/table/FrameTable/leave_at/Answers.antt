use Rattle.std.proofs.Common.{rules, arith}
use Rattle.frame_table.proofs.Taking.{leaves_there}
use Rattle.frame_table.proofs.table.FrameTable.leave_at.Goals as goal

pub store-requires : goal.store-requires
store-requires g c = (search rules, (let e = c.requires.place.1 in omega arith), rw (c.requires.place.0, c.requires.known) (leaves_there _ c.args.self.now.table.shared.key _ _ _ _ c.requires.seat.inside c.requires.seat.live c.requires.may))
