use Rattle.std.proofs.Common.{rules, arith}
use Rattle.frame_table.proofs.Taking.{takes_there}
use Rattle.frame_table.proofs.table.FrameTable.try_take.Goals as goal

pub compare_exchange-requires : goal.compare_exchange-requires
compare_exchange-requires g c = (search rules, (let e = c.requires.place.1 in omega arith), rw (c.requires.place.0, c.requires.known) (takes_there _ c.args.self.now.table.shared.key _ _ _ _ c.requires.seat.inside c.requires.seat.live))
