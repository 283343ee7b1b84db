use Rattle.std.proofs.Common.{rules, arith}
use Rattle.frame_table.proofs.Splitting.{joins_there}
use Rattle.frame_table.proofs.table.FrameTable.join.Goals as goal

pub join_seat-requires : goal.join_seat-requires
join_seat-requires g c = (search rules, search rules, search rules, omega arith, joins_there _ c.args.self.now.table.shared.key _ _ _ _ c.requires.seat.1 c.requires.other.2 c.requires.free)
