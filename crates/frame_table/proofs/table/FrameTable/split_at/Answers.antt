use Rattle.std.proofs.Common.{rules, arith}
use Rattle.frame_table.proofs.Splitting.{splits_there}
use Rattle.frame_table.proofs.table.FrameTable.split_at.Goals as goal

pub split_seat-requires : goal.split_seat-requires
split_seat-requires g c = (search rules, omega arith, splits_there _ c.args.self.now.table.shared.key _ _ _ c.requires.known c.requires.seat.1 c.requires.room)
