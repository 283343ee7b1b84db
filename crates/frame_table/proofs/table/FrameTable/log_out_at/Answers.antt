use Rattle.std.proofs.Common.{rules, arith}
use Rattle.frame_table.proofs.LogWork.{log_goes_out}
use Rattle.frame_table.proofs.table.FrameTable.log_out_at.Goals as goal

pub load-requires : goal.load-requires
load-requires g c = (search rules, (let e = c.requires.place.0 in omega arith), rw (c.requires.known, c.requires.place.0, c.requires.place.1) (log_goes_out _ c.args.self.now.table.shared.key _ _ _ c.requires.seat.live c.requires.held.0 c.requires.held.1))
