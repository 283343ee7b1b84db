use Rattle.std.proofs.Common.{rules, arith}
use Rattle.frame_table.proofs.Words.{locks_there}
use Rattle.frame_table.proofs.table.FrameTable.or_lock.Goals as goal

pub fetch_or-requires : goal.fetch_or-requires
fetch_or-requires g c = (search rules, (let e = c.state_place.ensures in omega arith), rw c.state_place.ensures (locks_there _ c.args.self.now.table.shared.key _ _ _ _ c.requires.seat.inside c.requires.seat.live c.requires.headless))
