use Rattle.std.proofs.Common.{rules, arith}
use Rattle.frame_table.proofs.Mapping.{goes_out}
use Rattle.frame_table.proofs.table.FrameTable.out_at.Goals as goal

pub load-requires : goal.load-requires
load-requires g c = (search rules, (let e = c.requires.place.0 in let low = c.requires.seat.inside in omega arith), rw (c.requires.known.0, c.requires.known.1, c.requires.known.2, c.requires.place.0, c.requires.place.1) (goes_out _ c.args.self.now.table.shared.key _ _ _ _ c.requires.seat.inside c.requires.seat.live c.requires.held.0 c.requires.held.1))
