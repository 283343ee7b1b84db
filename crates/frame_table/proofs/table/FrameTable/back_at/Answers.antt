use Rattle.std.proofs.Common.{rules, arith}
use Rattle.frame_table.proofs.Mapping.{comes_from}
use Rattle.frame_table.proofs.table.FrameTable.back_at.Goals as goal

pub load-requires : goal.load-requires
load-requires g c = (
  search rules,
  (let e = c.requires.place.0 in let low = c.requires.seat.inside in omega arith),
  rw (c.requires.known.0, c.requires.known.1, c.requires.place.0) (comes_from _ c.args.self.now.table.shared.key _ _ _ c.args.seat.now.me _ c.args.entries (rw (← c.requires.place.1) c.exchange-away.ensures.3) c.requires.seat.inside c.requires.seat.live c.requires.apart c.requires.may),
)
