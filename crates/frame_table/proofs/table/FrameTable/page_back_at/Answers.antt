use Rattle.std.proofs.Common.{rules, arith}
use Rattle.frame_table.proofs.PageWork.{page_comes_from}
use Rattle.frame_table.proofs.table.FrameTable.page_back_at.Goals as goal

pub load-requires : goal.load-requires
load-requires g c = (
  search rules,
  (let e = c.content_place.ensures in let low = c.requires.seat.inside in omega arith),
  rw (c.requires.known.0, c.content_place.ensures) (page_comes_from _ c.args.self.now.table.shared.key _ _ _ c.args.seat.now.me _ c.args.page (rw (← c.requires.known.1) c.exchange-away.ensures.3) c.requires.seat.inside c.requires.seat.live c.requires.can),
)
