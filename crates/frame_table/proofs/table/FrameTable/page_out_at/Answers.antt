use Rattle.std.proofs.Common.{rules, arith}
use Rattle.frame_table.proofs.PageWork.{page_goes_out}
use Rattle.frame_table.proofs.table.FrameTable.page_out_at.Goals as goal

pub load-requires : goal.load-requires
load-requires g c = (search rules, (let e = c.content_place.ensures in let low = c.requires.seat.inside in omega arith), rw (c.requires.known.0, c.requires.known.1, c.requires.known.2, c.content_place.ensures) (page_goes_out _ c.args.self.now.table.shared.key _ _ _ _ c.requires.seat.inside c.requires.seat.live c.requires.can))
