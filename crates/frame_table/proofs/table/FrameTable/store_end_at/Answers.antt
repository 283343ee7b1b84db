use Rattle.std.proofs.Common.{rules, arith}
use Rattle.frame_table.proofs.Entering.{stores_end}
use Rattle.frame_table.proofs.table.FrameTable.store_end_at.Goals as goal

pub store-requires : goal.store-requires
store-requires g c = (
  search rules,
  (let e = c.end_place-at.ensures in let f = c.frames.ensures in omega arith),
  rw (c.end_place-at.ensures, c.frames.ensures, c.requires.known.0, c.requires.known.1, c.requires.known.2) (stores_end _ c.args.self.now.table.shared.key _ _ _ _ _ c.requires.seat.live c.requires.may.0 c.requires.may.1 c.requires.may.2),
)
