use Rattle.std.proofs.Common.{rules, arith}
use Rattle.frame_table.proofs.Origins.{loads_end_held}
use Rattle.frame_table.proofs.table.FrameTable.end_at.Goals as goal

pub load-requires : goal.load-requires
load-requires g c = (
  search rules,
  (let e = c.end_place-at.ensures in let f = c.frames.ensures in omega arith),
  rw (c.end_place-at.ensures, c.frames.ensures, c.requires.what.0, c.requires.what.1, c.requires.what.2, c.requires.known.0, c.requires.known.1, c.requires.known.2) (loads_end_held _ c.args.self.now.table.shared.key _ _ _ c.requires.seat.live c.args._what c.requires.allowed),
)
