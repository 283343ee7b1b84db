use Rattle.std.proofs.Common.{rules, arith}
use Rattle.frame_table.proofs.WordSteps.{loads_redo_there}
use Rattle.frame_table.proofs.table.FrameTable.redo_at.Goals as goal

pub load-requires : goal.load-requires
load-requires g c = (
  search rules,
  (let e = c.redo_place-at.ensures in let f = c.frames.ensures in omega arith),
  rw (c.redo_place-at.ensures, c.frames.ensures, c.requires.at) (loads_redo_there _ c.args.self.now.table.shared.key _ _ _ c.requires.seat.live c.requires.held),
)
