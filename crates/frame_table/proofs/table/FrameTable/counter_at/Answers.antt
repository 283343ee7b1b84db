use Rattle.std.proofs.Common.{rules, arith}
use Rattle.frame_table.proofs.WordSteps.{loads_counter_there}
use Rattle.frame_table.proofs.table.FrameTable.counter_at.Goals as goal

pub load-requires : goal.load-requires
load-requires g c = (
  search rules,
  (let e = c.counter_place-at.ensures in let f = c.frames.ensures in let b = c.requires.below in omega arith),
  rw (c.counter_place-at.ensures, c.frames.ensures, c.requires.at) (loads_counter_there _ c.args.self.now.table.shared.key _ _ _ c.requires.seat.live c.args.number c.requires.below),
)
