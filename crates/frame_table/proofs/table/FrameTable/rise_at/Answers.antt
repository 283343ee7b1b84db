use Rattle.std.proofs.Common.{rules, arith}
use Rattle.frame_table.proofs.WordSteps.{adds_counter_there}
use Rattle.frame_table.proofs.table.FrameTable.rise_at.Goals as goal

pub fetch_add-requires : goal.fetch_add-requires
fetch_add-requires g c = (
  search rules,
  (let e = c.counter_place-at.ensures in let f = c.frames.ensures in let b = c.requires.below in omega arith),
  rw (c.counter_place-at.ensures, c.frames.ensures, c.requires.kind) (adds_counter_there _ c.args.self.now.table.shared.key _ _ _ c.requires.seat.live c.args.number c.args.more c.requires.below c.requires.room),
)
