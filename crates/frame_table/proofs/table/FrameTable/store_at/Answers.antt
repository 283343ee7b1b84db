use Rattle.std.proofs.Common.{rules, arith}
use Rattle.frame_table.proofs.WordSteps.{stores_hint_there}
use Rattle.frame_table.proofs.table.FrameTable.store_at.Goals as goal

pub swap-requires : goal.swap-requires
swap-requires g c = (
  search rules,
  (let e = c.hint_place-at.ensures in let f = c.frames.ensures in let b = c.requires.below in omega arith),
  rw (c.hint_place-at.ensures, c.frames.ensures, c.requires.kind) (stores_hint_there _ c.args.self.now.table.shared.key _ _ _ c.requires.seat.live c.args.number c.args.value c.requires.below c.requires.named),
)
