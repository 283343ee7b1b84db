use Rattle.std.proofs.Common.{rules, arith}
use Rattle.frame_table.proofs.Origins.{looks_held}
use Rattle.frame_table.proofs.table.FrameTable.look_at.Goals as goal

pub load-requires : goal.load-requires
load-requires g c = (
  search rules,
  (let e = c.state_place.ensures in omega arith),
  rw (c.state_place.ensures, c.requires.frame, c.requires.known.0, c.requires.known.1, c.requires.known.2) (looks_held _ c.args.self.now.table.shared.key _ _ _ _ c.requires.seat.inside c.requires.seat.live),
)

pub returns-clause-did : goal.returns-clause-did
returns-clause-did g c = c.load.ensures.2.0.1 c.args._frame c.state_place.ensures
