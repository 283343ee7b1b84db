use Rattle.std.proofs.Common.{rules, arith}
use Rattle.frame_table.proofs.TagLoads.{loads_tag}
use Rattle.frame_table.proofs.table.FrameTable.load_packed.Goals as goal

pub load-requires : goal.load-requires
load-requires g c = (search rules, (let e = c.tag_place.ensures in omega arith), rw (c.tag_place.ensures, c.requires.known) (loads_tag _ c.args.self.now.table.shared.key _ _ _ _ c.requires.seat.inside c.requires.seat.live c.requires.right))

pub returns-clause-did : goal.returns-clause-did
returns-clause-did g c = c.load.ensures.2.0.1 c.args.frame c.tag_place.ensures
