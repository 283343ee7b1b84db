use Rattle.std.proofs.Common.{rules, arith}
use Rattle.frame_table.proofs.Holding.{erases_there}
use Rattle.frame_table.proofs.table.FrameTable.store_none.Goals as goal

pub swap-requires : goal.swap-requires
swap-requires g c = (search rules, (let e = c.tag_place.ensures in omega arith), rw c.tag_place.ensures (erases_there _ c.args.self.now.table.shared.key _ _ _ _ c.requires.seat.inside c.requires.seat.live c.requires.alone c.requires.tag))

pub returns-clause-did : goal.returns-clause-did
returns-clause-did g c = (_, c.swap.ensures.2.1 c.args.frame c.tag_place.ensures)
