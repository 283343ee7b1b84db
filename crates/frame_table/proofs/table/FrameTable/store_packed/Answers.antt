use Rattle.std.proofs.Common.{rules, arith, ap, sym, ◌∙◌, Some}
use Rattle.block_tag.specs.Names.{unpacked_tag}
use Rattle.frame_table.proofs.Holding.{stores_as}
use Rattle.frame_table.proofs.Told.{of_choice}
use Rattle.frame_table.specs.FrameSteps.{always, storing}
use Rattle.frame_table.proofs.table.FrameTable.store_packed.Goals as goal

pub swap-requires : goal.swap-requires
swap-requires g c = (search rules, (let e = c.tag_place.ensures in omega arith), rw (c.tag_place.ensures, c.requires.kind, c.requires.packed.0) (stores_as _ c.args.self.now.table.shared.key _ _ _ c.args._tag _ c.requires.seat.inside c.requires.seat.live c.requires.alone (ap unpacked_tag (sym c.requires.packed.0) ∙ c.requires.packed.1) c.requires.tag))

pub returns-clause-did : goal.returns-clause-did
returns-clause-did g c = (_, of_choice _ (always (storing (Some c.args._tag))) c.requires.kind _ _ _ _ _ _ c.swap.ensures.2.1 c.tag_place.ensures)
