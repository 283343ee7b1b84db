use Rattle.std.proofs.Common.{rules, arith}
use Rattle.pin_core.specs.Kinds.{pin_mapped}
use Rattle.frame_table.specs.Kinds.{pins}
use Rattle.frame_table.specs.FrameSteps.{if_found}
use Rattle.frame_table.proofs.Told.{of_choice}
use Rattle.frame_table.proofs.Holding.{maps_there}
use Rattle.frame_table.proofs.table.FrameTable.swap_mapped.Goals as goal

pub compare_exchange-requires : goal.compare_exchange-requires
compare_exchange-requires g c = (
  search rules,
  (let e = c.state_place.ensures in omega arith),
  rw (c.state_place.ensures, c.requires.kind) (maps_there _ c.args.self.now.table.shared.key c.args._tag c.args._ring _ _ _ _ _ _ c.requires.seat.inside c.requires.seat.live c.requires.absent c.requires.finds c.requires.was c.requires.new),
)

pub returns-clause-did : goal.returns-clause-did
returns-clause-did g c = of_choice _ (if_found (pins (pin_mapped c.args._tag c.args._ring))) c.requires.kind _ _ _ _ _ _ c.compare_exchange.ensures.2.1 c.state_place.ensures
