use Rattle.std.proofs.Common.{rules, arith, refl}
use Rattle.pin_core.specs.Kinds.{pin_victim}
use Rattle.frame_table.specs.Kinds.{pins}
use Rattle.frame_table.proofs.HeldWords.{as_held}
use Rattle.frame_table.proofs.Holding.{victims_there}
use Rattle.frame_table.proofs.Marks.{did_marks}
use Rattle.frame_table.proofs.Told.{link_is, touches}
use Rattle.frame_table.proofs.table.FrameTable.victim_pin.Goals as goal

pub swap-requires : goal.swap-requires
swap-requires g c = (
  search rules,
  (let e = c.state_place.ensures in omega arith),
  rw c.state_place.ensures (victims_there _ c.args.self.now.table.shared.key _ _ _ _ _ _ c.requires.seat.inside c.requires.seat.live c.requires.held.held c.requires.absent c.requires.only c.requires.held.knows c.pinned_by_holder.ensures),
)

pub returns-clause-did : goal.returns-clause-did
returns-clause-did g c = as_held (pins pin_victim) refl _ _ _ _ _ c.requires.held.held (c.swap.ensures.2.1 c.args.frame c.state_place.ensures)

pub returns-clause-touches : goal.returns-clause-touches
returns-clause-touches g c = touches (pins pin_victim) (λ s f v. refl) _ _ _ _ (returns-clause-did g c)

pub returns-clause-pinned : goal.returns-clause-pinned
returns-clause-pinned g c = link_is (pins pin_victim) _ _ _ _ (returns-clause-did g c)

pub returns-clause-marks : goal.returns-clause-marks
returns-clause-marks g c = did_marks (pins pin_victim) tt _ _ _ _ (returns-clause-did g c)

pub pinned_by_holder-requires : goal.pinned_by_holder-requires
pinned_by_holder-requires g c = let a = c.requires.few in omega arith
