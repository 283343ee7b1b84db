use Rattle.std.proofs.Common.{rules, arith, refl, ◌∙◌, ap}
use Rattle.state_word.specs.Fields.{unlocked_fields}
use Rattle.pin_core.specs.Kinds.{assign}
use Rattle.frame_table.specs.Kinds.{pins}
use Rattle.frame_table.proofs.HeldWords.{as_held}
use Rattle.frame_table.proofs.Holding.{assigned_after, assigned_tag, assigns_there}
use Rattle.frame_table.proofs.Marks.{did_marks}
use Rattle.frame_table.proofs.Told.{touches}
use Rattle.frame_table.proofs.table.FrameTable.assign.Goals as goal

pub swap-requires : goal.swap-requires
swap-requires g c = (
  search rules,
  (let e = c.state_place.ensures in omega arith),
  rw c.state_place.ensures (assigns_there _ c.args.self.now.table.shared.key _ _ _ _ _ _ c.requires.seat.inside c.requires.seat.live c.requires.held.held c.requires.stored c.requires.held.knows (c.unlock_with.ensures ∙ ap unlocked_fields c.assigned.ensures)),
)

pub returns-clause-did : goal.returns-clause-did
returns-clause-did g c = as_held (pins assign) refl _ _ _ _ _ c.requires.held.held (c.swap.ensures.2.1 c.args.frame c.state_place.ensures)

pub returns-clause-touches : goal.returns-clause-touches
returns-clause-touches g c = touches (pins assign) (λ s f v. refl) _ _ _ _ (returns-clause-did g c)

pub returns-clause-assigned : goal.returns-clause-assigned
returns-clause-assigned g c = assigned_after _ _ _ _ (returns-clause-did g c)

pub returns-clause-marks : goal.returns-clause-marks
returns-clause-marks g c = did_marks (pins assign) tt _ _ _ _ (returns-clause-did g c)

pub returns-clause-tag : goal.returns-clause-tag
returns-clause-tag g c = assigned_tag _ _ _ _ (returns-clause-did g c)
