use Rattle.std.proofs.Common.{refl, ◌∙◌}
use Rattle.pin_core.specs.Kinds.{pin}
use Rattle.frame_table.specs.Kinds.{pins}
use Rattle.frame_table.specs.FrameSteps.{looking}
use Rattle.frame_table.proofs.Told.{few_pins, looked, looked_on, touches, touches_on, on_hit, on_miss}
use Rattle.frame_table.proofs.Marks.{did_marks}
use Rattle.frame_table.proofs.table.FrameTable.try_pin.Goals as goal

pub pinned-requires : goal.pinned-requires
pinned-requires g c = few_pins _ _ _ _ c.look-was.ensures.did

pub returns-else-now-was-clause-touches : goal.returns-else-now-was-clause-touches
returns-else-now-was-clause-touches g c = touches_on _ _ _ _ c.look-was.ensures.touches (touches looking (λ s f v. refl) _ _ _ _ (on_miss (pins (pin c.args.ring)) _ _ _ _ _ c.swap_pin-now.ensures.did c.if-now-was.false))

pub returns-else-now-was-clause-left : goal.returns-else-now-was-clause-left
returns-else-now-was-clause-left g c = looked_on _ _ _ c.look-was.ensures.link (looked _ _ _ _ (on_miss (pins (pin c.args.ring)) _ _ _ _ _ c.swap_pin-now.ensures.did c.if-now-was.false))

pub returns-else-now-was-clause-marks : goal.returns-else-now-was-clause-marks
returns-else-now-was-clause-marks g c = (did_marks looking tt _ _ _ _ (on_miss (pins (pin c.args.ring)) _ _ _ _ _ c.swap_pin-now.ensures.did c.if-now-was.false)) ∙ c.look-was.ensures.marks

pub returns-then-now-was-clause-touches : goal.returns-then-now-was-clause-touches
returns-then-now-was-clause-touches g c = touches_on _ _ _ _ c.look-was.ensures.touches (touches (pins (pin c.args.ring)) (λ s f v. refl) _ _ _ _ (on_hit (pins (pin c.args.ring)) _ _ _ _ _ c.swap_pin-now.ensures.did c.if-now-was.true))
