use Rattle.std.proofs.Common.{refl, ap, ◌∙◌}
use Rattle.state_word.specs.Fields.{unlocked_fields}
use Rattle.page_core.specs.Kinds.{set_waiter}
use Rattle.frame_table.specs.Kinds.{pages}
use Rattle.frame_table.proofs.Told.{touches, link_is}
use Rattle.frame_table.proofs.Marks.{did_marks}
use Rattle.frame_table.proofs.table.FrameTable.set_waiter.Goals as goal

pub swap_awaited-requires-clause-new : goal.swap_awaited-requires-clause-new
swap_awaited-requires-clause-new g c = c.unlock_with.ensures ∙ ap unlocked_fields c.waiter_set.ensures

pub returns-clause-touches : goal.returns-clause-touches
returns-clause-touches g c = touches (pages (set_waiter c.args.number)) (λ s f v. refl) _ _ _ _ c.swap_awaited.ensures.did

pub returns-clause-waits : goal.returns-clause-waits
returns-clause-waits g c = link_is (pages (set_waiter c.args.number)) _ _ _ _ c.swap_awaited.ensures.did

pub returns-clause-marks : goal.returns-clause-marks
returns-clause-marks g c = did_marks (pages (set_waiter c.args.number)) (record { clean = refl; quiet = refl; open_ended = λ fr e. refl }) _ _ _ _ c.swap_awaited.ensures.did
