use Rattle.std.proofs.Common.{rules, arith, refl, ap, ◌∙◌}
use Rattle.state_word.specs.Fields.{unlocked_fields}
use Rattle.page_core.specs.Kinds.{need_checkpoint}
use Rattle.frame_table.specs.Kinds.{pages}
use Rattle.frame_table.proofs.Told.{touches, link_is}
use Rattle.frame_table.proofs.HeldWords.{needs_there, as_held}
use Rattle.frame_table.proofs.Marks.{did_marks}
use Rattle.frame_table.proofs.table.FrameTable.need_checkpoint.Goals as goal

pub swap-requires : goal.swap-requires
swap-requires g c = (
  search rules,
  (let e = c.state_place.ensures in omega arith),
  rw c.state_place.ensures (needs_there _ c.args.self.now.table.shared.key _ _ _ _ _ _ c.requires.seat.inside c.requires.seat.live c.requires.view (c.unlock_with.ensures ∙ ap unlocked_fields c.checkpoint_needed.ensures)),
)

pub returns-clause-touches : goal.returns-clause-touches
returns-clause-touches g c = touches (pages need_checkpoint) (λ s f v. refl) _ _ _ _ (c.swap.ensures.2.1 c.args.frame c.state_place.ensures)

pub returns-clause-left_to_write : goal.returns-clause-left_to_write
returns-clause-left_to_write g c = link_is (pages need_checkpoint) _ _ _ _ (c.swap.ensures.2.1 c.args.frame c.state_place.ensures)

pub returns-clause-did : goal.returns-clause-did
returns-clause-did g c = as_held (pages need_checkpoint) refl _ _ _ _ _ c.requires.view.held (c.swap.ensures.2.1 c.args.frame c.state_place.ensures)

pub returns-clause-marks : goal.returns-clause-marks
returns-clause-marks g c = did_marks (pages need_checkpoint) (record { clean = refl; quiet = refl; open_ended = λ fr e. refl }) _ _ _ _ (c.swap.ensures.2.1 c.args.frame c.state_place.ensures)
