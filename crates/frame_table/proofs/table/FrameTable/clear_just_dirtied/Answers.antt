use Rattle.std.proofs.Common.{rules, arith, refl, ap, ◌∙◌}
use Rattle.state_word.specs.Fields.{unlocked_fields}
use Rattle.page_core.specs.Kinds.{clear_just_dirtied}
use Rattle.frame_table.specs.Kinds.{pages}
use Rattle.frame_table.proofs.Told.{touches, link_is}
use Rattle.frame_table.proofs.HeldWords.{clears_just_there, as_held}
use Rattle.frame_table.proofs.Marks.{did_marks}
use Rattle.frame_table.proofs.table.FrameTable.clear_just_dirtied.Goals as goal

pub swap-requires : goal.swap-requires
swap-requires g c = (
  search rules,
  (let e = c.state_place.ensures in omega arith),
  rw c.state_place.ensures (clears_just_there _ c.args.self.now.table.shared.key _ _ _ _ _ _ c.requires.seat.inside c.requires.seat.live c.requires.view (c.unlock_with.ensures ∙ ap unlocked_fields c.just_dirtied_cleared.ensures)),
)

pub returns-clause-touches : goal.returns-clause-touches
returns-clause-touches g c = touches (pages clear_just_dirtied) (λ s f v. refl) _ _ _ _ (c.swap.ensures.2.1 c.args.frame c.state_place.ensures)

pub returns-clause-unlocked : goal.returns-clause-unlocked
returns-clause-unlocked g c = link_is (pages clear_just_dirtied) _ _ _ _ (c.swap.ensures.2.1 c.args.frame c.state_place.ensures)

pub returns-clause-did : goal.returns-clause-did
returns-clause-did g c = as_held (pages clear_just_dirtied) refl _ _ _ _ _ c.requires.view.held (c.swap.ensures.2.1 c.args.frame c.state_place.ensures)

pub returns-clause-marks : goal.returns-clause-marks
returns-clause-marks g c = did_marks (pages clear_just_dirtied) (record { clean = refl; quiet = refl; open_ended = λ fr e. refl }) _ _ _ _ (c.swap.ensures.2.1 c.args.frame c.state_place.ensures)
