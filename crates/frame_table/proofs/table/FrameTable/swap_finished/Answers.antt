use Rattle.std.proofs.Common.{rules, arith, refl}
use Rattle.page_core.specs.Kinds.{end_io}
use Rattle.frame_table.specs.Kinds.{pages}
use Rattle.frame_table.specs.FrameSteps.{always}
use Rattle.frame_table.proofs.Told.{of_choice}
use Rattle.frame_table.proofs.HeldWords.{finishes_there, as_held}
use Rattle.frame_table.proofs.table.FrameTable.swap_finished.Goals as goal

pub swap-requires : goal.swap-requires
swap-requires g c = (
  search rules,
  (let e = c.state_place.ensures in omega arith),
  rw (c.state_place.ensures, c.requires.kind) (finishes_there _ c.args.self.now.table.shared.key c.args._end _ _ _ _ _ _ c.requires.seat.inside c.requires.seat.live c.requires.view c.requires.no_write c.requires.new),
)

pub returns-clause-did : goal.returns-clause-did
returns-clause-did g c = as_held (pages (end_io c.args._end)) refl _ _ _ _ _ c.requires.view.held (of_choice _ (always (pages (end_io c.args._end))) c.requires.kind _ _ _ _ _ _ c.swap.ensures.2.1 c.state_place.ensures)
