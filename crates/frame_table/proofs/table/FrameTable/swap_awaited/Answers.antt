use Rattle.std.proofs.Common.{rules, arith, refl}
use Rattle.page_core.specs.Kinds.{set_waiter}
use Rattle.frame_table.specs.Kinds.{pages}
use Rattle.frame_table.specs.FrameSteps.{always}
use Rattle.frame_table.proofs.Told.{of_choice}
use Rattle.frame_table.proofs.HeldWords.{awaits_there, as_held}
use Rattle.frame_table.proofs.table.FrameTable.swap_awaited.Goals as goal

pub swap-requires : goal.swap-requires
swap-requires g c = (
  search rules,
  (let e = c.state_place.ensures in omega arith),
  rw (c.state_place.ensures, c.requires.kind) (awaits_there _ c.args.self.now.table.shared.key c.args._number _ _ _ _ _ _ c.requires.seat.inside c.requires.seat.live c.requires.view c.requires.may c.requires.new),
)

pub returns-clause-did : goal.returns-clause-did
returns-clause-did g c = as_held (pages (set_waiter c.args._number)) refl _ _ _ _ _ c.requires.view.held (of_choice _ (always (pages (set_waiter c.args._number))) c.requires.kind _ _ _ _ _ _ c.swap.ensures.2.1 c.state_place.ensures)
