use Rattle.page_core.specs.Kinds.{set_waiter}
use Rattle.frame_table.specs.Kinds.{pages}
use Rattle.frame_table.specs.FrameSteps.{always}
use Rattle.frame_table.proofs.table.FrameTable.set_waiter.Given as goal

-- the number is the caller's
abbrev pub ghosts-swap_awaited : goal.ghosts-swap_awaited
ghosts-swap_awaited g a = record { choice = always (pages (set_waiter a._number)) }
