use Rattle.page_core.specs.Kinds.{end_io}
use Rattle.frame_table.specs.Kinds.{pages}
use Rattle.frame_table.specs.FrameSteps.{always}
use Rattle.frame_table.proofs.table.FrameTable.finish_io.Given as goal

-- the end is the caller's
abbrev pub ghosts-swap_finished : goal.ghosts-swap_finished
ghosts-swap_finished g a = record { choice = always (pages (end_io a._end)) }
