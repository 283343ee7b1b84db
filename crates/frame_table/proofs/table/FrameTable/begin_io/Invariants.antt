use Rattle.frame_table.specs.Kinds.{pages}
use Rattle.frame_table.specs.FrameSteps.{always}
use Rattle.frame_table.specs.Content.{start_of}
use Rattle.frame_table.proofs.table.FrameTable.begin_io.Given as goal

-- input or output, as the caller says
abbrev pub ghosts-swap_begun : goal.ghosts-swap_begun
ghosts-swap_begun g a = record { choice = always (pages (start_of a._input)) }
