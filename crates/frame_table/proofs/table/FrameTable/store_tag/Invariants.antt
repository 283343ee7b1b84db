use Rattle.std.proofs.Common.{Some}
use Rattle.frame_table.specs.FrameSteps.{always, storing}
use Rattle.frame_table.proofs.table.FrameTable.store_tag.Given as goal

-- the tag that is stored
abbrev pub ghosts-store_packed : goal.ghosts-store_packed
ghosts-store_packed g a = record { choice = always (storing (Some a._tag)) }
