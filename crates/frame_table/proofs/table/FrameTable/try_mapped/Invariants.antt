use Rattle.pin_core.specs.Kinds.{pin_mapped}
use Rattle.frame_table.specs.Kinds.{pins}
use Rattle.frame_table.specs.FrameSteps.{if_found}
use Rattle.frame_table.proofs.table.FrameTable.try_mapped.Given as goal

-- the tag, and whether the pin is for a ring
abbrev pub ghosts-swap_mapped : goal.ghosts-swap_mapped
ghosts-swap_mapped g a = record { choice = if_found (pins (pin_mapped a._tag a._ring)) }
