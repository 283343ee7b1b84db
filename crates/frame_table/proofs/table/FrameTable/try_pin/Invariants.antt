use Rattle.pin_core.specs.Kinds.{pin}
use Rattle.frame_table.specs.Kinds.{pins}
use Rattle.frame_table.specs.FrameSteps.{if_found}
use Rattle.frame_table.proofs.table.FrameTable.try_pin.Given as goal

-- the pin is the caller's, for a ring or not
abbrev pub ghosts-swap_pin : goal.ghosts-swap_pin
ghosts-swap_pin g a = record { choice = if_found (pins (pin a._ring)) }
