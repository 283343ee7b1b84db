use Rattle.frame_table.specs.WordSteps.{store_hint}
use Rattle.frame_table.proofs.table.FrameTable.store_hint.Given as goal

-- the word and the value
abbrev pub ghosts-store_at : goal.ghosts-store_at
ghosts-store_at g a = record { kind = store_hint a.number a.value }
