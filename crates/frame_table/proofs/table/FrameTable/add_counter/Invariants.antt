use Rattle.frame_table.specs.WordSteps.{add_counter}
use Rattle.frame_table.proofs.table.FrameTable.add_counter.Given as goal

-- the counter, and how much
abbrev pub ghosts-rise_at : goal.ghosts-rise_at
ghosts-rise_at g a = record { kind = add_counter a.number a.more }
