use Rattle.frame_table.proofs.table.FrameTable.load_counter.Given as goal

-- the counter
abbrev pub ghosts-counter_at : goal.ghosts-counter_at
ghosts-counter_at g a = record { number = a.number }
