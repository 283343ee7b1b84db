use Rattle.frame_table.proofs.table.FrameTable.split.Given as goal

-- where the log begins
abbrev pub ghosts-split_at : goal.ghosts-split_at
ghosts-split_at g a = record { base = a.self.now.table.shared.key.base }
