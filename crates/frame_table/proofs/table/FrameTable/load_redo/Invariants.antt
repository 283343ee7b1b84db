use Rattle.frame_table.proofs.table.FrameTable.load_redo.Given as goal

-- where the log begins
abbrev pub ghosts-redo_at : goal.ghosts-redo_at
ghosts-redo_at g a = record { base = a.self.now.table.shared.key.base }
