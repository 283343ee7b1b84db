use Rattle.frame_table.proofs.table.FrameTable.store_log_end.Given as goal

-- the frame, and the log's end
abbrev pub ghosts-store_end_at : goal.ghosts-store_end_at
ghosts-store_end_at g a = record { relations = a.self.now.table.shared.key.catalog.value; frame = a._frame; end = a.end }
