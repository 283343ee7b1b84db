use Rattle.frame_table.proofs.table.FrameTable.page_back.Given as goal

-- the frame, and the slot of its page
abbrev pub ghosts-page_back_at : goal.ghosts-page_back_at
ghosts-page_back_at g a = record { frame = a._frame; slot = a.slot }
