use Rattle.frame_table.proofs.table.FrameTable.page_out.Given as goal

-- the frame, and the slot of its page
abbrev pub ghosts-page_out_at : goal.ghosts-page_out_at
ghosts-page_out_at g a = record { frame = a._frame; slot = a.slot }
