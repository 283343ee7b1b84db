use Rattle.frame_table.proofs.table.FrameTable.leave_turn.Given as goal

-- the latch
abbrev pub ghosts-leave_at : goal.ghosts-leave_at
ghosts-leave_at g a = record { turn = a._turn }
