use Rattle.frame_table.proofs.table.FrameTable.log_back.Given as goal

-- the call that was made while the log was out, and what its device tells
abbrev pub ghosts-log_back_at : goal.ghosts-log_back_at
ghosts-log_back_at g a = record { slot = a.slot; call = a.log.call; bytes = g.G.LogDevice.bytes a.log.device; faults = g.G.LogDevice.faults a.log.device }
