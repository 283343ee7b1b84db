use Rattle.frame_table.specs.Seats.{frames_of}
use Rattle.frame_table.proofs.table.FrameTable.load_hint.Given as goal

-- the word
abbrev pub ghosts-hint_at : goal.ghosts-hint_at
ghosts-hint_at g a = record { frames = frames_of a.self.now; number = a.number }
