use Rattle.std.proofs.Common.{[]}
use Rattle.frame_table.proofs.table.FrameTable.map_out.Given as goal

-- the partition, and the slot of its map
abbrev pub ghosts-out_at : goal.ghosts-out_at
ghosts-out_at g a = record { frames = a.self.now.table.shared.key.config.frames; partition = a._partition; slot = a.slot; entries = [] }
