use Rattle.std.proofs.Common.{map}
use Rattle.frame_table.proofs.table.FrameTable.look.Given as goal

-- the frame, and what the call knows of the table
abbrev pub ghosts-look_at : goal.ghosts-look_at
ghosts-look_at g a = let key = a.self.now.table.shared.key in record { frame = a._frame; relations = key.catalog.value; lanes = key.config.lanes; held = map g.L.BlockLane.contents key.lanes.value.items }
