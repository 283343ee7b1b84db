use Rattle.std.proofs.Common.{map}
use Rattle.frame_table.proofs.table.FrameTable.load_log_end.Given as goal

-- what the load is for, as the caller says, and what it knows of the table
abbrev pub ghosts-end_at : goal.ghosts-end_at
ghosts-end_at g a = let key = a.self.now.table.shared.key in record { what = a._what; frames = key.config.frames; base = key.base; relations = key.catalog.value; lanes = key.config.lanes; held = map g.L.BlockLane.contents key.lanes.value.items }
