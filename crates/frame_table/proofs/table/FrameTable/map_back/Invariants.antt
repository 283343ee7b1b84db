use Rattle.std.proofs.Common.{map}
use Rattle.table_rule.specs.Shows.{entry_of}
use Rattle.frame_table.proofs.table.FrameTable.map_back.Given as goal

-- the partition, and the entries with which its map comes back
abbrev pub ghosts-back_at : goal.ghosts-back_at
ghosts-back_at g a = record { frames = a.self.now.table.shared.key.config.frames; partition = a._partition; slot = a.slot; entries = map entry_of a.entries.items }
