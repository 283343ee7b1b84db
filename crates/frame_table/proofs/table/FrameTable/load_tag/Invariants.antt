use Rattle.frame_table.proofs.table.FrameTable.load_tag.Given as goal

-- the relations of the table
abbrev pub ghosts-load_packed : goal.ghosts-load_packed
ghosts-load_packed g a = record { relations = a.self.now.table.shared.key.catalog.value }
