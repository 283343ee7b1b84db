use Rattle.table_rule.specs.Shows.{contents_at}
use Rattle.frame_table.proofs.table.FrameTable.lane_out.Given as goal

-- the table's relations and frames, and the lane and its slot
abbrev pub ghosts-lane_out_at : goal.ghosts-lane_out_at
ghosts-lane_out_at g a = record {
  opened = contents_at g.L.BlockLane.contents a.self.now.table.shared.key.lanes.value.items a._lane;
  relations = a.self.now.table.shared.key.catalog.value;
  lanes = a.self.now.table.shared.key.config.lanes;
  frames = a.self.now.table.shared.key.config.frames;
  lane = a._lane;
  slot = a.slot;
}
