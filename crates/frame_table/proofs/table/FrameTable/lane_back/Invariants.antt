use Rattle.table_rule.specs.LaneCalls.{lane_devices}
use Rattle.frame_table.specs.LaneWork.{back_events, back_view}
use Rattle.frame_table.proofs.table.FrameTable.lane_back.Given as goal

-- the steps that the call's note says
abbrev pub ghosts-lane_back_at : goal.ghosts-lane_back_at
ghosts-lane_back_at g a = record {
  events = back_events (lane_devices g.L.BlockLane) a._lane a.noted.device a.noted.call;
  after = back_view (lane_devices g.L.BlockLane) a._lane a.noted.device a.noted.call;
}
