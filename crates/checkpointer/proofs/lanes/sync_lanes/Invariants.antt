use Rattle.std.proofs.Common.{◌≡◌, ◌<◌, ◌≤◌, ℕ}
use Rattle.pin_core.specs.State.{lane_hold}
use Rattle.frame_table.specs.Seats.{lanes_in}
use Rattle.buffer_frames.specs.Working.{Made}
use Rattle.buffer_frames.specs.Syncs.{LeavesLane}
use Rattle.checkpointer.specs.Stages.{KeepsBackend, syncs_below}
use Rattle.checkpointer.proofs.lanes.sync_lanes.Given as goal

abbrev pub invariant-loop-lane : goal.invariant-loop-lane
invariant-loop-lane g l = record {
  keeps : KeepsBackend {L = g.row.L.Denot} {G = g.row.G.Denot} g.L.BlockLane.contents l.manager l.fn.pass l.pass;
  links : l.pass.view.links ≡ l.fn.pass.view.links;
  calls : Made (syncs_below l.lane) l.fn.pass.view l.pass.view;
  met : l.pass.view.met ≡ l.fn.pass.view.met;
  swept : (q : ℕ) → q < l.lane → l.fn.pass.view.upto ≤ (lane_hold l.pass.view q).swept;
  left : 0 < l.lane → (lane : ℕ) × LeavesLane (lanes_in l.manager.table) lane l.pass.view;
}
