use Rattle.std.proofs.Common.{rules, arith}
use Rattle.frame_table.proofs.LaneTrips.{comes_back}
use Rattle.frame_table.proofs.table.FrameTable.lane_back_at.Goals as goal

pub load-requires : goal.load-requires
load-requires g c = (
  search rules,
  (let e = c.requires.place.0 in let low = c.requires.seat.inside in let few = c.args.self.now.few in omega arith),
  rw (c.requires.known.0, c.requires.known.1, c.requires.place.0) (comes_back _ c.args.self.now.table.shared.key _ _ _ c.args.seat.now.me _ c.args.noted c.without_call-home.result (rw (← c.requires.place.1) c.exchange-away.ensures.3) c.args.self.now.counted c.requires.seat.inside c.requires.seat.live c.without_call-home.ensures.number c.without_call-home.ensures.device c.without_call-home.ensures.call c.requires.may g.met.L.BlockLane.read_faults_fit g.met.L.BlockLane.write_faults_fit),
)
