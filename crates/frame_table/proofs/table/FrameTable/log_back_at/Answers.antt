use Rattle.std.proofs.Common.{rules, arith}
use Rattle.frame_table.proofs.LogWork.{log_comes_from}
use Rattle.frame_table.proofs.table.FrameTable.log_back_at.Goals as goal

pub load-requires : goal.load-requires
load-requires g c = (
  search rules,
  (let e = c.requires.place.0 in omega arith),
  rw (c.requires.known.0, c.requires.known.1, c.requires.known.2, c.requires.place.0) (log_comes_from _ c.args.self.now.table.shared.key _ _ c.args.seat.now.me _ c.args.log (rw (← c.requires.place.1, ← c.without_call-home.ensures) c.exchange-away.ensures.3) c.requires.seat.live c.requires.room g.met.G.LogDevice.faults_fit c.requires.may),
)
