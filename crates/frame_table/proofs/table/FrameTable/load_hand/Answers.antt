use Rattle.std.proofs.Common.{rules, arith}
use Rattle.frame_table.proofs.WordSteps.{loads_hand_there}
use Rattle.frame_table.proofs.table.FrameTable.load_hand.Goals as goal

pub load-requires : goal.load-requires
load-requires g c = (search rules, (let e = c.hand_place-at.ensures in let f = c.frames.ensures in omega arith), rw c.hand_place-at.ensures (rw c.frames.ensures (loads_hand_there _ c.args.self.now.table.shared.key _ _ _ c.requires.live)))
