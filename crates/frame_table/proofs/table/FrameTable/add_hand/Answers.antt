use Rattle.std.proofs.Common.{rules, arith}
use Rattle.frame_table.proofs.WordSteps.{adds_hand_there}
use Rattle.frame_table.proofs.table.FrameTable.add_hand.Goals as goal

pub fetch_add-requires : goal.fetch_add-requires
fetch_add-requires g c = (search rules, (let e = c.hand_place-at.ensures in let f = c.frames.ensures in omega arith), rw c.hand_place-at.ensures (rw c.frames.ensures (adds_hand_there _ c.args.self.now.table.shared.key _ _ _ c.requires.live)))
