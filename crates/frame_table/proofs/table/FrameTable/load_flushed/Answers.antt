use Rattle.std.proofs.Common.{rules, arith}
use Rattle.frame_table.proofs.WordSteps.{flushed_below, loads_flushed_there}
use Rattle.frame_table.proofs.table.FrameTable.load_flushed.Goals as goal

pub load-requires : goal.load-requires
load-requires g c = (search rules, (let e = c.flushed_place-at.ensures in let f = c.frames.ensures in omega arith), rw c.flushed_place-at.ensures (rw c.frames.ensures (loads_flushed_there _ c.args.self.now.table.shared.key _ _ _ c.requires.live)))

pub returns-clause-flushed : goal.returns-clause-flushed
returns-clause-flushed g c = flushed_below _ _ _ c.load.ensures.2.1
