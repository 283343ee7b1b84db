use Rattle.std.proofs.Common.{◌<◌, List, map, arith}
use Rattle.std.proofs.lemmas.Result.{IfOk-weaker}
use Rattle.byte_devices.specs.contracts.memory_log.MemLogLogDevice.TheImpl as mem_log
use Rattle.segment_store.specs.contracts.memory_lane.MemLaneBlockLane.TheImpl as mem_lane
use Rattle.table_rule.specs.Shows.{devices}
use Rattle.library_example.proofs.Returning.{can_recover}
use Rattle.library_example.proofs.run.Goals as goal

pub returns-in_ok-given-in-Ok-clause-placed : goal.returns-in_ok-given-in-Ok-clause-placed
returns-in_ok-given-in-Ok-clause-placed g c =
    let x = c.in_ok-given-in-Ok.ensures in
    (can_recover (devices mem_lane.ghosts mem_log.ghosts) c.in-Ok.manager _ _ _ _ _
    c.in-Ok.ensures.opened (omega arith) c.requires.placed x.0 _ _ x.1.closed).1

pub returns-in-Ok-2-clause-placed : goal.returns-in-Ok-2-clause-placed
returns-in-Ok-2-clause-placed g c = IfOk-weaker c.work_and_close.result _ _
    (λ given x. (can_recover (devices mem_lane.ghosts mem_log.ghosts) c.in-Ok.manager _ _ _ _ _
    c.in-Ok.ensures.opened (omega arith) c.requires.placed x.0 _ _ x.1.closed).1)
    c.work_and_close.ensures
