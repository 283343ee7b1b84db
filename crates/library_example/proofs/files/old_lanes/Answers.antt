use Rattle.std.proofs.Common.{◌∙◌, ◌++◌, ◌∷◌, [], List, ap, subst, sym}
use Rattle.byte_devices.specs.declared.memory_log.MemLog.{MemLog}
use Rattle.byte_devices.specs.contracts.memory_log.MemLogLogDevice.TheImpl as mem_log
use Rattle.segment_store.specs.declared.memory_lane.MemLane.{MemLane}
use Rattle.segment_store.specs.contracts.memory_lane.MemLaneBlockLane.TheImpl as mem_lane
use Rattle.table_rule.specs.Shows.{AreLanes, devices}
use Rattle.library_example.specs.Files.{relations}
use Rattle.library_example.proofs.OldLanes.{complete}
use Rattle.library_example.proofs.files.old_lanes.Goals as goal

pub returns-clause-complete : goal.returns-clause-complete
returns-clause-complete c =
    let a = c.in_ok-old_lane.field-0 in
    let b = c.in_ok-old_lane-2.field-0 in
    let one = c.in_ok-push.ensures.items ∙ ap (λ (l : List MemLane). l ++ a ∷ []) c.new-lanes.ensures.items in
    let two = c.in_ok-push-2.ensures.items ∙ ap (λ (l : List MemLane). l ++ b ∷ []) one in
    subst (AreLanes {L = MemLane} {G = MemLog} (devices mem_lane.ghosts mem_log.ghosts) relations) (sym two)
    (complete a b c.in_ok-old_lane.ensures c.in_ok-old_lane-2.ensures mem_log.ghosts)
