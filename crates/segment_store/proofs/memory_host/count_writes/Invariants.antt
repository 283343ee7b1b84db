use Rattle.std.proofs.Common.{take}
use Rattle.std.specs.Prelude.{sum_by}
use Rattle.byte_devices.specs.Faults.{Added}
use Rattle.segment_store.proofs.memory_host.count_writes.Given as goal

abbrev pub invariant-loop-lane : goal.invariant-loop-lane
invariant-loop-lane l = Added l.initial.faults.count (sum_by (λ lane. lane.write_faults.count) (take l.lane-index l.lanes)) l.faults.count
