use Rattle.std.proofs.Common.{◌≡◌, take}
use Rattle.std.specs.Prelude.{sum_by}
use Rattle.byte_devices.specs.Faults.{Added}
use Rattle.segment_files.proofs.host.FileHostHost.give_back.Given as goal

abbrev pub invariant-loop-lane : goal.invariant-loop-lane
invariant-loop-lane g l = record {
  reads : Added l.initial.self.read_faults.count
      (sum_by (λ lane. lane.read_faults.count) (take l.lane-index l.lane-items))
      l.self.read_faults.count;
  writes : Added l.initial.self.write_faults.count
      (sum_by (λ lane. lane.write_faults.count) (take l.lane-index l.lane-items))
      l.self.write_faults.count;
  logs : l.self.log_faults ≡ l.initial.self.log_faults;
}
