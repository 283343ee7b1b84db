use Rattle.std.proofs.Common.{ℕ, ◌%◌, ap, length, rules}
use Rattle.std.proofs.Math.Seq.{map-set_same}
use Rattle.lane_survey.proofs.Surveys.{rose_at}
use Rattle.lane_survey.proofs.surveying.read_from_lane.Goals as goal

pub returns-in-Ok-clause-same : goal.returns-in-Ok-clause-same
returns-in-Ok-clause-same g c =
    let q = c.hash.result % length c.args.lanes.now in
    record {
      contents_same = map-set_same g.L.BlockLane.contents c.args.lanes.now q c.read.new.self c.index-lanes-place.result c.read.ensures.contents;
      failed_same = map-set_same g.L.BlockLane.failed_writes c.args.lanes.now q c.read.new.self c.index-lanes-place.result c.read.ensures.failed;
      unsynced_same = map-set_same g.L.BlockLane.unsynced c.args.lanes.now q c.read.new.self c.index-lanes-place.result c.read.ensures.unsynced;
      writes_same = map-set_same g.L.BlockLane.write_faults c.args.lanes.now q c.read.new.self c.index-lanes-place.result c.read.ensures.writes;
    }

pub returns-in-Ok-clause-ok : goal.returns-in-Ok-clause-ok
returns-in-Ok-clause-ok g c =
    map-set_same g.L.BlockLane.read_faults c.args.lanes.now (c.hash.result % length c.args.lanes.now) c.read.new.self c.index-lanes-place.result c.in-Ok.ensures.reads.ok

pub returns-in-Err-clause-same : goal.returns-in-Err-clause-same
returns-in-Err-clause-same g c =
    let q = c.hash.result % length c.args.lanes.now in
    record {
      contents_same = map-set_same g.L.BlockLane.contents c.args.lanes.now q c.read.new.self c.index-lanes-place.result c.read.ensures.contents;
      failed_same = map-set_same g.L.BlockLane.failed_writes c.args.lanes.now q c.read.new.self c.index-lanes-place.result c.read.ensures.failed;
      unsynced_same = map-set_same g.L.BlockLane.unsynced c.args.lanes.now q c.read.new.self c.index-lanes-place.result c.read.ensures.unsynced;
      writes_same = map-set_same g.L.BlockLane.write_faults c.args.lanes.now q c.read.new.self c.index-lanes-place.result c.read.ensures.writes;
    }

pub returns-in-Err-clause-fault : goal.returns-in-Err-clause-fault
returns-in-Err-clause-fault g c =
    rose_at g.L.BlockLane.read_faults c.args.tag c.args.lanes.now (c.hash.result % length c.args.lanes.now) c.read.new.self c.index-lanes-place.result
    (ap (λ (h : ℕ). h % length c.args.lanes.now) c.hash.ensures) (search rules) c.in-Err.ensures.reads.failed
