use Rattle.std.proofs.Common.{ℕ, ◌%◌, ap, length, rules}
use Rattle.std.proofs.Math.Seq.{map-set_same}
use Rattle.log_recovery.proofs.Faults.{none_fell_at, rose_on_err, same_on_ok}
use Rattle.log_recovery.proofs.Lanes.{writes_to}
use Rattle.log_recovery.proofs.Marking.{marks_written}
use Rattle.log_recovery.proofs.redo.write_to_lane.Goals as goal

pub returns-clause-writes : goal.returns-clause-writes
returns-clause-writes g c = writes_to {L = g.row.L.Denot} g.L.BlockLane.contents g.L.BlockLane.failed_writes c.args.tag c.args.page.now c.args.lanes.now (c.hash.result % length c.args.lanes.now) c.write.new.self c.index-lanes-place.result c.write.result
    (ap (λ (h : ℕ). h % length c.args.lanes.now) c.hash.ensures) (search rules) c.write.ensures.written

pub returns-clause-fault : goal.returns-clause-fault
returns-clause-fault g c = rose_on_err g.L.BlockLane.write_faults c.args.lanes.now (c.hash.result % length c.args.lanes.now) c.write.new.self c.index-lanes-place.result c.write.result (search rules) c.write.ensures.writes

pub returns-clause-quiet : goal.returns-clause-quiet
returns-clause-quiet g c = same_on_ok g.L.BlockLane.write_faults c.args.lanes.now (c.hash.result % length c.args.lanes.now) c.write.new.self c.index-lanes-place.result c.write.result c.write.ensures.writes

pub returns-clause-reads : goal.returns-clause-reads
returns-clause-reads g c = map-set_same g.L.BlockLane.read_faults c.args.lanes.now (c.hash.result % length c.args.lanes.now) c.write.new.self c.index-lanes-place.result c.write.ensures.reads

pub returns-clause-room : goal.returns-clause-room
returns-clause-room g c = map-set_same g.L.BlockLane.room c.args.lanes.now (c.hash.result % length c.args.lanes.now) c.write.new.self c.index-lanes-place.result c.write.ensures.room

pub returns-clause-later : goal.returns-clause-later
returns-clause-later g c = none_fell_at g.L.BlockLane.write_faults c.args.lanes.now (c.hash.result % length c.args.lanes.now) c.write.new.self c.index-lanes-place.result (search rules) c.write.ensures.writes.later

pub returns-clause-unsynced : goal.returns-clause-unsynced
returns-clause-unsynced g c = marks_written {L = g.row.L.Denot} g.L.BlockLane.unsynced c.args.lanes.now (c.hash.result % length c.args.lanes.now) c.write.new.self c.index-lanes-place.result (search rules) c.args.tag c.write.ensures.unsynced
