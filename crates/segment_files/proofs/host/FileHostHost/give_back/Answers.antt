use Rattle.std.proofs.Common.{arith}
use Rattle.std.proofs.lemmas.Grind.{common_steps}
use Rattle.std.proofs.lemmas.List.Sums.{sum_by_more}
use Rattle.segment_files.proofs.host.FileHostHost.give_back.Goals as goal

pub loop-lane-preserved : goal.loop-lane-preserved
loop-lane-preserved g c =
    let lanes = c.deref-lane-items.result.now in
    let place = c.loop-lane.lane-index in
    let lane = c.lane-item.result in
    record {
      reads = grind (
        arith,
        common_steps,
        sum_by_more (λ lane. lane.read_faults.count) lanes place lane c.loop-lane-test.true,
        c.lane-item.is,
        c.read_faults.ensures,
        c.add.ensures,
        c.loop-lane.invariant.reads,
      );
      writes = grind (
        arith,
        common_steps,
        sum_by_more (λ lane. lane.write_faults.count) lanes place lane c.loop-lane-test.true,
        c.lane-item.is,
        c.write_faults.ensures,
        c.add-in-loop-lane.ensures,
        c.loop-lane.invariant.writes,
      );
      logs = c.loop-lane.invariant.logs;
    }
