use Rattle.std.proofs.Common.{◌≡◌, length}
use Rattle.std.specs.Prelude.{All, sum_by}
use Rattle.segment_store.specs.Contents.{no_marks}
use Rattle.segment_store.specs.History.{unsynced_in}
use Rattle.segment_files.proofs.host.FileHost.lanes_over.Given as goal

abbrev pub invariant-loop-i : goal.invariant-loop-i
invariant-loop-i g l = record {
  count : length l.lanes.items ≡ l._i;
  reads : sum_by (λ lane. lane.read_faults.count) l.lanes.items ≡ 0;
  writes : sum_by (λ lane. lane.write_faults.count) l.lanes.items ≡ 0;
  synced : All (λ lane. unsynced_in lane.history ≡ no_marks) l.lanes.items;
}
