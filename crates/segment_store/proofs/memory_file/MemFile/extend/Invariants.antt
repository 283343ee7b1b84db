use Rattle.std.proofs.Common.{◌≡◌, ◌-◌, ◌*◌, ◌≤◌, max, vec_len}
use Rattle.segment_store.specs.Growth.{extended}
use Rattle.segment_store.specs.MemoryFile.{IsSameFile}
use Rattle.segment_store.specs.MemoryHost.{bytes_of}
use Rattle.segment_store.proofs.memory_file.MemFile.extend.Given as goal

abbrev pub invariant-loop-block : goal.invariant-loop-block
invariant-loop-block l = record {
  segments : bytes_of l.self.segments.items ≡ extended l.seg_blocks l.from (l.block - l.from) (bytes_of l.initial.self.segments.items);
  next : l.block ≤ l.seg_blocks * vec_len l.self.segments;
  within : l.block ≤ max l.from l.upto;
  same : IsSameFile l.initial.self l.self;
}
