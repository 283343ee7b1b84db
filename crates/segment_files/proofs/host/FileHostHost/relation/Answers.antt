use Rattle.std.proofs.Common.{refl}
use Rattle.segment_files.proofs.UnknownLanes.{unknown, unknown_theirs}
use Rattle.segment_files.proofs.host.FileHostHost.relation.Goals as goal

pub returns-in-Ok-clause-opened : goal.returns-in-Ok-clause-opened
returns-in-Ok-clause-opened g c = record {
  count = c.in-Ok.ensures.count;
  reads = c.in-Ok.ensures.lane_reads;
  writes = c.in-Ok.ensures.lane_writes;
  unmarked = λ k d within. refl;
  synced = c.in-Ok.ensures.synced;
  has = unknown c.in-Ok.opened.lanes.items _ _;
  theirs = unknown_theirs c.in-Ok.opened.lanes.items;
  there = tt;
  blocks = tt;
  holds = tt;
  only = tt;
  rooms = tt;
}
