use Rattle.relation_commands.proofs.Sampled.{no_reads}
use Rattle.relation_commands.proofs.sampling.scan_lanes.Goals as goal

pub list-lanes-requires-clause-reads : goal.list-lanes-requires-clause-reads
list-lanes-requires-clause-reads g c κs within = no_reads g.L.BlockLane.contents g.L.BlockLane.failed_writes g.L.BlockLane.read_faults c.requires.told c.args.lanes.items
