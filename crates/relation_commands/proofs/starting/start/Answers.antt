use Rattle.page_jobs.proofs.Starting.{are_lanes}
use Rattle.relation_commands.proofs.starting.start.Goals as goal

pub start-requires-clause-devices : goal.start-requires-clause-devices
start-requires-clause-devices g c = are_lanes _ c.args.relation.fork c.args.relation.blocks c.in-Ok.catalog c.in-Ok.ensures.catalog c.args.lanes.items c.requires.unmarked c.requires.has
