use Rattle.relation_commands.specs.RecoverFiles.{catalog_of}
use Rattle.relation_commands.proofs.RedoEnds.{ends_short}
use Rattle.relation_commands.proofs.recover_command.redo_lanes.Goals as goal

pub returns-in_default : goal.returns-in_default
returns-in_default g c =
    ends_short g.L.BlockLane.contents g.L.BlockLane.failed_writes g.L.BlockLane.room g.L.BlockLane.read_faults g.L.BlockLane.write_faults g.S.Source.left g.S.Source.faults
    (catalog_of c.args.request.now.path.now) c.args.lanes.now c.args.source.now

pub returns-in_default-zeroed : goal.returns-in_default-zeroed
returns-in_default-zeroed g c =
    ends_short g.L.BlockLane.contents g.L.BlockLane.failed_writes g.L.BlockLane.room g.L.BlockLane.read_faults g.L.BlockLane.write_faults g.S.Source.left g.S.Source.faults
    (catalog_of c.args.request.now.path.now) c.args.lanes.now c.args.source.now
