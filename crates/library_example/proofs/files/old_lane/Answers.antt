use Rattle.library_example.proofs.OldLanes.{new_lane}
use Rattle.library_example.proofs.files.old_lane.Goals as goal

pub lay_out-requires : goal.lay_out-requires
lay_out-requires c = record { only = new_lane c.args.number c.new-lane.result c.new-lane.ensures.pages c.new-lane.ensures.failed }
