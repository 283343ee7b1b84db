use Rattle.std.proofs.Common.{ap}
use Rattle.pin_core.specs.declared.view.View.{View}
use Rattle.frame_table.proofs.LaneTrips.{is_noted, still_swept}
use Rattle.frame_table.proofs.table.FrameTable.lane_back.Goals as goal

pub returns-clause-noted : goal.returns-clause-noted
returns-clause-noted g c = is_noted _ _ _ _ _ _ c.requires.may.may (ap (λ (v : View). v.links) c.lane_back_at.ensures.view)

pub returns-clause-swept : goal.returns-clause-swept
returns-clause-swept g c = still_swept c.args.noted.call c.args.lane c.args.seat.now.me.0 c.lane_back_at.new.seat.me.0 (ap (λ (v : View). v.lanes) c.lane_back_at.ensures.view)
