use Rattle.std.proofs.Common.{ap}
use Rattle.pin_core.specs.declared.view.View.{View}
use Rattle.wal_flush.proofs.Views.{logged_on}
use Rattle.wal_flush.proofs.Rising.{opens_rise}
use Rattle.wal_flush.proofs.LogSteps.{opened_hold, opens_later}
use Rattle.wal_flush.proofs.outings.take_end.Goals as goal

pub returns-clause-held : goal.returns-clause-held
returns-clause-held g c = opened_hold _ _ _ record { held = c.take_turn.new.seat.me.0; takes = c.take_turn.ensures.did; loads = c.load_log_end.ensures.did } c.requires.free

pub returns-clause-logged : goal.returns-clause-logged
returns-clause-logged g c = logged_on g.L.BlockLane.contents c.args.table.now _ c.args.seat.now.me.0 c.take_turn.new.seat.me.0 (ap (λ (x : View). x.links) c.take_turn.ensures.work) c.load_log_end.ensures.logged

pub returns-clause-grows : goal.returns-clause-grows
returns-clause-grows g c = (opens_rise _ _ _ record { held = c.take_turn.new.seat.me.0; takes = c.take_turn.ensures.did; loads = c.load_log_end.ensures.did }).grows

pub returns-clause-later : goal.returns-clause-later
returns-clause-later g c = opens_later _ _ _ record { held = c.take_turn.new.seat.me.0; takes = c.take_turn.ensures.did; loads = c.load_log_end.ensures.did }
