use Rattle.std.proofs.Common.{rules, arith, ap}
use Rattle.atomic_table.specs.Table.{Me}
use Rattle.pin_core.specs.declared.view.View.{View}
use Rattle.table_rule.specs.declared.value.Value.TheVariants as value
use Rattle.frame_table.proofs.LaneTrips.{goes_out, in_hand, went_out}
use Rattle.frame_table.proofs.table.FrameTable.lane_out_at.Goals as goal

pub load-requires : goal.load-requires
load-requires g c = (
  search rules,
  (let e = c.requires.place.0 in let low = c.requires.seat.inside in let few = c.args.self.now.few in omega arith),
  rw (c.requires.opened, c.requires.lane.0, c.requires.lane.1, c.requires.lane.2, c.requires.lane.3, c.requires.lane.4, c.requires.place.0, c.requires.place.1) (goes_out _ c.args.self.now.table.shared.key _ _ _ _ c.args.self.now.counted c.requires.seat.inside c.requires.seat.live c.requires.held.0 c.requires.held.1),
)

pub exchange-requires : goal.exchange-requires
exchange-requires g c = (search rules, (value.Lane c.load.ensures.2.0, in_hand _ _ _ _ _ c.requires.lane.4 c.load.ensures.2.1))

pub returns-clause-lane : goal.returns-clause-lane
returns-clause-lane g c = let went = rw (c.requires.opened, c.requires.lane.0, c.requires.lane.1, c.requires.lane.2, c.requires.lane.3, c.requires.lane.4) at c.load.ensures.2 in
    went_out _ c.args.self.now _ _ _ c.load.new.seat.me c.exchange.new.seat.me _ went c.exchange.ensures.2 (ap (λ (m : Me _ View). m.0) c.exchange.ensures.3)
