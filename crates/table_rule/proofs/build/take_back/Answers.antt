use Rattle.std.proofs.Common.{ap, ◌∷◌, [], ◌++◌, ◌∙◌}
use Rattle.table_rule.specs.declared.value.Value.{Value}
use Rattle.table_rule.proofs.Laying.{Ended, popped_ends}
use Rattle.table_rule.proofs.build.take_back.Given.{Over}
use Rattle.table_rule.proofs.build.take_back.Goals as goal

module _ (g : Over) (c : goal.After-lanes-2-1 g) where
  -- what is left, and what was popped
  ended : Ended c.args.slots.items c.pop-2.new.self.items c.in-Some-Log.log c.in-Some-Lanes.lanes
  ended = let r = c.requires in popped_ends _ c.pop.new.self.items _ _ _
      (c.in-Some-Lanes.ensures.items ∙ ap (λ (y : Value g.row.L.Denot g.row.G.Denot). c.pop.new.self.items ++ y ∷ []) c.in-Some-Lanes.field-0-is)
      (c.in-Some-Log.ensures.items ∙ ap (λ (y : Value g.row.L.Denot g.row.G.Denot). c.pop-2.new.self.items ++ y ∷ []) c.in-Some-Log.field-0-is)
      r.0 r.1 r.2 r.3 r.4

pub take_lanes-requires-clause-plain : goal.take_lanes-requires-clause-plain
take_lanes-requires-clause-plain g c = (ended g c).plain

pub take_lanes-requires-clause-room : goal.take_lanes-requires-clause-room
take_lanes-requires-clause-room g c = let e = ended g c in (e.empty, e.room)

pub returns : goal.returns
returns g c = let e = ended g c.before in (c.in-Some-Log.log, c.in-Some-Lanes.lanes, e.ends, c.take_lanes.ensures ∙ e.lanes, c.into_device-log.ensures)
