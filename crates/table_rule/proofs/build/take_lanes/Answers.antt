use Rattle.std.proofs.Common.{rules, arith, ◌∙◌, ap, length, ◌≡◌, ◌++◌, ◌∷◌, []}
use Rattle.table_rule.specs.declared.value.Value.{Value}
use Rattle.table_rule.proofs.Laying.{plain_popped, no_log_popped, no_list_popped, no_lane_page, no_lane_map, no_lane_away, took_plain, took_lane, taken_all, lane_room, all_taken}
use Rattle.table_rule.proofs.build.take_lanes.Goals as goal

pub loop-value-init : goal.loop-value-init
loop-value-init g c = record { done = all_taken c.args.slots.items _ c.requires.room.0; none = c.requires.plain; room = c.requires.room.1 }

pub loop-value-preserved-in-Page : goal.loop-value-preserved-in-Page
loop-value-preserved-in-Page g c = let i = c.loop-value.invariant in let e = c.in-Some.ensures.items in record {
  done = took_plain _ _ _ _ _ e (no_lane_page _ _ c.in-Page.is) i.done;
  none = plain_popped _ _ _ e i.none;
  room = i.room;
}

pub loop-value-preserved-in-Map : goal.loop-value-preserved-in-Map
loop-value-preserved-in-Map g c = let i = c.loop-value.invariant in let e = c.in-Some.ensures.items in record {
  done = took_plain _ _ _ _ _ e (no_lane_map _ _ c.in-Map.is) i.done;
  none = plain_popped _ _ _ e i.none;
  room = i.room;
}

pub loop-value-preserved-in-Away : goal.loop-value-preserved-in-Away
loop-value-preserved-in-Away g c = let i = c.loop-value.invariant in let e = c.in-Some.ensures.items in record {
  done = took_plain _ _ _ _ _ e (no_lane_away _ c.in-Away.is) i.done;
  none = plain_popped _ _ _ e i.none;
  room = i.room;
}

pub put-requires : goal.put-requires
put-requires g c = let i = c.loop-value.invariant in let e = c.in-Some.ensures.items ∙ ap (λ (y : Value g.row.L.Denot g.row.G.Denot). c.pop.new.self.items ++ y ∷ []) c.in-Lane.is in
    let a = lane_room _ _ _ c.loop-value.lanes.items _ e i.done in let b = i.room in let d = c.loop-value.lanes.ok in grind (arith, a, b)

pub loop-value-preserved : goal.loop-value-preserved
loop-value-preserved g c = let i = c.loop-value.invariant in let e = c.in-Some.ensures.items in let f = e ∙ ap (λ (y : Value g.row.L.Denot g.row.G.Denot). c.pop.new.self.items ++ y ∷ []) c.in-Lane.is in record {
  done = rw c.put.ensures.items (rw c.into_device.ensures (took_lane _ _ _ c.loop-value.lanes.items _ f i.done));
  none = plain_popped _ _ _ e i.none;
  room = (let a = i.room in let b = c.put.ensures.room in omega arith);
}

pub unreachable-requires : goal.unreachable-requires
unreachable-requires g c = no_log_popped _ _ _ _ c.in-Some.ensures.items c.in-Log.is c.loop-value.invariant.none

pub unreachable-requires-in-Lanes : goal.unreachable-requires-in-Lanes
unreachable-requires-in-Lanes g c = no_list_popped _ _ _ _ c.in-Some.ensures.items c.in-Lanes.is c.loop-value.invariant.none

pub returns : goal.returns
returns g c = let i = c.loop-value.invariant in let n : length c.loop-value.slots.items ≡ 0 = search (rules, arith) in
    c.reverse.ensures.items ∙ taken_all c.loop-value.slots.items c.loop-value.lanes.items _ n i.done
