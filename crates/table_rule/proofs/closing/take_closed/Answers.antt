use Rattle.std.proofs.Common.{arith, sym, ◌∙◌}
use Rattle.std.specs.Slots.{slots_counts}
use Rattle.table_rule.proofs.Laying.{no_lane_page, no_lane_map, no_lane_away}
use Rattle.table_rule.proofs.Emptying.{took_other, took_one, one_fits, no_log, no_list, is_list, is_log, begins, list_room, log_same, all_left}
use Rattle.table_rule.proofs.closing.take_closed.Goals as goal

pub unreachable-requires : goal.unreachable-requires
unreachable-requires g c = let e = c.requires.ends in c.in_default.not-Lanes e.1 (is_list _ _ _ e.2 _ (c.slot_count-left.ensures ∙ (slots_counts c.args.closed.slots).0) _ c.take.ensures.value)

pub unreachable-requires-in_default-take : goal.unreachable-requires-in_default-take
unreachable-requires-in_default-take g c = let e = c.requires.ends in c.in_default-take.not-Log e.0 (is_log _ _ _ e.2 _ (c.slot_count-left.ensures ∙ (slots_counts c.args.closed.slots).0) _ _ c.take.ensures.others.0 c.take-2.ensures.value)

pub loop-left-init : goal.loop-left-init
loop-left-init g c = let e = c.requires.ends in let n = c.slot_count-left.ensures ∙ (slots_counts c.args.closed.slots).0 in let counts = slots_counts c.args.closed.slots in
    let kept = list_room _ c.in-Lanes.lanes _ _ (is_list _ _ _ e.2 _ n _ c.take.ensures.value) c.in-Lanes.is e.3 e.4 in record {
      items = c.take-2.ensures.others.0 ∙ c.take.ensures.others.0;
      left = begins _ _ _ e.2 _ n _ _ _ _ (sym counts.1 ∙ counts.0) (λ k low. c.requires.full k (omega arith) (omega arith)) c.take.ensures.others.1 c.take-2.ensures.others.1 kept.0;
      room = kept.1;
    }

pub loop-left-preserved-in-Page : goal.loop-left-preserved-in-Page
loop-left-preserved-in-Page g c = let i = c.loop-left.invariant in let t = c.take-in-loop-left.ensures in record {
  items = t.others.0 ∙ i.items;
  left = took_other _ _ _ _ _ _ i.items (omega arith) i.left t.value _ t.others.1 (no_lane_page _ _ c.in-Page.is);
  room = i.room;
}

pub loop-left-preserved-in-Map : goal.loop-left-preserved-in-Map
loop-left-preserved-in-Map g c = let i = c.loop-left.invariant in let t = c.take-in-loop-left.ensures in record {
  items = t.others.0 ∙ i.items;
  left = took_other _ _ _ _ _ _ i.items (omega arith) i.left t.value _ t.others.1 (no_lane_map _ _ c.in-Map.is);
  room = i.room;
}

pub loop-left-preserved-in-Away : goal.loop-left-preserved-in-Away
loop-left-preserved-in-Away g c = let i = c.loop-left.invariant in let t = c.take-in-loop-left.ensures in record {
  items = t.others.0 ∙ i.items;
  left = took_other _ _ _ _ _ _ i.items (omega arith) i.left t.value _ t.others.1 (no_lane_away _ c.in-Away.is);
  room = i.room;
}

pub put-requires : goal.put-requires
put-requires g c = let i = c.loop-left.invariant in let t = c.take-in-loop-left.ensures in let f = one_fits _ _ _ _ _ _ i.items (omega arith) i.left t.value _ c.in-Lane.is in let r = i.room in let k = c.loop-left.lanes.ok in omega arith

pub loop-left-preserved : goal.loop-left-preserved
loop-left-preserved g c = let i = c.loop-left.invariant in let t = c.take-in-loop-left.ensures in record {
  items = t.others.0 ∙ i.items;
  left = took_one _ _ _ _ _ _ i.items (omega arith) i.left t.value _ c.in-Lane.lane _ t.others.1 c.in-Lane.is (rw (← c.into_device.ensures) c.put.ensures.items);
  room = (let a = i.room in let b = c.put.ensures.room in omega arith);
}

pub unreachable-requires-in-Log-take : goal.unreachable-requires-in-Log-take
unreachable-requires-in-Log-take g c = let i = c.loop-left.invariant in no_log _ _ _ _ _ _ i.items (omega arith) i.left c.take-in-loop-left.ensures.value _ c.in-Log-take.is

pub unreachable-requires-in-Lanes-take : goal.unreachable-requires-in-Lanes-take
unreachable-requires-in-Lanes-take g c = let i = c.loop-left.invariant in no_list _ _ _ _ _ _ i.items (omega arith) i.left c.take-in-loop-left.ensures.value _ c.in-Lanes-take.is

pub returns : goal.returns
returns g c = let e = c.requires.ends in let n = c.slot_count-left.ensures ∙ (slots_counts c.args.closed.slots).0 in (
  e.0,
  e.1,
  e.2,
  c.reverse.ensures.items ∙ all_left _ _ _ c.loop-left.lanes.items c.loop-left.invariant.left (omega arith),
  c.into_device-log.ensures ∙ log_same _ _ _ (is_log _ _ _ e.2 _ n _ _ c.take.ensures.others.0 c.take-2.ensures.value) c.in-Log.is,
)
