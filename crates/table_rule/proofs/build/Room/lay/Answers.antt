use Rattle.std.proofs.Common.{arith, ap, ℕ, ◌-◌, [], ◌∷◌, ◌++◌, length, replicate, ◌∙◌}
use Rattle.table_rule.specs.declared.noted_log.NotedLog.{NotedLog}
use Rattle.table_rule.specs.declared.value.Value.{Value}
use Rattle.table_rule.specs.declared.value.Value.TheVariants as value
use Rattle.table_rule.proofs.Laying.{laid_all}
use Rattle.table_rule.proofs.build.Room.lay.Goals as goal

abbrev away : (L G : Type 0) → Value L G
away L G = value.Away

pub returns : goal.returns
returns g c = let m = c.put_maps.ensures.items in let laid = c.requires.laid in let few = c.requires.few in let ok = c.args.lanes.ok in let kept = c.put_lanes.ensures.empty in record {
  maps = m.maps;
  counted = m.counted ∙ laid.partitions;
  are_maps = m.are_maps;
  few = omega arith;
  room = c.args.self.buffer;
  record_room = laid.record_room;
  list = c.put_lanes.new.lanes;
  empty = kept.0;
  list_room = (let k = kept.1 in omega arith);
  is = laid_all _ _ _ _ _ _ _ _ _ _ _ _ _ _ _ c.requires.room.0 laid.counted c.put_pages.ensures.items m.is c.put_lanes.ensures.items (c.put_aways.ensures.items ∙ ap (λ (k : ℕ). c.put_lanes.new.slots.items ++ replicate k (away g.row.L.Denot g.row.G.Denot)) {x = 16 - c.len-aways.result} {y = 16 - length c.args.lanes.items} (let z = c.len-aways.ensures in omega arith)) (c.put.ensures.items ∙ ap (λ (x : NotedLog g.row.G.Denot). c.put_aways.new.slots.items ++ value.Log x ∷ []) c.new.ensures) c.put-2.ensures.items;
}
