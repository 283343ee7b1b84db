use Rattle.std.proofs.Common.{arith, ap, sym, subst, ◌-◌, ◌+◌, ℕ, List, ◌∷◌, [], length, length-append}
use Rattle.std.specs.Prelude.{vec_len}
use Rattle.table_rule.specs.declared.value.Value.{Value}
use Rattle.table_rule.specs.declared.value.Value.TheVariants as value
use Rattle.table_rule.specs.Laid.{AddsMaps}
use Rattle.table_rule.proofs.Laying.{fresh_fewer, found_none, maps_none, maps_more}
use Rattle.table_rule.proofs.build.put_maps.Goals as goal

pub loop-map-init : goal.loop-map-init
loop-map-init g c = record {
  items = subst (λ (k : ℕ). AddsMaps {L = g.row.L.Denot} {G = g.row.G.Denot} c.args._frames k c.args.slots.now.items c.args.slots.now.items) {x = 0} {y = vec_len c.args.maps - vec_len c.args.maps} (omega arith) (maps_none {L = g.row.L.Denot} {G = g.row.G.Denot} c.args._frames c.args.slots.now.items);
  fewer = omega arith;
  fresh = c.requires.fresh;
  count = omega arith;
  room = omega arith;
}

pub loop-map-preserved : goal.loop-map-preserved
loop-map-preserved g c = let i = c.loop-map.invariant in let t = fresh_fewer c.args._frames c.loop-map.maps.items c.pop.new.self.items c.in-Some.map c.in-Some.ensures.items i.fresh in let n = c.in-Some.ensures.len in let old = c.loop-map.slots.ok in let new = c.put.new.list.ok in record {
  items = subst (λ (k : ℕ). AddsMaps c.args._frames k c.args.slots.now.items c.put.new.list.items) {x = vec_len c.args.maps - vec_len c.loop-map.maps + 1} {y = vec_len c.args.maps - vec_len c.pop.new.self} (let a = i.fewer in omega arith)
      (subst (AddsMaps c.args._frames (vec_len c.args.maps - vec_len c.loop-map.maps + 1) c.args.slots.now.items) (sym c.put.ensures.items) (maps_more c.args._frames _ _ _ (value.Map c.in-Some.map) (found_none g.row.L.Denot g.row.G.Denot c.args._frames c.in-Some.map t.1.0 t.1.1) i.items));
  fewer = (let a = i.fewer in omega arith);
  fresh = t.0;
  count = (let a = i.count in let b = ap (λ (l : List (Value g.row.L.Denot g.row.G.Denot)). length l) c.put.ensures.items in let d = length-append c.loop-map.slots.items (value.Map c.in-Some.map ∷ []) in omega (arith, old.0, new.0));
  room = (let a = i.room in let b = c.put.ensures.room in omega arith);
}
