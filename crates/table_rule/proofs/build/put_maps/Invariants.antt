use Rattle.std.proofs.Common.{◌≡◌, ◌≤◌, ◌+◌, ◌-◌}
use Rattle.std.specs.Prelude.{vec_len, vec_capacity}
use Rattle.table_rule.specs.Laid.{AddsMaps, AreFresh}
use Rattle.table_rule.proofs.build.put_maps.Given as goal

abbrev pub invariant-loop-map : goal.invariant-loop-map
invariant-loop-map g l = record {
  items : AddsMaps l.fn._frames (vec_len l.initial.maps - vec_len l.maps) l.fn.slots.items l.slots.items;
  fewer : vec_len l.maps ≤ vec_len l.initial.maps;
  fresh : AreFresh l.fn._frames l.maps.items;
  count : vec_len l.slots + vec_len l.maps ≡ vec_len l.fn.slots + vec_len l.initial.maps;
  room : vec_capacity l.fn.slots ≤ vec_capacity l.slots;
}

abbrev pub decreases-loop-map : goal.decreases-loop-map
decreases-loop-map g l = goal.left-loop-map g l
