use Rattle.std.proofs.Common.{◌≡◌}
use Rattle.std.specs.Prelude.{vec_len}
use Rattle.table_rule.specs.Laid.{AreFresh}
use Rattle.table_rule.proofs.build.fresh_maps.Given as goal

abbrev pub invariant-loop : goal.invariant-loop
invariant-loop l = (vec_len l.maps ≡ l.counter) × AreFresh l.fn.frames l.maps.items
