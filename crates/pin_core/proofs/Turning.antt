-- Each kind of step at a latch keeps the law of latches, and so does a pair that is named.
use Rattle.std.proofs.Common.{◌≡◌, true, false, arith, None}
use Rattle.pin_core.specs.declared.view.MapChange.{MapChange}
use Rattle.pin_core.specs.declared.view.MapChange.TheVariants.{Stable}
use Rattle.pin_core.specs.declared.view.PartitionHold.{PartitionHold}
use Rattle.pin_core.specs.State.{Partition}
use Rattle.pin_core.specs.Turns.{TurnKind, take_turn, leave_turn, map_out, change_map, map_back, TurnAllowed, partition_after, hold_after, holders, turn_shape, turn_part}
use Rattle.grid.proofs.Grids.{Keeps}

abbrev pub TurnKeeps : Partition → PartitionHold → Partition → PartitionHold → Type 0
TurnKeeps pt h pt' h' = Keeps turn_shape turn_part turn_part tt tt tt tt pt h pt' h'

pub turn_keeps : (k : TurnKind) (pt : Partition) (h : PartitionHold) → TurnAllowed k pt h → TurnKeeps pt h (partition_after k pt h) (hold_after k h)
turn_keeps take_turn pt h a = record {
  column = λ t t' q c sums le _. grind (arith, q, c, a, sums holders, le holders);
  cell = λ t q le c. grind (arith, q, c, a, le holders);
  others = λ t n m q c le d. grind (arith, q, c, d, a, le holders);
}
turn_keeps leave_turn pt h a = record {
  column = λ t t' q c sums le _. grind (arith, q, c, a, sums holders, le holders);
  cell = λ t q le c. grind (arith, q, c, a, le holders);
  others = λ t n m q c le d. grind (arith, q, c, d, a, le holders);
}
turn_keeps (map_out entries) pt h a = record {
  column = λ t t' q c sums le _. grind (arith, q, c, a, sums holders, le holders);
  cell = λ t q le c. grind (arith, q, c, a, le holders);
  others = λ t n m q c le d. grind (arith, q, c, d, a, le holders);
}
turn_keeps change_map pt h a = record {
  column = λ t t' q c sums le _. grind (arith, q, c, a, sums holders, le holders);
  cell = λ t q le c. grind (arith, q, c, a, le holders);
  others = λ t n m q c le d. grind (arith, q, c, d, a, le holders);
}
turn_keeps (map_back entries) pt h a = record {
  column = λ t t' q c sums le _. grind (arith, q, c, a, sums holders, le holders);
  cell = λ t q le c. grind (arith, q, c, a, le holders);
  others = λ t n m q c le d. grind (arith, q, c, d, a, le holders);
}

-- the holder names a pair
pub naming_keeps : (pt : Partition) (h : PartitionHold) (c : MapChange) → h.held ≡ true → h.changed ≡ false → h.change ≡ Stable → TurnKeeps pt h (record pt { owed = c }) (record h { change = c })
naming_keeps pt h new a b e = record {
  column = λ t t' q c sums le _. grind (arith, q, c, a, b, e, sums holders, le holders);
  cell = λ t q le c. grind (arith, q, c, a, b, e, le holders);
  others = λ t n m q c le d. grind (arith, q, c, d, a, b, e, le holders);
}

-- a view without a latch may be left out of the sum there
pub turn_forgets : (pt : Partition) (h h' : PartitionHold) → h.held ≡ false → h'.held ≡ false → h'.out ≡ None → h'.change ≡ Stable → h'.changed ≡ false → h'.seen ≡ None → TurnKeeps pt h pt h'
turn_forgets pt h h' a b out no_change unchanged unseen = record {
  column = λ t t' q c sums le _. grind (arith, q, c, a, b, sums holders, le holders);
  cell = λ t q le c. grind (arith, b, out, no_change, unchanged, unseen);
  others = λ t n m q c le d. d;
}
