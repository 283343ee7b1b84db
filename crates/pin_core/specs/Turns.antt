-- The latches of the partitions: the kinds of step at one, and what holds of it.
use Rattle.std.specs.Prelude.{◌≡◌, ◌≢◌, ℕ, ◌+◌, Bool, true, false, List, [], ◌∷◌, Option, Some}
use Rattle.std.specs.Prelude.{None, nat_eq, slice_set, if◌then◌else◌}
use Rattle.pin_core.specs.declared.view.MapEntry.{MapEntry}
use Rattle.pin_core.specs.declared.view.MapChange.{MapChange}
use Rattle.pin_core.specs.declared.view.MapChange.TheVariants.{Stable, Entering, Leaving}
use Rattle.pin_core.specs.declared.view.PartitionHold.{PartitionHold}
use Rattle.pin_core.specs.declared.view.View.{View}
use Rattle.pin_core.specs.State.{Partition, hold}
use Rattle.pin_core.specs.Tallies.{flag_weight}
use Rattle.grid.specs.Shape.{Shape, Part, put}

-- The kinds of step at a partition's latch
pub data TurnKind : Type 0 where
  -- the latch is taken (`LWLockAcquire` of the partition's lock)
  take_turn : TurnKind
  -- the latch is left (`LWLockRelease`)
  leave_turn : TurnKind
  -- the map goes out to the holder of the latch, with these entries
  map_out : List MapEntry → TurnKind
  -- the holder enters the named pair into the map that is out, or leaves it out (`BufTableInsert`,
  -- `BufTableDelete`)
  change_map : TurnKind
  -- the map comes back, with these entries
  map_back : List MapEntry → TurnKind

-- the frame that a list of entries gives for a tag
unfoldable pub found : List MapEntry → ℕ → Option ℕ
found [] tag = None
found (e ∷ es) tag = if nat_eq tag e.tag then Some e.frame else found es tag

-- a map after a change
abbrev pub map_after : MapChange → (ℕ → Option ℕ) → ℕ → Option ℕ
map_after Stable m = m
map_after (Entering tag f) m = put m tag (Some f)
map_after (Leaving tag f) m = put m tag None

-- the pair that is still to be entered or left out, and stays named once the map is back: none if
-- the change under this latch is made
abbrev pub owed_by : Bool → MapChange → MapChange
owed_by true change = Stable
owed_by false change = change

-- the map that is out, which went out as m, with the change if it is made
abbrev pub map_now : Bool → MapChange → (ℕ → Option ℕ) → ℕ → Option ℕ
map_now true change m = map_after change m
map_now false change m = m

-- A backend may take the latch of a partition (`LWLockAcquire`)
pub record CanTakeTurn (pt : Partition) (h : PartitionHold) : Type 0 where
  -- the partition's latch is free
  pub free : pt.taken ≡ false

-- A backend may leave the latch of a partition (`LWLockRelease`)
pub record CanLeaveTurn (pt : Partition) (h : PartitionHold) : Type 0 where
  -- the backend has the latch
  pub held : h.held ≡ true
  -- the backend doesn't have the map out
  pub home : h.out ≡ None
  -- the backend names no pair in change
  pub no_change : h.change ≡ Stable

-- The holder of the latch may take the map out
pub record CanTakeMap (entries : List MapEntry) (pt : Partition) (h : PartitionHold) : Type 0 where
  -- the backend has the latch
  pub held : h.held ≡ true
  -- the backend doesn't have the map out
  pub home : h.out ≡ None
  -- the entries that the backend gets are the map
  pub entries_are : found entries ≡ pt.map

-- The holder of the latch may change the map that is out, once each time that it has the latch, and
-- only if it has named a pair (a backend names one pair, under one latch: a second pair could never
-- be settled)
pub record CanChangeMap (pt : Partition) (h : PartitionHold) : Type 0 where
  -- the backend has the map out
  pub out : h.out ≢ None
  -- the backend made no change of the map under this latch
  pub unchanged : h.changed ≡ false
  -- the backend has named the pair to enter or leave out
  pub named : h.change ≢ Stable

-- The holder of the latch may return the map that is out
pub record CanReturnMap (entries : List MapEntry) (pt : Partition)
    (h : PartitionHold) : Type 0 where
  -- the backend has the map out
  pub out : h.out ≢ None
  -- the entries that the backend returns are the map
  pub entries_are : found entries ≡ pt.map

-- What a kind asks of the partition and of what the view has of its latch
abbrev pub TurnAllowed : TurnKind → Partition → PartitionHold → Type 0
TurnAllowed take_turn pt h = CanTakeTurn pt h
TurnAllowed leave_turn pt h = CanLeaveTurn pt h
TurnAllowed (map_out entries) pt h = CanTakeMap entries pt h
TurnAllowed change_map pt h = CanChangeMap pt h
TurnAllowed (map_back entries) pt h = CanReturnMap entries pt h

-- What a kind makes of the partition
abbrev pub partition_after : TurnKind → Partition → PartitionHold → Partition
partition_after take_turn pt h = record pt { taken = true }
partition_after leave_turn pt h = record pt { taken = false }
partition_after (map_out entries) pt h = pt
partition_after change_map pt h = record pt { map = map_after h.change pt.map; owed = Stable }
partition_after (map_back entries) pt h = pt

-- What a kind makes of what the view has of the latch
abbrev pub hold_after : TurnKind → PartitionHold → PartitionHold
hold_after take_turn h = record h { held = true }
hold_after leave_turn h = record h { held = false; changed = false; seen = None }
hold_after (map_out entries) h = record h { out = Some entries; seen = Some entries }
hold_after change_map h = record h { changed = true; seen = None }
hold_after (map_back entries) h = record h {
  out = None;
  change = owed_by h.changed h.change;
  seen = Some entries;
}

-- how many latches of partitions a view took, after the kind
abbrev pub turns_after : TurnKind → ℕ → ℕ
turns_after take_turn n = n + 1
turns_after _ n = n

-- What a kind at the partition p makes of the view
abbrev pub view_turned : TurnKind → ℕ → PartitionHold → View → View
view_turned k p h v = record v {
  partitions = slice_set v.partitions p (hold_after k h);
  steps = v.steps + 1;
  turns = turns_after k v.turns;
}

-- What is summed over the views of a latch
pub data TurnTally : Type 0 where
  -- the views that have the latch
  holders : TurnTally

-- the grid of views and latches
abbrev pub turn_shape : Shape
turn_shape = record {
  Column = Partition;
  Link = PartitionHold;
  View = View;
  Tally = TurnTally;
  Block = Unit {0};
  Own = Unit {0};
  weigh = λ _ h. flag_weight h.held;
  link = hold;
  own = λ _. tt;
  spot = λ _. 0;
}

-- What holds of a partition and of how many views hold its latch
pub record TurnLaw (pt : Partition) (t : TurnTally → ℕ) : Type 0 where
  -- the latch is taken if and only if one view has it
  pub taken : flag_weight pt.taken ≡ t holders
  -- if the latch is free, no pair is in change
  pub free : pt.taken ≡ false → pt.owed ≡ Stable

-- What holds of a partition and of what a view has of its latch
pub record PartitionHoldLaw (pt : Partition) (h : PartitionHold) : Type 0 where
  -- the pair in change is the one that the holder of the latch has named, and not yet entered or
  -- left out
  pub owed : h.held ≡ true → owed_by h.changed h.change ≡ pt.owed
  -- a view without the latch has neither the map nor a pair, and has made no change
  pub resting : h.held ≡ false → (h.out ≡ None) × (h.change ≡ Stable) × (h.changed ≡ false)
  -- the map that is out is the map as it went out, with the change that was made
  pub out : (entries : List MapEntry) → h.out ≡ Some entries
      → pt.map ≡ map_now h.changed h.change (found entries)
  -- once its change is made, a pair stays named only until the map is back
  pub made : h.changed ≡ true → h.out ≡ None → h.change ≡ Stable
  -- a map that isn't out is as the holder saw it last
  pub seen : (entries : List MapEntry) → h.seen ≡ Some entries → h.out ≡ None
      → pt.map ≡ found entries
  -- a view without the latch knows nothing of the map
  pub unseen : h.held ≡ false → h.seen ≡ None

-- what holds of a partition, and of what each view has of its latch
abbrev pub turn_part : Part turn_shape
turn_part = record { column = λ _ pt t. TurnLaw pt t; cell = λ _ pt _ h. PartitionHoldLaw pt h }
