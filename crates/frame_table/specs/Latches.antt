-- The steps at latches: when they are allowed, and what they make of the state.
use Rattle.std.specs.Prelude.{◌≡◌, ◌≢◌, ℕ, ◌+◌, ◌<◌, ◌≤◌, Vec, vec_len, vec_capacity, Bool, true, false, List, [], ◌∷◌, map, Some, None}
use Rattle.std.specs.Global.{Global}
use mathlib.Core.Option.{some}
use lib.ListN.{get_elem?}
use Rattle.atomic_table.specs.Table.{Me, Step, rest}
use Rattle.pin_core.specs.declared.view.MapEntry.{MapEntry}
use Rattle.pin_core.specs.declared.view.MapChange.{MapChange}
use Rattle.pin_core.specs.declared.view.MapChange.TheVariants.{Stable, Entering, Leaving}
use Rattle.pin_core.specs.declared.view.PartitionHold.{PartitionHold}
use Rattle.pin_core.specs.declared.view.View.{View}
use Rattle.pin_core.specs.State.{hold, lane_hold, no_log}
use Rattle.pin_core.specs.Turns as parts
use Rattle.pin_core.specs.Steps as pin_steps
use Rattle.page_core.specs.Steps as page_steps
use Rattle.history_core.specs.State.{State}
use Rattle.history_core.specs.Lanes as lanes
use Rattle.history_core.specs.Device as logs
use Rattle.history_core.specs.Steps.{Event, aside, stepped, laned}
use Rattle.history_core.specs.Steps as steps
use Rattle.grid.specs.Shape.{put}
use Rattle.table_rule.specs.declared.value.Mapped.{Mapped}
use Rattle.table_rule.specs.declared.value.Value.{Value}
use Rattle.table_rule.specs.declared.value.Value.TheVariants as value
use Rattle.table_rule.specs.Layout.{tag_partition}
use Rattle.table_rule.specs.declared.turn.Turn.{Turn}
use Rattle.table_rule.specs.declared.turn.Turn.TheVariants.{Partition, Lane, Log}
use Rattle.history_core.specs.Laws.{Laws}
use Rattle.table_rule.specs.Shows.{is_taken, AreApart, entry_of}

-- The view may leave the latch: it has it, its value is home, and nothing under it is left to do
abbrev pub MayLeave : Turn → View → Type 0
MayLeave (Partition p) v = ((hold v p).held ≡ true) × ((hold v p).out ≡ None)
    × ((hold v p).change ≡ Stable)
MayLeave (Lane q) v = ((lane_hold v q).held ≡ true) × ((lane_hold v q).out ≡ None)
MayLeave Log v = (v.log.held ≡ true) × (v.log.out ≡ None) × (v.log.appended ≡ None)

-- The view may wait for the latch: it has none of the same kind, and none of a later one, in the
-- order of partitions, lanes and the log. So no two backends wait for each other
abbrev pub MayTake : Turn → View → Type 0
MayTake (Partition p) v = ((q : ℕ) → (hold v q).held ≡ false)
    × ((q : ℕ) → (lane_hold v q).held ≡ false)
    × (v.log.held ≡ false)
MayTake (Lane q) v = ((r : ℕ) → (lane_hold v r).held ≡ false) × (v.log.held ≡ false)
MayTake Log v = v.log.held ≡ false

-- the kind of `pin_core` and of `history_core` that a latch is taken by, or left by
abbrev pub part_kind : Bool → parts.TurnKind
part_kind true = parts.take_turn
part_kind false = parts.leave_turn

abbrev pub lane_kind : Bool → lanes.LaneKind
lane_kind true = lanes.take_lane
lane_kind false = lanes.leave_lane

abbrev pub log_kind : Bool → logs.LogKind
log_kind true = logs.take_log
log_kind false = logs.leave_log

-- when a latch may be taken, or left
abbrev pub LatchAllowed : Bool → Turn → State → View → Type 0
LatchAllowed true x s v = is_taken x s ≡ false
LatchAllowed false x s v = MayLeave x v

-- What a step at a latch makes of the view
abbrev pub view_latched : Bool → Turn → State → View → View
view_latched takes (Partition p) s v = parts.view_turned (part_kind takes) p (hold v p) v
view_latched takes (Lane q) s v = stepped (laned (lane_kind takes) q v v)
view_latched takes Log s v = logs.view_logged (log_kind takes) v

-- what a step at a latch makes of the state, by backend i, whose view is v
abbrev pub state_latched : Bool → Turn → State → ℕ → View → State
state_latched takes (Partition p) s i v = record s {
  pool = record s.pool { core = pin_steps.state_turned (part_kind takes) s.pool.core i p v };
}
state_latched takes (Lane q) s i v = record s {
  pool = aside s.pool i (view_latched takes (Lane q) s v);
  lane = put s.lane q (lanes.lane_after (lane_kind takes) (s.lane q));
}
state_latched takes Log s i v = record s {
  pool = aside s.pool i (view_latched takes Log s v);
  device = logs.device_after (log_kind takes) s.end s.device;
}

abbrev pub turn_event : Bool → Turn → ℕ → Event
turn_event takes (Partition p) i =
    steps.pool (page_steps.pins_and_maps (pin_steps.turn i p (part_kind takes)))
turn_event takes (Lane q) i = steps.lane i q (lane_kind takes)
turn_event takes Log i = steps.log i (log_kind takes)

-- whether the state has the latch
abbrev pub HasLatch : Turn → State → Type 0
HasLatch (Partition p) s = p < s.pool.core.partitions
HasLatch (Lane q) s = q < s.lanes
HasLatch Log s = Unit {0}

-- The view v became w by taking a latch, or by leaving it
pub record DidTurn (takes : Bool) (x : Turn) (v w : View) : Type 0 where
  -- the state that it was at, which has the law
  pub state : State
  pub laws : Laws state
  -- the view's place there
  pub seat : ℕ
  pub there : get_elem? state.pool.core.views seat ≡ some v
  pub live : v.emptied ≡ false
  pub inside : HasLatch x state
  pub allowed : LatchAllowed takes x state v
  pub after : w ≡ view_latched takes x state v

-- What a step at a latch leaves of a view: all but what it has of latches, and the count of its
-- steps
abbrev pub work_of : View → View
work_of v = record v { partitions = []; lanes = []; log = no_log; steps = 0 }

abbrev pub SameWork : View → View → Type 0
SameWork v w = work_of w ≡ work_of v

-- a view with one more latch of a partition counted, if it takes one
abbrev pub view_counted : Bool → Turn → View → View
view_counted true (Partition p) v = record v { turns = v.turns + 1 }
view_counted true (Lane q) v = v
view_counted true Log v = v
view_counted false x v = v

module _ {L G : Type 0} where
  -- if the latch was free it was taken, and else nothing happened
  abbrev pub took : Turn → Step (Value L G) → Me (Value L G) View → ℕ → Me (Value L G) View → Type 0
  took x st m found m' = (m'.1 ≡ m.1) × (found ≡ 0 → DidTurn true x m.0 m'.0)
      × (found ≢ 0 → m'.0 ≡ m.0)

  abbrev pub left : Turn → Step (Value L G) → Me (Value L G) View → ℕ → Me (Value L G) View → Type 0
  left x st m found m' = (m'.1 ≡ m.1) × DidTurn false x m.0 m'.0

-- what the view has of the latch after it took it, or left it
abbrev pub held_part : Bool → PartitionHold → PartitionHold
held_part takes h = parts.hold_after (part_kind takes) h

abbrev pub IsTurned : Bool → Turn → View → View → Type 0
IsTurned takes (Partition p) v w = (hold w p ≡ held_part takes (hold v p))
    × ((q : ℕ) → q ≢ p → hold w q ≡ hold v q) × (w.lanes ≡ v.lanes) × (w.log ≡ v.log)
IsTurned takes (Lane q) v w = (lane_hold w q ≡ record (lane_hold v q) { held = takes })
    × ((r : ℕ) → r ≢ q → lane_hold w r ≡ lane_hold v r) × (w.partitions ≡ v.partitions)
    × (w.log ≡ v.log)
IsTurned takes Log v w = (w.log ≡ logs.log_hold_after (log_kind takes) v.log)
    × (w.partitions ≡ v.partitions) × (w.lanes ≡ v.lanes)

-- The view v became w by a step of the kind k at the partition p
pub record DidMap (k : parts.TurnKind) (p : ℕ) (v w : View) : Type 0 where
  pub state : State
  pub laws : Laws state
  pub spread : state.pool.core.partition_of ≡ tag_partition
  pub seat : ℕ
  pub there : get_elem? state.pool.core.views seat ≡ some v
  pub live : v.emptied ≡ false
  pub inside : p < state.pool.core.partitions
  pub allowed : parts.TurnAllowed k (state.pool.core.partition p) (hold v p)
  pub after : w ≡ parts.view_turned k p (hold v p) v

-- the map of a partition comes back with these entries: if the view has named a pair that isn't
-- entered or left out yet, this is done
pub data ComesBack (entries : List MapEntry) (p : ℕ) (v w : View) : MapChange → Type 0 where
  as_it_was : DidMap (parts.map_back entries) p v w → ComesBack entries p v w Stable
  entered : {tag f : ℕ} (u : View) → DidMap parts.change_map p v u
      → DidMap (parts.map_back entries) p u w → ComesBack entries p v w (Entering tag f)
  left_out : {tag f : ℕ} (u : View) → DidMap parts.change_map p v u
      → DidMap (parts.map_back entries) p u w → ComesBack entries p v w (Leaving tag f)

-- What a map may be when it comes back: it was out, as these entries, and has the change that the
-- view named
pub record MayComeBack (entries : List MapEntry) (p : ℕ) (v : View) : Type 0 where
  pub out : (hold v p).out ≢ None
  pub unchanged : (hold v p).changed ≡ false
  pub changed : (was : List MapEntry) → (hold v p).out ≡ Some was
      → parts.found entries ≡ parts.map_after (hold v p).change (parts.found was)

-- what entries have of the pair that the view has named: one that enters is not there, and one that
-- leaves is
abbrev pub HasNamed : MapChange → List MapEntry → Type 0
HasNamed Stable entries = Unit {0}
HasNamed (Entering tag f) entries = parts.found entries tag ≡ None
HasNamed (Leaving tag f) entries = parts.found entries tag ≡ Some f

-- each entry's frame is one of n
abbrev pub AreBelow : ℕ → List Mapped → Type 0
AreBelow n entries = (i : ℕ) (a : Mapped) → get_elem? entries i ≡ some a → a.frame < n

-- a list has room for the pair that the view is entering
abbrev pub HasRoomFor : PartitionHold → Vec Mapped Global → Type 0
HasRoomFor h entries = (tag f : ℕ) → h.change ≡ Entering tag f → h.changed ≡ false
    → vec_len entries < vec_capacity entries

module _ {L G : Type 0} where
  -- the value is a map with these entries, no tag twice, and room for n of them
  abbrev pub IsMap : ℕ → Value L G → List MapEntry → Type 0
  IsMap n (value.Map m) entries = (map entry_of m.items ≡ entries) × AreApart m.items
      × (n ≤ vec_capacity m)
  IsMap n _ entries = ⊥

  -- the value is a map with room for the pair that the view is entering
  abbrev pub TakesPair : PartitionHold → Value L G → Type 0
  TakesPair h (value.Map m) = HasRoomFor h m
  TakesPair h _ = ⊥

  -- the value is a map whose frames are among the n of the table
  abbrev pub GivesFrames : ℕ → Value L G → Type 0
  GivesFrames n (value.Map m) = AreBelow n m.items
  GivesFrames n _ = ⊥

  -- the map went out with the seat, from this slot, in a table of n frames
  abbrev pub map_went : ℕ → ℕ → ℕ → Step (Value L G) → Me (Value L G) View → ℕ → Me (Value L G) View
      → Type 0
  map_went n p slot st m found m' = (y : Value L G) × (entries : List MapEntry)
      × (m'.1 ≡ (slot, y) ∷ m.1) × IsMap n y entries × TakesPair (hold m.0 p) y
      × DidMap (parts.map_out entries) p m.0 m'.0 × GivesFrames n y

  abbrev pub map_came : ℕ → List MapEntry → Step (Value L G) → Me (Value L G) View → ℕ
      → Me (Value L G) View → Type 0
  map_came p entries st m found m' = (m'.1 ≡ rest m.1)
      × ComesBack entries p m.0 m'.0 (hold m.0 p).change

-- whether a change was made, that the view had named
abbrev pub is_named : MapChange → Bool
is_named Stable = false
is_named (Entering tag f) = true
is_named (Leaving tag f) = true

-- what the view has of the latch while the map is out, and once it is back
abbrev pub out_hold : List MapEntry → PartitionHold → PartitionHold
out_hold entries h = record h { out = Some entries; seen = Some entries }

abbrev pub back_hold : List MapEntry → PartitionHold → PartitionHold
back_hold entries h = record h {
  out = None;
  change = Stable;
  changed = is_named h.change;
  seen = Some entries;
}

-- The view has at the partition p what is said, and at all others, and at lanes and the log, what
-- it had
pub record MapStep (p : ℕ) (h : PartitionHold) (v w : View) : Type 0 where
  pub here : hold w p ≡ h
  pub others : (q : ℕ) → q ≢ p → hold w q ≡ hold v q
  pub lanes : w.lanes ≡ v.lanes
  pub log : w.log ≡ v.log
