-- The words and the slots of a table at the start.
use Rattle.std.specs.Prelude.{◌≡◌, ℕ, ◌*◌, ◌-◌, ◌<◌, ◌≤◌, List, [], ◌∷◌, ◌++◌, ◌+◌, Vec, vec_len, vec_capacity, length, replicate, slice_index, None}
use Rattle.std.specs.Global.{Global}
use mathlib.Core.Option.{some}
use lib.ListN.{get_elem?}
use Rattle.pin_core.specs.State.{no_tag}
use Rattle.table_rule.specs.declared.value.Value.{Value}
use Rattle.table_rule.specs.declared.value.Value.TheVariants as value
use Rattle.table_rule.specs.Layout.{state_place, tag_place, content_place, latch_count, opening_numbers}
use Rattle.page_core.specs.State.{zero_page}
use Rattle.history_core.specs.Log.{record_size}
use Rattle.table_rule.specs.declared.build.Room.{Room}
use Rattle.table_rule.specs.declared.noted_lane.LaneCall.TheVariants as lane_call
use Rattle.table_rule.specs.declared.noted_log.LogCall.TheVariants as log_call
use Rattle.table_rule.specs.declared.noted_log.NotedLog.{NotedLog}
use Rattle.table_rule.specs.declared.value.Mapped.{Mapped}
use Rattle.table_rule.specs.Shows.{GivesMap}

-- the words of n frames without pins and tags
pub record AreBlank (words : List ℕ) (n : ℕ) : Type 0 where
  pub wide : length words ≡ 8 * n
  pub states : (f : ℕ) → f < n → slice_index words (state_place f) ≡ 0
  pub tags : (f : ℕ) → f < n → slice_index words (tag_place f) ≡ no_tag
  pub contents : (f : ℕ) → f < n → slice_index words (content_place f) ≡ 0

-- the words of a new table of n frames: after those of the frames free latches, and a log that
-- begins and ends at `base` and is flushed
pub record AreOpening (words : List ℕ) (n base : ℕ) : Type 0 where
  pub blank : List ℕ
  pub frames : AreBlank blank n
  pub is : words ≡ (blank ++ replicate latch_count 0) ++ opening_numbers n base

-- empty lists, each with room for n entries
abbrev pub AreFresh : ℕ → List (Vec Mapped Global) → Type 0
AreFresh n maps = (k : ℕ) (m : Vec Mapped Global) → get_elem? maps k ≡ some m → (m.items ≡ [])
    × (n ≤ vec_capacity m)

-- the memory of a table of n frames
pub record IsRoom (n : ℕ) (room : Room) : Type 0 where
  pub counted : vec_len room.pages ≡ n
  pub pages : room.pages.items ≡ replicate n zero_page
  pub partitions : vec_len room.maps ≡ 128
  pub maps : AreFresh n room.maps.items
  pub record_room : record_size ≤ vec_capacity room.buffer

-- the log as it is home, without the note of a call, with this room for a record
abbrev pub home_log : {G : Type 0} → Vec ℕ Global → G → NotedLog G
home_log room g = record { device = g; down = None; buffer = room; call = log_call.Untouched }

module _ {L G : Type 0} where
  -- the lane of a number, as it is home
  abbrev pub home_lane : ℕ → L → Value L G
  home_lane q l = value.Lane (record { number = q; device = l; call = lane_call.Untouched })

  -- lanes in a row, home, from this number on
  abbrev pub home_lanes : ℕ → List L → List (Value L G)
  home_lanes q [] = []
  home_lanes q (l ∷ ls) = home_lane q l ∷ home_lanes (q + 1) ls

  -- each value is an empty map with room for n entries
  abbrev pub AreMaps : ℕ → List (Value L G) → Type 0
  AreMaps n ys = (k : ℕ) (y : Value L G) → get_elem? ys k ≡ some y → GivesMap n y (λ _. None)

  -- so many empty maps were put after the values
  pub record AddsMaps (n count : ℕ) (before after : List (Value L G)) : Type 0 where
    pub maps : List (Value L G)
    pub counted : length maps ≡ count
    pub are_maps : AreMaps n maps
    pub is : after ≡ before ++ maps

  -- the lanes among values
  unfoldable pub lanes_among : List (Value L G) → List L
  lanes_among [] = []
  lanes_among (value.Page p ∷ ys) = lanes_among ys
  lanes_among (value.Map m ∷ ys) = lanes_among ys
  lanes_among (value.Lane l ∷ ys) = l.device ∷ lanes_among ys
  lanes_among (value.Log g ∷ ys) = lanes_among ys
  lanes_among (value.Lanes l ∷ ys) = lanes_among ys
  lanes_among (value.Away ∷ ys) = lanes_among ys

  -- neither a log nor a list of lanes is among them
  unfoldable pub HasNoDevices : List (Value L G) → Type 0
  HasNoDevices [] = Unit {0}
  HasNoDevices (value.Page p ∷ ys) = HasNoDevices ys
  HasNoDevices (value.Map m ∷ ys) = HasNoDevices ys
  HasNoDevices (value.Lane l ∷ ys) = HasNoDevices ys
  HasNoDevices (value.Log g ∷ ys) = ⊥
  HasNoDevices (value.Lanes l ∷ ys) = ⊥
  HasNoDevices (value.Away ∷ ys) = HasNoDevices ys

  -- the log and the list stand after the other values
  pub record EndsWith (g : NotedLog G) (list : Vec L Global) (ys : List (Value L G)) : Type 0 where
    pub others : List (Value L G)
    pub is : ys ≡ (others ++ value.Log g ∷ []) ++ value.Lanes list ∷ []
    pub plain : HasNoDevices others

  -- The slots of n frames: a page of zeros for each, 128 empty maps, 16 places for lanes, the log,
  -- and the list of lanes
  pub record AreSlots (n : ℕ) (lanes : List L) (log : G) (ys : List (Value L G)) : Type 0 where
    pub maps : List (Value L G)
    pub counted : length maps ≡ 128
    pub are_maps : AreMaps n maps
    pub few : length lanes ≤ 16
    pub room : Vec ℕ Global
    pub record_room : record_size ≤ vec_capacity room
    pub list : Vec L Global
    pub empty : list.items ≡ []
    pub list_room : length lanes ≤ vec_capacity list
    pub is : ys ≡ ((((replicate n (value.Page zero_page) ++ maps) ++ home_lanes 0 lanes)
        ++ replicate (16 - length lanes) value.Away) ++ value.Log (home_log room log) ∷ [])
        ++ value.Lanes list ∷ []
