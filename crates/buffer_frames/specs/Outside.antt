-- What calls that work at frames, and at the maps, leave of a view.
use Rattle.std.specs.Prelude.{ℕ, min, [], length, Option, option_map}
use Rattle.pin_core.specs.declared.view.View.{View}
use Rattle.history_core.specs.State.{last_count}
use Rattle.buffer_frames.specs.Rests.{kept_by_calls}
use Rattle.access_rings.specs.declared.ring.RingKind.{RingKind}
use Rattle.access_rings.specs.RingState.{RingState}

-- What a call that works at frames and maps, and calls no device, leaves of a view: all but what it
-- has of them, and what it lists and counts of loads, changed words and steps
abbrev pub outside_of : View → View
outside_of v = record v {
  links = [];
  partitions = [];
  steps = 0;
  loads = [];
  changes = [];
  residents = [];
}

-- what a choice of a victim leaves: it may move the hand, too
abbrev pub chosen_of : View → View
chosen_of v = record (outside_of v) { ticks = 0 }

-- what a look-up leaves, which may take partitions' latches and store hints besides
abbrev pub searched_of : View → View
searched_of v = record (outside_of v) { turns = 0; hints = [] }

-- What a call leaves that may take a frame's tag away, and one that may take latches and store
-- hints besides: what they leave without that, but for the count of tags taken
abbrev pub emptying_of : View → View
emptying_of v = record (outside_of v) { cleared = 0 }

abbrev pub freeing_of : View → View
freeing_of v = record (searched_of v) { cleared = 0 }

-- What a call keeps of a view that brings a block into a frame: it may do all of this
abbrev pub kept_by_block_reads : View → View
kept_by_block_reads v = record (kept_by_calls v) { turns = 0; hints = []; ticks = 0; cleared = 0 }

-- a count as it is shown: it stands still at its type's last value
abbrev pub shown_count : ℕ → ℕ
shown_count n = min n last_count

-- What a choice leaves of a ring: its kind, and how many places it has
pub record RingShape : Type 0 where
  pub kind : RingKind
  pub places : ℕ

abbrev pub shape_of : RingState → RingShape
shape_of r = record { kind = r.kind; places = length r.places }

abbrev pub ring_shape : Option RingState → Option RingShape
ring_shape r = option_map shape_of r
