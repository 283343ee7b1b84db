-- What a backend has of its own, and what calls keep of it.
use Rattle.std.specs.Prelude.{◌≡◌}
use Rattle.pin_core.specs.declared.view.View.{View}
use Rattle.frame_table.specs.declared.table.FrameTable.{FrameTable}
use Rattle.frame_table.specs.Seats.{frames_of}
use Rattle.clock_sweep.specs.declared.sweep.Sweep.{Sweep}
use Rattle.clock_sweep.specs.FreeFrames.{SameQueue}
use Rattle.clock_sweep.specs.FreeLists.{IsFreeList}
use Rattle.access_rings.specs.RingState.{RingState}
use Rattle.std.specs.Prelude.{Option}
use Rattle.buffer_frames.specs.declared.backend.Backend.{Backend}
use Rattle.buffer_frames.specs.Outside.{shown_count}
use Rattle.buffer_frames.specs.VictimChoices.{ChoiceState, choice_state}

-- what a choice goes by
abbrev pub choice_of : Backend → Option RingState → ChoiceState
choice_of b r = choice_state b.queue r b.census

module _ {L G : Type 0} where
  -- A backend has a pass of the clock's free list, room for a census of its frames, and counts the
  -- latches of partitions that its view took
  pub record IsFurnished (t : FrameTable L G) (w : Sweep) (b : Backend) (v : View) : Type 0 where
    pub queue : IsFreeList t w b.queue
    pub census : b.census.frames ≡ frames_of t
    pub counted : b.lookups.turns ≡ shown_count v.turns

  -- A backend keeps its pass of the free list, but for what it pushed there and took, its census's
  -- room, and its count of latches of partitions. It publishes none of its counts
  pub record KeepsOwn (t : FrameTable L G) (w : Sweep) (b c : Backend) (v : View) : Type 0 where
    pub queue : IsFreeList t w c.queue
    pub lasts : SameQueue b.queue c.queue
    pub room : c.census.frames ≡ b.census.frames
    pub counted : c.lookups.turns ≡ shown_count v.turns
    pub published : c.io.published ≡ b.io.published
