-- A buffer ring by what it shows, and what each call makes of it.
use Rattle.std.specs.Prelude.{◌≡◌, ℕ, ◌+◌, ◌/◌, ◌%◌, ◌<◌, ◌≤◌, List, length, min, replicate}
use Rattle.std.specs.Prelude.{slice_index_or, slice_set, Option, Some, None}
use Rattle.access_rings.specs.declared.ring.RingKind.{RingKind}
use Rattle.access_rings.specs.declared.ring.RingKind.TheVariants.{BulkRead, BulkWrite, Vacuum}

-- The places stand in a circle, and each has the number of a frame or is empty. The current place
-- is the one that was looked at last, and place 0 before that.
pub record RingState : Type 0 where
  pub kind : RingKind
  pub places : List (Option ℕ)
  pub current : ℕ

-- the ring with this kind, these places and this current place
abbrev pub ring_state : RingKind → List (Option ℕ) → ℕ → RingState
ring_state kind places current = record { kind = kind; places = places; current = current }

-- how many places a ring of a kind has if the pool is large enough
abbrev pub full_size : RingKind → ℕ
full_size BulkRead = 32
full_size BulkWrite = 2048
full_size Vacuum = 32

-- how many places a ring has in a pool of this many frames: at most an eighth of the pool
abbrev pub ring_size : RingKind → ℕ → ℕ
ring_size kind frames = min (full_size kind) (frames / 8)

-- a ring that was never used: each place is empty, and the current one is place 0
abbrev pub new_ring : RingKind → ℕ → RingState
new_ring kind frames = ring_state kind (replicate (ring_size kind frames) None) 0

-- the current place is one of the places, of which there are no more than the kind may have
pub record IsRing (ring : RingState) : Type 0 where
  pub current : ring.current < length ring.places
  pub size : length ring.places ≤ full_size ring.kind

-- what stands at the current place
abbrev pub frame_at_current : RingState → Option ℕ
frame_at_current ring = slice_index_or ring.places ring.current None

-- the place after the current one is current, and place 0 comes after the last
abbrev pub ring_after_next : RingState → RingState
ring_after_next ring = record ring { current = (ring.current + 1) % length ring.places }

-- the current place has the frame
abbrev pub ring_after_keep : ℕ → RingState → RingState
ring_after_keep frame ring =
    record ring { places = slice_set ring.places ring.current (Some frame) }

-- the ring is for bulk reads, and the frame stands at its current place
pub record Rejects (ring : RingState) (frame : ℕ) : Type 0 where
  pub bulk_read : ring.kind ≡ BulkRead
  pub held : frame_at_current ring ≡ Some frame

-- the current place is empty
abbrev pub ring_after_rejection : RingState → RingState
ring_after_rejection ring = record ring { places = slice_set ring.places ring.current None }
