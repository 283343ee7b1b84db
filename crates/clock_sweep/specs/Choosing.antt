-- How a frame is chosen, and why none is (`StrategyGetBuffer`).
use Rattle.std.specs.Prelude.{◌≡◌, ℕ, ◌+◌, ◌-◌, ◌<◌, ◌≤◌, ◌%◌, Bool, true, false, List, [], ◌∷◌, ◌++◌, Option, Some, None, option_map, if◌then◌else◌}
use Rattle.std.specs.Option.{option_and_then}
use mathlib.Core.Logic.{◌⊎◌}
use Rattle.state_word.specs.declared.word.StateWord.{StateWord}
use Rattle.state_word.specs.Fields.{fields, locked_fields}
use Rattle.pin_core.specs.declared.view.View.{View}
use Rattle.pin_core.specs.Kinds.{lock_header, unlock_header, lower_usage}
use Rattle.frame_table.specs.Kinds.{pins}
use Rattle.frame_table.specs.Seats.{IsUsed}
use Rattle.frame_table.specs.FrameSteps.{Did, Looks, looking}
use Rattle.frame_table.specs.WordSteps.{DidWord, add_hand}
use Rattle.access_rings.specs.RingState.{RingState, frame_at_current, ring_after_keep, ring_after_next}
use Rattle.clock_sweep.specs.declared.held.LockedFrame.{LockedFrame}
use Rattle.clock_sweep.specs.declared.clock.Treated.{Treated}
use Rattle.clock_sweep.specs.declared.clock.Treated.TheVariants.{Chosen, Passed}
use Rattle.clock_sweep.specs.declared.taking.Origin.{Origin}
use Rattle.clock_sweep.specs.declared.taking.Origin.TheVariants.{Ring, Pool}
use Rattle.clock_sweep.specs.FreeFrames.{ListHad, QueueState, taking}
use Rattle.clock_sweep.specs.Keeping.{SamePins}

-- The header of the frame f was locked, after loads, and this word is held: the word found, locked
-- (`LocksHeader` of `content_locks` names the word found alone)
pub record TakesHeader (f : ℕ) (v w : View) (word : ℕ) : Type 0 where
  pub before : View
  pub was : ℕ
  pub looks : Looks f v before
  pub did : Did (pins lock_header) f before w was
  pub held : fields word ≡ locked_fields (fields was)

-- No backend pins the frame, and its usage count is at most the limit
pub record IsFit (limit : ℕ) (w : StateWord) : Type 0 where
  pub unpinned : w.pins ≡ 0
  pub little_used : w.usage ≤ limit

-- a backend pins it, or its usage count is above the limit
abbrev pub IsUnfit : ℕ → StateWord → Type 0
IsUnfit limit w = (0 < w.pins) ⊎ (limit < w.usage)

-- A frame was chosen: its header is held, at a word that is fit
pub record Takes (limit : ℕ) (held : LockedFrame) (v w : View) : Type 0 where
  pub locks : TakesHeader held.frame v w held.word
  pub fit : IsFit limit (fields held.word)

-- The frame f was left: its header was locked at a word that is unfit, and unlocked
pub record LeavesFrame (limit f : ℕ) (v w : View) : Type 0 where
  pub under : View
  pub word : ℕ
  pub found : ℕ
  pub locks : TakesHeader f v under word
  pub unfit : IsUnfit limit (fields word)
  pub unlocks : Did (pins unlock_header) f under w found

-- whether a frame comes from the ring
abbrev pub is_ring : Origin → Bool
is_ring Ring = true
is_ring Pool = false

-- the usage count that a frame of the ring may have, and one from elsewhere
abbrev pub usage_allowed : Bool → ℕ
usage_allowed from_ring = if from_ring then 1 else 0

-- The frame f is not taken: it is none of the n, or it was left
pub data Skips (n limit f : ℕ) (v w : View) : Type 0 where
  beyond : n ≤ f → w ≡ v → Skips n limit f v w
  unfit : f < n → LeavesFrame limit f v w → Skips n limit f v w

-- Nothing stands at the ring's place, or a frame that is not taken
pub data LeavesRing (n : ℕ) (place : Option ℕ) (v w : View) : Type 0 where
  empty : place ≡ None → w ≡ v → LeavesRing n place v w
  tried : (f : ℕ) → place ≡ Some f → Skips n 1 f v w → LeavesRing n place v w

-- The view v and the pass q of the free list became w and r as frames were popped there, none of
-- which was taken
pub data LeavesFree (n : ℕ) : View → QueueState → View → QueueState → Type 0 where
  still : {v : View} {q : QueueState} → LeavesFree n v q v q
  again : {v u w : View} {q r : QueueState} (f : ℕ) → LeavesFree n v q u r → f < r.known.frames
      → Skips n 0 f u w → LeavesFree n v q w (taking f r)

-- The frames below a number were loaded in order, with these words, each of which shows a pin; and
-- at each load the backend pinned just what it pinned at `entry`
pub data Counts (entry v : View) : ℕ → View → List ℕ → Type 0 where
  nothing : Counts entry v 0 v []
  one_more : {f : ℕ} {u w : View} {words : List ℕ} (word : ℕ) → Counts entry v f u words
      → SamePins entry u → Did looking f u w word → 0 < (fields word).pins
      → Counts entry v (f + 1) w (words ++ word ∷ [])

-- The frame f, below n, is the first in a census that no backend pins
pub record FindsUnpinned (n f : ℕ) (v w : View) : Type 0 where
  pub inside : f < n
  pub before : View
  pub words : List ℕ
  pub word : ℕ
  pub counts : Counts v v f before words
  pub did : Did looking f before w word
  pub unpinned : (fields word).pins ≡ 0

-- The next frame of the clock with so many tries left is f, and so many are left then: the hand
-- moves on while tries are left, and else a census finds the frame and gives all tries back
pub data NextIs (n tries : ℕ) (v w : View) (f left : ℕ) : Type 0 where
  ticked : (hand : ℕ) → 0 < tries → DidWord add_hand v w hand → f ≡ hand % n → left ≡ tries
      → NextIs n tries v w f left
  counted : tries ≡ 0 → FindsUnpinned n f v w → left ≡ n → NextIs n tries v w f left

-- The clock passes the frame f with so many tries left, and so many are left then: a frame that no
-- backend pins loses one of its usage count and gives all tries back, and a pinned one takes a try
pub data Passes (n f tries : ℕ) (v w : View) (left : ℕ) : Type 0 where
  lowers : {u : View} {word : ℕ} → TakesHeader f v u word → IsUsed (fields word)
      → Did (pins lower_usage) f u w word → left ≡ n → Passes n f tries v w left
  leaves : {u : View} {word found : ℕ} → TakesHeader f v u word → 0 < (fields word).pins
      → Did (pins unlock_header) f u w found → left ≡ tries - 1 → Passes n f tries v w left

-- the view v became w as the clock passed frames, and so many tries are left
pub data Sweeps (n : ℕ) : View → View → ℕ → Type 0 where
  starts : {v : View} → Sweeps n v v n
  passes : {v u x w : View} {tries left rest : ℕ} (f : ℕ) → Sweeps n v u tries
      → NextIs n tries u x f left → Passes n f left x w rest → Sweeps n v w rest

-- the clock came to the frame f, with so many tries left
abbrev pub Comes : ℕ → View → View → ℕ → ℕ → Type 0
Comes n v w f left = (u : View) × (tries : ℕ) × Sweeps n v u tries × NextIs n tries u w f left

-- A frame was chosen: the ring's; or, if that isn't taken, the one that was popped last from the
-- free list; or, if that list was found empty, one of the clock
pub data Chooses (n : ℕ) (place : Option ℕ) (v : View) (q : QueueState) (w : View) (r : QueueState)
    (held : LockedFrame) : Type 0 where
  from_ring : held.from_ring ≡ true → place ≡ Some held.frame → Takes 1 held v w → r ≡ q
      → Chooses n place v q w r held
  from_list : {u x : View} {p : QueueState} → held.from_ring ≡ false → LeavesRing n place v u
      → LeavesFree n u q x p → Takes 0 held x w → r ≡ taking held.frame p
      → Chooses n place v q w r held
  by_clock : {u x y : View} {left : ℕ} → held.from_ring ≡ false → LeavesRing n place v u
      → LeavesFree n u q x r → ListHad 0 r.known → Comes n x y held.frame left → Takes 0 held y w
      → Chooses n place v q w r held

-- No frame was chosen: neither the ring's nor one of the free list is taken, which was found empty,
-- the clock ran out of tries, and a census of all n frames finds each pinned
pub record FindsNone (n : ℕ) (place : Option ℕ) (v : View) (q : QueueState) (w : View)
    (r : QueueState) (words : List ℕ) : Type 0 where
  pub listed : View
  pub started : View
  pub tired : View
  pub ring : LeavesRing n place v listed
  pub free : LeavesFree n listed q started r
  pub empty : ListHad 0 r.known
  pub clock : Sweeps n started tired 0
  pub census : Counts v tired n w words

-- the ring, if there is one, goes on by a place
abbrev pub ring_gone_on : Option RingState → Option RingState
ring_gone_on ring = option_map ring_after_next ring

-- what stands at the current place of the ring
abbrev pub frame_at_place : Option RingState → Option ℕ
frame_at_place ring = option_and_then frame_at_current ring

-- the ring keeps a frame from elsewhere at its current place
abbrev pub ring_keeping : Bool → ℕ → Option RingState → Option RingState
ring_keeping true frame ring = ring
ring_keeping false frame ring = option_map (ring_after_keep frame) ring

-- what the clock did with the frame f, with so many tries left
abbrev pub Treats : ℕ → ℕ → ℕ → View → View → Treated → Type 0
Treats n f tries v w (Chosen held) = (held.frame ≡ f) × (held.from_ring ≡ false) × Takes 0 held v w
Treats n f tries v w (Passed left) = Passes n f tries v w left
