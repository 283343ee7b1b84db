-- What the protocol promises to the users of a buffer pool, whatever the backends do.
use Rattle.std.specs.Prelude.{◌≡◌, ◌≢◌, ◌⊎◌, ℕ, ◌+◌, ◌<◌, ◌≤◌, true, false, List, [], ◌∷◌}
use mathlib.Core.Option.{some}
use lib.ListN.{get_elem?}
use Rattle.pin_core.specs.declared.view.JoinedCheckpoint.{JoinedCheckpoint}
use Rattle.pin_core.specs.declared.view.View.{View}
use Rattle.pin_core.specs.State.{link, lane_hold}
use Rattle.pin_core.specs.declared.view.Role.TheVariants.{Absent}
use Rattle.pin_core.specs.declared.view.Content.TheVariants.{Unlocked, Exclusive}
use Rattle.pin_core.specs.Kinds.{unpin, load_state}
use Rattle.pin_core.specs.Steps as pin_steps
use Rattle.pin_core.specs.Schedules.{IsHandedOut, KeepsTag}
use Rattle.page_core.specs.Steps as page_steps
use Rattle.history_core.specs.Log.{Entry, IsEntryOf, end_of, cell, cut, head_size}
use Rattle.history_core.specs.State.{State, stored, synced_upto, failed}
use Rattle.history_core.specs.Swept.{has_swept}
use Rattle.history_core.specs.Debts.{has_visited, has_left_to_write}
use Rattle.history_core.specs.Steps.{Event, pool, Step, Run}

-- none of the events is the unpin of the frame f by backend i
abbrev pub HasNoUnpin : ℕ → ℕ → List Event → Type 0
HasNoUnpin i f [] = Unit {0}
HasNoUnpin i f (e ∷ es) = (e ≢ pool (page_steps.pins_and_maps (pin_steps.at i f unpin)))
    × HasNoUnpin i f es

-- as long as a backend has a handed-out pin of it, a frame keeps its tag, and the pin stays handed
-- out
abbrev pub PinnedTagsStay : State → Type 0
PinnedTagsStay s = (i f : ℕ) (es : List Event) (t : State) → IsHandedOut s.pool.core i f
    → HasNoUnpin i f es → Run es s t
    → KeepsTag s.pool.core t.pool.core f × IsHandedOut t.pool.core i f

-- if a load of the state word shows a reference count of 1 to a backend that pins the frame and has
-- its content lock exclusively, no other backend pins the frame or has its content lock
abbrev pub GrantsAreAlone : State → Type 0
GrantsAreAlone s = (i f : ℕ) (v : View) (t : State)
    → Step (pool (page_steps.pins_and_maps (pin_steps.at i f load_state))) s t
    → get_elem? s.pool.core.views i ≡ some v → (s.pool.core.frame f).word.pins ≡ 1
    → (link v f).role ≢ Absent → (link v f).content ≡ Exclusive
    → (j : ℕ) (u : View) → j ≢ i → get_elem? s.pool.core.views j ≡ some u
    → ((link u f).role ≡ Absent) × ((link u f).content ≡ Unlocked)

-- The lane of an entry's block, whose tag is this, holds the block's page after the entry or after
-- a later one
pub record IsInLane (s : State) (e : Entry) (tag : ℕ) : Type 0 where
  -- the position of the log up to which the block's entries are in its lane
  pub place : ℕ
  -- the entry ends at `place` or before it
  pub later : end_of e ≤ place
  -- the log is flushed up to `place`
  pub flushed : place ≤ s.flushed
  -- the entry is durable in the log
  pub durable : head_size + end_of e ≤ s.log.base + s.device.synced
  -- if the lane's contents are known, the lane holds the block's page after the entries up to
  -- `place`
  pub holds : s.known tag ≡ true → stored s tag ≡ cell s.origin (cut place s.log.entries) tag

-- The last write of a block failed, and the block's frame is valid and dirty
pub record IsUnwritten (s : State) (tag : ℕ) : Type 0 where
  -- the block's last write failed
  pub failed_write : failed s tag ≡ true
  -- the block's frame
  pub frame : ℕ
  -- the frame is one of the pool
  pub inside : frame < s.pool.core.frames
  -- the frame has the block's tag
  pub tagged : (s.pool.core.frame frame).tag ≡ tag
  -- the frame is valid
  pub valid : (s.pool.core.frame frame).word.valid ≡ true
  -- the frame is dirty
  pub dirty : (s.pool.core.frame frame).word.dirty ≡ true

-- each entry up to the position `upto` is durable in the log
abbrev pub AreDurable : State → ℕ → Type 0
AreDurable s upto = (k : ℕ) (e : Entry) → get_elem? s.log.entries k ≡ some e → end_of e ≤ upto
    → head_size + end_of e ≤ s.log.base + s.device.synced

-- each entry that ends at the position `upto` or before it is in its block's lane, or its block's
-- last write failed
abbrev pub AreStored : State → ℕ → Type 0
AreStored s upto = (k tag : ℕ) (e : Entry) → IsEntryOf s.log.entries tag k e → end_of e ≤ upto
    → IsInLane s e tag ⊎ IsUnwritten s tag

-- the lanes' syncs have covered all entries up to the position `upto`
abbrev pub AreSynced : State → ℕ → Type 0
AreSynced s upto = (k tag : ℕ) (e : Entry) → IsEntryOf s.log.entries tag k e → end_of e ≤ upto
    → end_of e ≤ synced_upto s tag

-- if a backend has swept each lane up to the position `upto`, or one that was joined into it had,
-- syncs have covered each entry up to there, and its block's lane holds it, or the block's last
-- write failed
abbrev pub SweepsStore : State → Type 0
SweepsStore s = (i upto : ℕ) (v : View) → get_elem? s.pool.core.views i ≡ some v
    → ((n : ℕ) → n < s.lanes → upto ≤ (lane_hold v n).swept)
    ⊎ ((k : ℕ) × (c : JoinedCheckpoint) × (get_elem? v.joined_checkpoints k ≡ some c)
    × ((n : ℕ) → n < s.lanes → upto ≤ has_swept c n))
    → AreSynced s upto × AreStored s upto

-- What holds at the end of a checkpoint, once it has visited every frame and has none left to
-- write. A checkpoint has no step for its end: the promise holds in the state where it ends
pub record CheckpointsStore (s : State) : Type 0 where
  -- if a view's own checkpoint has visited every frame and has none left to write, each entry up to
  -- where it began is stored
  pub own : (i : ℕ) (v : View) → get_elem? s.pool.core.views i ≡ some v
      → ((f : ℕ) → f < s.pool.core.frames
      → ((link v f).visited ≡ true) × ((link v f).left_to_write ≡ false))
      → AreStored s v.upto
  -- if the checkpoint of a backend that was joined into the view had visited every frame and had
  -- none left to write, each entry up to where it began is stored
  pub kept : (i k : ℕ) (v : View) (c : JoinedCheckpoint) → get_elem? s.pool.core.views i ≡ some v
      → get_elem? v.joined_checkpoints k ≡ some c
      → ((f : ℕ) → f < s.pool.core.frames
      → (has_visited c f ≡ true) × (has_left_to_write c f ≡ false))
      → AreStored s c.upto
