-- The syncs of lanes: up to where they have covered the log's entries.
use Rattle.std.specs.Prelude.{◌≡◌, ℕ, ◌≤◌, slice_index_or}
use mathlib.Core.Option.{some}
use lib.ListN.{get_elem?}
use Rattle.pin_core.specs.declared.view.JoinedCheckpoint.{JoinedCheckpoint}
use Rattle.pin_core.specs.declared.view.View.{View}
use Rattle.pin_core.specs.State.{lane_hold}
use Rattle.history_core.specs.Log.{Entry, IsEntryOf, end_of}
use Rattle.history_core.specs.State.{State, synced_upto}

-- A sync of the lane n has covered each entry of its blocks that ends at the position or before it
pub record IsSwept (s : State) (n upto : ℕ) : Type 0 where
  -- the position is the log's end at most
  pub within : upto ≤ s.end
  -- a sync has covered each entry of the lane's blocks that ends at the position or before it
  pub covered : (k tag : ℕ) (e : Entry) → IsEntryOf s.log.entries tag k e → s.lane_of tag ≡ n
      → end_of e ≤ upto
      → end_of e ≤ synced_upto s tag

-- the position up to which a backend that was joined into another had swept the lane n
abbrev pub has_swept : JoinedCheckpoint → ℕ → ℕ
has_swept c n = slice_index_or c.swept n 0

-- What holds of the positions up to which a view has swept the lanes, and of those up to which the
-- backends that were joined into it had
pub record ViewSwept (s : State) (v : View) : Type 0 where
  -- syncs have covered each lane's entries up to where the view has swept it
  pub own : (n : ℕ) → IsSwept s n (lane_hold v n).swept
  -- syncs have covered each lane's entries up to where a backend that was joined into the view had
  -- swept it
  pub kept : (k n : ℕ) (c : JoinedCheckpoint) → get_elem? v.joined_checkpoints k ≡ some c
      → IsSwept s n (has_swept c n)

-- The law of what the lanes' syncs have covered
pub record SweptLaw (s : State) : Type 0 where
  -- each entry that a sync has covered is in the lane
  pub below : (q tag : ℕ) → (s.lane q).synced_upto tag ≤ (s.lane q).stored_upto tag
  -- what a view has swept, and what the backends had that were joined into it, is covered
  pub each : (i : ℕ) (v : View) → get_elem? s.pool.core.views i ≡ some v → ViewSwept s v
