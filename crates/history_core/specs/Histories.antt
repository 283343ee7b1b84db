-- What every list of events keeps of reads, writes, forks' sizes, lanes, the log and the hint
-- words, in the field's words.
use Rattle.std.specs.Option.{is_some}
use Rattle.std.specs.Prelude.{◌≡◌, ◌≢◌, ◌⊎◌, ℕ, ◌+◌, ◌<◌, ◌≤◌, Bool, true, false, List, [], ◌∷◌}
use Rattle.std.specs.Prelude.{◌++◌, length, Some, None, count_by, if◌then◌else◌}
use mathlib.Core.Option.{some}
use lib.ListN.{get_elem?}
use Rattle.page_layout.specs.Fields.{lsn_of}
use Rattle.page_layout.specs.Soundness.{is_sound_page}
use Rattle.pin_core.specs.declared.view.Call.{Call}
use Rattle.pin_core.specs.declared.view.Call.TheVariants.{Read, Write, Sized}
use Rattle.pin_core.specs.declared.view.SizeRight.TheVariants as size_right
use Rattle.pin_core.specs.declared.view.LastWrite.TheVariants.{Done}
use Rattle.pin_core.specs.declared.view.TakenLane.{TakenLane}
use Rattle.pin_core.specs.declared.view.View.{View}
use Rattle.pin_core.specs.State.{Page, Config, CanOpen, no_tag, link, lane_hold, size_hold}
use Rattle.pin_core.specs.State.{is_block}
use Rattle.pin_core.specs.Invariant.{HasTag}
use Rattle.pin_core.specs.Steps as pin_steps
use Rattle.page_core.specs.Steps as page_steps
use Rattle.page_core.specs.Histories.{NoneUnapplied}
use Rattle.history_core.specs.Log.{sizes_after, Entry, log_end, end_of, cell, cut, head_size}
use Rattle.history_core.specs.Log.{log_bytes, AreImages, Change, image, is_image}
use Rattle.history_core.specs.Log.{change_size, tag_in, IsEntryOf, IsLegal, IsFront, place_of}
use Rattle.history_core.specs.Log.{backend_of, writes_in, writes_at, AreInOrder}
use Rattle.history_core.specs.State.{State, Store, CanStore, stored, stored_upto, synced_upto}
use Rattle.history_core.specs.State.{failed, unsynced, last_position, opening}
use Rattle.history_core.specs.Homes.{home_of, IsFlushedCell}
use Rattle.history_core.specs.Lanes.{LaneKind, lane_out, sync_lane}
use Rattle.history_core.specs.Device.{HasRisen}
use Rattle.history_core.specs.Invariant.{HasNumber, KeptLaw}
use Rattle.history_core.specs.Steps.{Event, pool, lane, write, enter, read, read_size, new_entry}
use Rattle.history_core.specs.Steps.{logged_as, Step, Run}
use Rattle.history_core.specs.Redo.{HasBeenRedo}
use Rattle.history_core.specs.Rest.{NoneAppended, HasRest}
use Rattle.grid.specs.Shape.{total}

-- a list of events leads to the state, from the start of a buffer pool over these lanes
pub record IsReached (s : State) : Type 0 where
  -- what the pool is made of
  pub config : Config
  -- what the lanes and the log are at the start
  pub store : Store
  -- a pool can be made as the config says
  pub opens : CanOpen config
  -- the pool can be made over these lanes and this log
  pub stores : CanStore config store
  -- the page that each frame has at the start
  pub page : Page
  -- the events since the start
  pub events : List Event
  -- the events lead from the start of the pool to the state
  pub run : Run events (opening config store page) s

-- each call of a backend, of a page or of a fork's size, stands at its place in one history, that
-- of the log
abbrev pub CallsAreLegal : State → Type 0
CallsAreLegal s = (i k : ℕ) (v : View) (c : Call) → get_elem? s.pool.core.views i ≡ some v
    → get_elem? v.calls k ≡ some c → IsLegal s.known s.origin s.opened_sizes s.log c

-- if no entry may be made of ranges, each entry of the log is a whole page
abbrev pub ImagesAlone : State → Type 0
ImagesAlone s = s.ranges ≡ false → AreImages s.log.entries

-- each entry of a block is of one of the relations' blocks
abbrev pub EntriesAreOfBlocks : State → Type 0
EntriesAreOfBlocks s = (tag k : ℕ) (e : Entry) → IsEntryOf s.log.entries tag k e
    → is_block s.pool.core tag ≡ true

-- The block has a page: at the start, after all entries and after those up to any place, and in its
-- lane unless its last write failed
pub record HasPages (s : State) (tag : ℕ) : Type 0 where
  -- the block has a page at the start
  pub first : is_some (s.origin tag) ≡ true
  -- the block has a page after all entries
  pub last : is_some (cell s.origin s.log.entries tag) ≡ true
  -- the block has a page after the entries up to any place
  pub upto : (place : ℕ) → is_some (cell s.origin (cut place s.log.entries) tag) ≡ true
  -- the block has a page in its lane, unless its last write failed
  pub held : failed s tag ≡ false → is_some (stored s tag) ≡ true

-- each block of the relations has a page, at the start, after any entries, and in its lane unless
-- its last write failed, if the contents of its lane are known
abbrev pub BlocksAreThere : State → Type 0
BlocksAreThere s = (tag : ℕ) → is_block s.pool.core tag ≡ true → s.known tag ≡ true → HasPages s tag

-- the size of each fork by the log is what the entries make of the one that it had at the start
abbrev pub SizesFollowLog : State → Type 0
SizesFollowLog s = (fork : ℕ)
    → (s.pool.core.size fork).logged ≡ sizes_after s.log.entries s.opened_sizes fork

-- each call is the backend's own, or that of one whose calls it took in
abbrev pub CallsAreOwn : State → Type 0
CallsAreOwn s = (i k : ℕ) (v : View) (c : Call) → get_elem? s.pool.core.views i ≡ some v
    → get_elem? v.calls k ≡ some c → HasNumber v (backend_of c)

-- only the first backend takes in others; they have numbers of their own, which differ from those
-- of the backends that are there
abbrev pub JoinedAreApart : State → Type 0
JoinedAreApart s = KeptLaw s.pool.core.views

-- a backend's front is the largest of the log's base and the places of its calls
abbrev pub FrontsAreReached : State → Type 0
FrontsAreReached s = (i : ℕ) (v : View) → get_elem? s.pool.core.views i ≡ some v → v.emptied ≡ false
    → IsFront s.log.base v.calls v.front

-- the event is no read, entry or `read_size` of backend i, and no join that takes it in or has it
-- take in another
abbrev pub LeavesCalls : Event → ℕ → Type 0
LeavesCalls (read j f) i = i ≢ j
LeavesCalls (read_size j fork) i = i ≢ j
LeavesCalls (enter j f p c) i = i ≢ j
LeavesCalls (pool (page_steps.pins_and_maps (pin_steps.join j))) i = (i ≢ 0) × (i ≢ j)
LeavesCalls _ i = Unit {0}

-- the event doesn't take the lane n out for backend i, nor join that backend into the first
abbrev pub LeavesHold : Event → ℕ → ℕ → Type 0
LeavesHold (lane j m (lane_out taken)) i n = ¬ ((i ≡ j) × (n ≡ m))
LeavesHold (pool (page_steps.pins_and_maps (pin_steps.join j))) i n = i ≢ j
LeavesHold _ i n = Unit {0}

-- View i among these has kept the flushed position that v keeps with the lane n
pub record HasKeptFlushed (views : List View) (i n : ℕ) (v : View) : Type 0 where
  -- view i
  pub view : View
  -- view i is among these
  pub there : get_elem? views i ≡ some view
  -- view i keeps the flushed position with the lane that v keeps
  pub flushed : (lane_hold view n).flushed ≡ (lane_hold v n).flushed

-- a backend keeps the same flushed position with a lane, unless the event takes the lane out for it
-- or joins it into the first
abbrev pub HoldsKeepFlushed : State → Type 0
HoldsKeepFlushed s = (e : Event) (t : State) → Step e s t → (i n : ℕ) (v : View)
    → get_elem? s.pool.core.views i ≡ some v → LeavesHold e i n
    → HasKeptFlushed t.pool.core.views i n v

-- View i among these has the calls and the front of v
pub record HasCallsOf (views : List View) (i : ℕ) (v : View) : Type 0 where
  -- view i
  pub view : View
  -- view i is among these
  pub there : get_elem? views i ≡ some view
  -- view i has the calls of v
  pub calls : view.calls ≡ v.calls
  -- view i has the front of v
  pub front : view.front ≡ v.front

-- a backend's calls and front stay, unless the event is a read, an entry or a `read_size` of that
-- backend, or a join that takes it in or has it take in another
abbrev pub CallsStay : State → Type 0
CallsStay s = (e : Event) (t : State) → Step e s t → (i : ℕ) (v : View)
    → get_elem? s.pool.core.views i ≡ some v → LeavesCalls e i → HasCallsOf t.pool.core.views i v

-- the places of each backend's calls never fall
abbrev pub CallsAreInOrder : State → Type 0
CallsAreInOrder s = (i : ℕ) (v : View) → get_elem? s.pool.core.views i ≡ some v → AreInOrder v.calls

-- The writes of all backends are the entries of the log
pub record WritesAreEntries (s : State) : Type 0 where
  -- there are as many writes as entries
  pub counted : total (λ (v : View). writes_in v.calls) s.pool.core.views ≡ length s.log.entries
  -- each entry is one write
  pub once : (k : ℕ) (e : Entry) → get_elem? s.log.entries k ≡ some e
      → total (λ (v : View). writes_at (end_of e) v.calls) s.pool.core.views ≡ 1

-- what a backend had read or written stands at the place or before it
abbrev pub IsAfterCalls : View → ℕ → Type 0
IsAfterCalls v place = (k : ℕ) (c : Call) → get_elem? v.calls k ≡ some c → place_of c ≤ place

-- A step gave a read of the frame f its place, the log's end: the backend's view was v, and is w
pub record ReadStands (s : State) (f : ℕ) (v w : View) : Type 0 where
  -- the page that is read
  pub page : Page
  -- the page is the one that the backend had copied there under the content lock
  pub copied : (link v f).copied ≡ Some page
  -- the read's block is the frame's, as the pin remembers it
  pub remembered : (link v f).tag ≡ Some (s.pool.core.frame f).tag
  -- the calls grow by the read, at the log's end
  pub added : w.calls ≡ v.calls ++ Read v.number (s.pool.core.frame f).tag page s.end ∷ []
  -- the backend's front is the log's end now
  pub front : w.front ≡ s.end
  -- one more load gave a call its place
  pub place_loads : w.place_loads ≡ v.place_loads + 1
  -- the read's page is the block's page after the entries up to its place, if the contents of the
  -- block's lane are known
  pub is_cell : s.known (s.pool.core.frame f).tag ≡ true
      → cell s.origin (cut s.end s.log.entries) (s.pool.core.frame f).tag ≡ Some page
  -- the read's place is at or past those of the backend's earlier calls
  pub later : IsAfterCalls v s.end
  -- the read's place is at or past the backend's earlier front
  pub above : v.front ≤ s.end

-- A step made a write of the page p of the frame f: its place is the log's new end, past the
-- backend's front
pub record WriteStands (s t : State) (f : ℕ) (p : Page) (change : Change)
    (v w : View) : Type 0 where
  -- the entry is of the frame's block
  pub of : tag_in change ≡ Some (s.pool.core.frame f).tag
  -- the log has one more entry, which the backend made
  pub logged : t.log ≡ record s.log { entries = s.log.entries ++ new_entry s v.number change ∷ [] }
  -- the log's end is where its last entry ends
  pub end : t.end ≡ log_end t.log
  -- the log's end has risen by the entry's length
  pub longer : t.end ≡ s.end + change_size change
  -- if the entry has a whole page, it is the page that is written
  pub image_is : (q : Page) → change ≡ image (s.pool.core.frame f).tag q → q ≡ p
  -- the calls grow by the write, at the log's new end, with what is known of its record
  pub added : w.calls
      ≡ v.calls ++ Write v.number (s.pool.core.frame f).tag p t.end
      (logged_as change v.log.redo (link v f).copied) ∷ []
  -- the backend's front is the log's new end
  pub front : w.front ≡ t.end
  -- the page's position in the log is the write's place
  pub position : lsn_of p ≡ t.end
  -- the page is the block's page after all entries now, if the entry has it whole or the contents
  -- of the block's lane are known
  pub is_cell : (is_image change ≡ true) ⊎ (s.known (s.pool.core.frame f).tag ≡ true)
      → cell t.origin t.log.entries (s.pool.core.frame f).tag ≡ Some p
  -- the write's place is past the backend's earlier front
  pub above : v.front < t.end

-- A step gave a size of the fork its place, the log's end: the backend's view was v, and is w
pub record SizeStands (s : State) (fork : ℕ) (v w : View) : Type 0 where
  -- how many blocks the backend had found in the fork
  pub blocks : ℕ
  -- the backend has the shared right on the fork's size, so the fork keeps it
  pub shared : (size_hold v fork).right ≡ size_right.Shared
  -- the size is the one that the backend found as it got the right
  pub found : (size_hold v fork).blocks ≡ blocks
  -- the calls grow by the size, at the log's end
  pub added : w.calls ≡ v.calls ++ Sized v.number fork blocks s.end ∷ []
  -- the backend's front is the log's end now
  pub front : w.front ≡ s.end
  -- one more load gave a call its place
  pub place_loads : w.place_loads ≡ v.place_loads + 1
  -- the fork has this size after the entries up to the place
  pub sees : sizes_after (cut s.end s.log.entries) s.opened_sizes fork ≡ blocks
  -- the place is at or past those of the backend's earlier calls
  pub later : IsAfterCalls v s.end
  -- the place is at or past the backend's earlier front
  pub above : v.front ≤ s.end

-- each `read_size` stands at the log's end, with the size that the backend had found
abbrev pub SizesStand : State → Type 0
SizesStand s = (i fork : ℕ) (t : State) → Step (read_size i fork) s t
    → (v : View) × (w : View) × (get_elem? s.pool.core.views i ≡ some v)
    × (get_elem? t.pool.core.views i ≡ some w) × SizeStands s fork v w

-- each `read` stands at the log's end, with the page that the backend had copied
abbrev pub ReadsStand : State → Type 0
ReadsStand s = (i f : ℕ) (t : State) → Step (read i f) s t
    → (v : View) × (w : View) × (get_elem? s.pool.core.views i ≡ some v)
    × (get_elem? t.pool.core.views i ≡ some w) × ReadStands s f v w

-- the page of a read whose place is the log's base is what its lane held at the start, if the
-- lane's contents are known
abbrev pub ReadsAtBase : State → Type 0
ReadsAtBase s = (i k backend tag : ℕ) (page : Page) (v : View)
    → get_elem? s.pool.core.views i ≡ some v
    → get_elem? v.calls k ≡ some (Read backend tag page s.log.base) → s.known tag ≡ true
    → s.origin tag ≡ Some page

-- a lane's sync makes durable what the lane holds: the entries of its blocks that are in it
abbrev pub SyncsMakeDurable : State → Type 0
SyncsMakeDurable s = (i n tag : ℕ) (t : State) → Step (lane i n sync_lane) s t → s.lane_of tag ≡ n
    → synced_upto t tag ≡ stored_upto s tag

-- if a block wasn't written since the last sync of its lane, that sync covered all its entries that
-- are in the lane
abbrev pub SyncsCover : State → Type 0
SyncsCover s = (tag : ℕ) → unsynced s tag ≡ false → synced_upto s tag ≡ stored_upto s tag

-- each `enter` is a write of the page, at the log's new end
abbrev pub WritesStand : State → Type 0
WritesStand s = (i f : ℕ) (p : Page) (c : Change) (t : State) → Step (enter i f p c) s t
    → (v : View) × (w : View) × (get_elem? s.pool.core.views i ≡ some v)
    × (get_elem? t.pool.core.views i ≡ some w) × WriteStands s t f p c v w

-- Log before data: the position of the page that goes to a lane, or was to go there when the write
-- failed, is at most the flushed position as the backend had loaded it before the lane went out,
-- and so at most the flushed position
pub record IsFlushed (s : State) (n f : ℕ) (v : View) : Type 0 where
  -- the page's position is at most the flushed position that the backend loaded before the lane
  -- went out
  pub loaded : lsn_of (s.pool.core.frame f).page ≤ (lane_hold v n).flushed
  -- the flushed position that the backend loaded is at most the flushed position
  pub flushed : (lane_hold v n).flushed ≤ s.flushed
  -- each entry up to the page's position is durable
  pub durable : (k : ℕ) (e : Entry) → get_elem? s.log.entries k ≡ some e
      → end_of e ≤ lsn_of (s.pool.core.frame f).page
      → head_size + end_of e ≤ s.log.base + s.device.synced

-- log before data: each page that is written to a lane, or was to be when the write failed, is
-- flushed in the log
abbrev pub LogBeforeData : State → Type 0
LogBeforeData s = (i n f : ℕ) (k : LaneKind) (t : State) → Step (write i n f k) s t
    → (v : View) × (get_elem? s.pool.core.views i ≡ some v) × IsFlushed s n f v

-- as a lane goes out, its holder keeps with it the flushed position that it had loaded
abbrev pub LanesGoOutFlushed : State → Type 0
LanesGoOutFlushed s = (i n : ℕ) (taken : TakenLane) (t : State)
    → Step (lane i n (lane_out taken)) s t
    → (v : View) × (w : View) × (get_elem? s.pool.core.views i ≡ some v)
    × (get_elem? t.pool.core.views i ≡ some w) × ((lane_hold w n).flushed ≡ v.flushed)

-- the flushed position that a backend has loaded is at most the flushed position
abbrev pub LoadedIsFlushed : State → Type 0
LoadedIsFlushed s = (i : ℕ) (v : View) → get_elem? s.pool.core.views i ≡ some v
    → v.flushed ≤ s.flushed

-- The lane holds the frame's page, and the block's last write didn't fail
pub record IsWritten (s : State) (f : ℕ) : Type 0 where
  -- the block's last write didn't fail
  pub done : failed s (s.pool.core.frame f).tag ≡ false
  -- the lane holds the frame's page
  pub stored_is : stored s (s.pool.core.frame f).tag ≡ Some (s.pool.core.frame f).page

-- if the last write under an output right is noted as done, the lane holds the frame's page, and
-- the block's last write didn't fail
abbrev pub NotedWritesAreDone : State → Type 0
NotedWritesAreDone s = (i f : ℕ) (v : View) → get_elem? s.pool.core.views i ≡ some v
    → f < s.pool.core.frames → (link v f).last_write ≡ Done → IsWritten s f

-- no lane holds a page ahead of the flushed log
abbrev pub LanesHoldFlushedPages : State → Type 0
LanesHoldFlushedPages s = (tag : ℕ) → IsFlushedCell s.origin s.log s.flushed tag (home_of s tag)

-- no dirty frame has the tag
abbrev pub HasNoDirtyFrame : State → ℕ → Type 0
HasNoDirtyFrame s tag = (f : ℕ) → f < s.pool.core.frames → (s.pool.core.frame f).tag ≡ tag
    → (s.pool.core.frame f).word.dirty ≡ false

-- The block's last write didn't fail, and the lane holds its page after all entries, if the lane's
-- contents are known
pub record IsStored (s : State) (tag : ℕ) : Type 0 where
  -- the block's last write didn't fail
  pub done : failed s tag ≡ false
  -- the lane holds the block's page after all entries, if its contents are known
  pub stored_is : s.known tag ≡ true → stored s tag ≡ cell s.origin s.log.entries tag

-- if no dirty frame has a block of the relations, the block's last write didn't fail, and the lane
-- holds its page after all entries, if the lane's contents are known
abbrev pub CleanBlocksAreStored : State → Type 0
CleanBlocksAreStored s = (tag : ℕ) → tag ≢ no_tag → is_block s.pool.core tag ≡ true
    → HasNoDirtyFrame s tag → IsStored s tag

-- the page of a valid frame is sound
abbrev pub FramesAreSound : State → Type 0
FramesAreSound s = (f : ℕ) → f < s.pool.core.frames → (s.pool.core.frame f).word.valid ≡ true
    → is_sound_page (s.pool.core.frame f).page ≡ true

-- a valid frame holds its block's page after all entries, if the contents of the block's lane are
-- known, unless a view has an entry to apply there
abbrev pub FramesHoldCells : State → Type 0
FramesHoldCells s = (f : ℕ) → s.known (s.pool.core.frame f).tag ≡ true → f < s.pool.core.frames
    → HasTag (s.pool.core.frame f) → (s.pool.core.frame f).word.valid ≡ true
    → NoneUnapplied s.pool f
    → cell s.origin s.log.entries (s.pool.core.frame f).tag ≡ Some (s.pool.core.frame f).page

-- The redo position, and each that it has been, is the log's base or one that a view lists
pub record RedoIsListed (s : State) : Type 0 where
  -- the redo position is the log's base, or one that a view raised it to
  pub now : HasBeenRedo s s.redo
  -- no step forgets a position that has been the redo position
  pub stays : (e : Event) (t : State) → Step e s t → (r : ℕ) → HasBeenRedo s r → HasBeenRedo t r
  -- what a backend has loaded as the redo position under the log's latch, and not raised since, is
  -- the redo position
  pub loaded : (i : ℕ) (v : View) (r : ℕ) → get_elem? s.pool.core.views i ≡ some v
      → v.log.redo ≡ Some r → r ≡ s.redo

-- The words of the log
pub record LogWords (s : State) : Type 0 where
  -- the log's end is where its last entry ends, or the base if it has none
  pub ends : s.end ≡ log_end s.log
  -- the log's bytes, behind its base, are those of its head and of its entries
  pub bytes : length (log_bytes s.names s.log) + s.log.base ≡ head_size + s.end
  -- the log's end is at most the last position
  pub limit : s.end ≤ last_position
  -- the flushed position is at least the log's base
  pub flushed_from : s.log.base ≤ s.flushed
  -- the flushed position is at most the log's end
  pub flushed_to : s.flushed ≤ s.end
  -- the redo position is at least the log's base
  pub redo_from : s.log.base ≤ s.redo
  -- the redo position is at most the log's end
  pub redo_to : s.redo ≤ s.end

-- each entry that ends at the flushed position or before it is durable in the log's device
abbrev pub EntriesAreDurable : State → Type 0
EntriesAreDurable s = (k : ℕ) (e : Entry) → get_elem? s.log.entries k ≡ some e
    → end_of e ≤ s.flushed → head_size + end_of e ≤ s.log.base + s.device.synced

-- What the log's device holds
pub record DeviceHoldsLog (s : State) : Type 0 where
  -- the device holds the log's bytes, unless the log is down or a record is appended that isn't
  -- part of the log yet
  pub whole : s.device.down ≡ None → NoneAppended s → s.device.bytes ≡ log_bytes s.names s.log
  -- once the log is down, the device holds the log's bytes and after them the first bytes of one
  -- record, that of an entry which starts at the log's end, or all of them, or none
  pub left : s.device.down ≢ None → HasRest s
  -- a log that is down has the end that it had at the failure
  pub down : (p : ℕ) → s.device.down ≡ Some p → p ≡ s.end
  -- the log is down only if a call of its device failed since the start
  pub rose : s.device.down ≢ None → HasRisen s.log_faults s.device.faults
  -- if a view saw the log down, it is down
  pub saw : (i : ℕ) (v : View) → get_elem? s.pool.core.views i ≡ some v → v.saw_down ≡ true
      → s.device.down ≢ None

-- whether the view holds the latch of the lane n
abbrev pub holds_lane : ℕ → View → Bool
holds_lane n v = (lane_hold v n).held

-- one view has a lane's latch if it is taken, and none if it isn't
abbrev pub LanesAreHeld : State → Type 0
LanesAreHeld s = (n : ℕ) → n < s.lanes
    → count_by (holds_lane n) s.pool.core.views ≡ (if (s.lane n).taken then 1 else 0)

-- whether the view holds the log's latch
abbrev pub holds_log : View → Bool
holds_log v = v.log.held

-- one view has the log's latch if it is taken, and none if it isn't
abbrev pub LogIsHeld : State → Type 0
LogIsHeld s = count_by holds_log s.pool.core.views ≡ (if s.device.taken then 1 else 0)

-- a hint word names no frame, by 0, or the frame f that is there, by f + 1
abbrev pub HintsNameFrames : State → Type 0
HintsNameFrames s = (number : ℕ) → s.hint number ≤ s.pool.core.frames
