-- What holds of the lanes, the log and the calls in every state that steps lead to.
use Rattle.std.specs.Prelude.{◌≡◌, ◌≢◌, ℕ, ◌+◌, ◌<◌, ◌≤◌, Bool, true, false, List, [], Option}
use Rattle.std.specs.Prelude.{length}
use mathlib.Core.Option.{some}
use lib.ListN.{get_elem?}
use Rattle.pin_core.specs.declared.view.Call.{Call}
use Rattle.pin_core.specs.declared.view.JoinedCheckpoint.{JoinedCheckpoint}
use Rattle.pin_core.specs.declared.view.View.{View}
use Rattle.pin_core.specs.State.{Page, no_tag, is_block}
use Rattle.page_core.specs.Invariant as pages
use Rattle.std.specs.Option.{is_some}
use Rattle.history_core.specs.Log.{AreOfPages, Entry, Log, LogLaw, IsEntryOf, HasImage, log_end}
use Rattle.history_core.specs.Log.{head_size, log_bytes, end_of, cell, cut, IsLegal, place_of}
use Rattle.history_core.specs.Log.{backend_of, writes_in, writes_at, HasPlace, AreInOrder}
use Rattle.history_core.specs.State.{State, last_position}
use Rattle.history_core.specs.Log.{sizes_after}
use Rattle.history_core.specs.Lanes.{lane_shape, lane_part}
use Rattle.history_core.specs.Device.{Written, log_shape, log_part}
use Rattle.history_core.specs.Homes.{home_of, home_shape, home_part, IsClean, IsUnframed}
use Rattle.history_core.specs.Homes.{IsFlushedCell}
use Rattle.grid.specs.Shape.{Grid, total}

-- the number is the view's own, or that of a backend whose calls it took in
abbrev pub HasNumber : View → ℕ → Type 0
HasNumber v number = number ≢ v.number
    → (k : ℕ) × (c : JoinedCheckpoint) × (get_elem? v.joined_checkpoints k ≡ some c)
    × (c.number ≡ number)

-- What holds of the calls of a view
pub record CallsLaw (known : ℕ → Bool) (origin : ℕ → Option Page) (sizes : ℕ → ℕ) (log : Log)
    (flushed : ℕ) (v : View) : Type 0 where
  -- each call is legal with the log
  pub legal : (k : ℕ) (c : Call) → get_elem? v.calls k ≡ some c → IsLegal known origin sizes log c
  -- each call is of the view's own backend, or of one that it took in
  pub own : (k : ℕ) (c : Call) → get_elem? v.calls k ≡ some c → HasNumber v (backend_of c)
  -- no call has a place past the front
  pub fronted : (k : ℕ) (c : Call) → get_elem? v.calls k ≡ some c → place_of c ≤ v.front
  -- the front of a view that isn't emptied is at least the log's base
  pub from_base : v.emptied ≡ false → log.base ≤ v.front
  -- if the front of a view that isn't emptied isn't the log's base, some call has that place
  pub reached : v.emptied ≡ false → v.front ≢ log.base → HasPlace v.calls v.front
  -- the front is at most the log's end
  pub within : v.front ≤ log_end log
  -- the places of each backend's calls never fall
  pub in_order : AreInOrder v.calls
  -- the flushed position that the view has loaded is at most the flushed position
  pub loaded : v.flushed ≤ flushed

-- What holds of the backends that were joined into the first
pub record KeptLaw (views : List View) : Type 0 where
  -- no view but the first took in a backend
  pub only_first : (i : ℕ) (v : View) → get_elem? views i ≡ some v → i ≢ 0
      → v.joined_checkpoints ≡ []
  -- the view of a backend that was taken in is emptied
  pub spent : (i k : ℕ) (v : View) (c : JoinedCheckpoint) → get_elem? views i ≡ some v
      → get_elem? v.joined_checkpoints k ≡ some c
      → (u : View) × (get_elem? views c.number ≡ some u) × (u.emptied ≡ true)
  -- backends that were joined into the first have different numbers
  pub apart : (i j k : ℕ) (v : View) (c d : JoinedCheckpoint) → get_elem? views i ≡ some v
      → get_elem? v.joined_checkpoints j ≡ some c → get_elem? v.joined_checkpoints k ≡ some d
      → c.number ≡ d.number → j ≡ k

-- What holds of the calls of all views
pub record HistoryLaw (known : ℕ → Bool) (origin : ℕ → Option Page) (sizes : ℕ → ℕ) (log : Log)
    (flushed : ℕ) (views : List View) : Type 0 where
  -- the law of each view's calls
  pub calls : (i : ℕ) (v : View) → get_elem? views i ≡ some v
      → CallsLaw known origin sizes log flushed v
  -- the law of the backends that were joined into the first
  pub kept : KeptLaw views
  -- the writes in all views are as many as the entries
  pub counted : total (λ (v : View). writes_in v.calls) views ≡ length log.entries
  -- each entry is a write in exactly one view
  pub once : (k : ℕ) (e : Entry) → get_elem? log.entries k ≡ some e
      → total (λ (v : View). writes_at (end_of e) v.calls) views ≡ 1

-- what is known of the log: its bytes, its end, and how many calls of its device had failed at the
-- start
abbrev pub written_of : State → Written
written_of s = record { bytes = log_bytes s.names s.log; end = s.end; faults = s.log_faults }

-- The law of the buffer pool, and that of the lanes, the log and the calls
pub record HistoryInvariant (s : State) : Type 0 where
  -- the law of pins, headers, tags, maps, forks' sizes, content locks and pages
  pub pool : pages.PageInvariant s.pool
  -- the page of a block after the log is what its entries make of the one that its lane held at the
  -- start, if the lane's contents are known
  pub logged : (tag : ℕ) → s.known tag ≡ true → s.pool.logged tag ≡ cell s.origin s.log.entries tag
  -- each fork's size by the log is what the entries make of its size at the start
  pub sizes : (fork : ℕ)
      → (s.pool.core.size fork).logged ≡ sizes_after s.log.entries s.opened_sizes fork
  -- forks don't grow or shrink yet
  pub quiet : s.pool.core.resizes ≡ false
  -- if forks don't grow and shrink, each entry is of a page
  pub of_pages : s.pool.core.resizes ≡ false → AreOfPages s.log.entries
  -- each block of the relations has a page, if the contents of its lane are known
  pub there : (tag : ℕ) → is_block s.pool.core tag ≡ true → s.known tag ≡ true
      → is_some (cell s.origin s.log.entries tag) ≡ true
  -- after an entry a block's page is one with content, whose position is the entry's end, if the
  -- contents of the block's lane are known
  pub pages : (k tag : ℕ) (e : Entry) → IsEntryOf s.log.entries tag k e → s.known tag ≡ true
      → HasImage (end_of e) (cell s.origin (cut (end_of e) s.log.entries) tag)
  -- a block's contents are known if and only if those of its lane are
  pub known : (tag : ℕ) → (s.lane (s.lane_of tag)).known ≡ s.known tag
  -- the entries follow one another, and each is what an entry may be
  pub log : LogLaw s.log
  -- new views begin where the log does
  pub based : s.pool.core.base ≡ s.log.base
  -- the log's end is where its last entry ends, or the base if it has none
  pub ends : s.end ≡ log_end s.log
  -- the log's end is at most the last position
  pub limit : s.end ≤ last_position
  -- the flushed position is at least the log's base
  pub flushed_from : s.log.base ≤ s.flushed
  -- the flushed position is at most the log's end
  pub flushed_to : s.flushed ≤ s.end
  -- the log names a block in 20 bytes
  pub named : (tag : ℕ) → length (s.names tag) ≡ 20
  -- each entry that ends at the flushed position or before it is durable: the position p is at the
  -- byte `head_size + (p - base)`
  pub durable : s.log.base < s.flushed → head_size + s.flushed ≤ s.log.base + s.device.synced
  -- the law of the log's device, and of what each view has of its latch
  pub device : Grid log_shape log_part 1 (λ _. s.device) (λ _. written_of s) s.pool.core.views
  -- the law of what backends read and wrote
  pub history : HistoryLaw s.known s.origin s.opened_sizes s.log s.flushed s.pool.core.views
  -- the law of each lane, and of what each view has of its latch
  pub lanes : Grid lane_shape lane_part s.lanes s.lane (λ _. s.flushed) s.pool.core.views
  -- a view that isn't emptied has a hold for each lane
  pub wide : (i : ℕ) (v : View) → get_elem? s.pool.core.views i ≡ some v → v.emptied ≡ false
      → length v.lanes ≡ s.lanes
  -- each tag has a lane
  pub placed : (tag : ℕ) → s.lane_of tag < s.lanes
  -- the law of each frame, of its block in its lane, and of what each view has there
  pub homes : Grid home_shape home_part s.pool.core.frames s.pool.core.frame (home_of s)
      s.pool.core.views
  -- a block that has no frame is clean
  pub unframed : (tag : ℕ) → tag ≢ no_tag → IsUnframed s.pool.core.frames s.pool.core.frame tag
      → IsClean (home_of s tag)
  -- no lane holds a page ahead of the flushed log
  pub flushed_cells : (tag : ℕ) → IsFlushedCell s.origin s.log s.flushed tag (home_of s tag)
