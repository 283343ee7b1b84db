-- The buffer pool with the lanes that hold its blocks, and the log.
-- From outside come the numbers of partitions and lanes, the functions from tags to them, the forks
-- and their sizes, and how the log names a block. The table has 128 partitions, the hash of
-- `block_tag`, and the forks and names of its catalogue.
use Rattle.std.specs.Prelude.{◌≡◌, ℕ, ◌+◌, ◌<◌, ◌≤◌, Bool, true, false, List, [], length, nat_eq}
use Rattle.std.specs.Prelude.{Option, None, if◌then◌else◌}
use Rattle.std.specs.Option.{is_some}
use Rattle.pin_core.specs.State.{Page, Config, is_below}
use Rattle.page_core.specs.State as page
use Rattle.history_core.specs.Log.{Log, head_bytes}

-- A lane: the device that holds some of the blocks, with its latch
pub record Lane : Type 0 where
  -- whether a backend has the lane's latch
  pub taken : Bool
  -- whether the lane's contents are known
  pub known : Bool
  -- the page that the lane holds for each block, by the block's tag, or none; if its contents
  -- aren't known, the page that was written last
  pub stored : ℕ → Option Page
  -- for each block, the position in the log up to which its entries are in the lane's page of it
  pub stored_upto : ℕ → ℕ
  -- for each block, the position in the log up to which the lane's last sync covered its entries
  pub synced_upto : ℕ → ℕ
  -- the blocks whose last write failed
  pub failed : ℕ → Bool
  -- the blocks that were written since the lane's last sync, by a write that was done or failed
  pub unsynced : ℕ → Bool
  -- how many reads have failed
  pub read_faults : ℕ
  -- how many writes and syncs have failed
  pub write_faults : ℕ
  -- how many reads had failed at the start
  pub read_faults_at_start : ℕ
  -- how many writes and syncs had failed at the start
  pub write_faults_at_start : ℕ

-- the last value of a counter
abbrev pub last_count : ℕ
last_count = 18446744073709551615

-- a counter that rises by 1, and stands still at its last value
abbrev pub raised : ℕ → ℕ
raised n = if nat_eq n last_count then n else n + 1

-- the hand moves on, from its last value to 0
abbrev pub next_hand : ℕ → ℕ
next_hand n = if nat_eq n last_count then 0 else n + 1

-- The device of the log, with its latch
pub record Device : Type 0 where
  -- whether a backend has the log's latch
  pub taken : Bool
  -- the device's bytes; if its contents aren't known, those that were appended
  pub bytes : List ℕ
  -- how many of the bytes are durable
  pub synced : ℕ
  -- how many appends and syncs have failed
  pub faults : ℕ
  -- once a call has failed, the log is down for good: this is the log's end as it was then
  pub down : Option ℕ

-- the greatest position that a log may reach, 2 to the power 62: no sum of positions overflows
abbrev pub last_position : ℕ
last_position = 4611686018427387904

-- The buffer pool with the pages of its blocks, the lanes, and the log
pub record State : Type 0 where
  -- frames, maps, views, and each block's page after the log
  pub pool : page.State
  -- how many lanes there are
  pub lanes : ℕ
  -- the lane of each tag
  pub lane_of : ℕ → ℕ
  -- the lanes, by their numbers
  pub lane : ℕ → Lane
  -- whether the contents of a block's lane are known, by the block's tag
  pub known : ℕ → Bool
  -- how many blocks each fork had at the start; no step makes a fork grow or shrink yet
  pub opened_sizes : ℕ → ℕ
  -- for each block below its fork's size, the page that its lane held at the start, if the lane's
  -- contents are known
  pub origin : ℕ → Option Page
  -- for each block, below the size or past it, the page that its lane held at the start, if the
  -- lane's contents are known
  pub held : ℕ → Option Page
  -- the blocks that had been written since their lanes' last sync at the start
  pub unsynced_at_start : ℕ → Bool
  -- the log: where it begins, and its entries
  pub log : Log
  -- how the log names a block, by its tag
  pub names : ℕ → List ℕ
  -- whether entries may be made of ranges; on a table they may not yet
  pub ranges : Bool
  -- the device that holds the log's bytes
  pub device : Device
  -- how many calls of the log's device had failed at the start
  pub log_faults : ℕ
  -- the word of the log's end
  pub end : ℕ
  -- the word of the position up to which the log is flushed
  pub flushed : ℕ
  -- the word of the redo position (`RedoRecPtr`): a change of a page whose position is up to there
  -- is logged with the whole page
  pub redo : ℕ
  -- the word of the clock's hand (`nextVictimBuffer`)
  pub hand : ℕ
  -- the counters (`pg_stat_io`), by their numbers
  pub counter : ℕ → ℕ
  -- the hint words, by their numbers: each names no frame, by 0, or the frame f, by f + 1
  pub hint : ℕ → ℕ

-- the page that a block's lane holds
abbrev pub stored : State → ℕ → Option Page
stored s tag = (s.lane (s.lane_of tag)).stored tag

-- the position in the log up to which a block's entries are in its lane's page
abbrev pub stored_upto : State → ℕ → ℕ
stored_upto s tag = (s.lane (s.lane_of tag)).stored_upto tag

-- the position in the log up to which the last sync of a block's lane covered the block's entries
abbrev pub synced_upto : State → ℕ → ℕ
synced_upto s tag = (s.lane (s.lane_of tag)).synced_upto tag

-- whether a block's last write failed
abbrev pub failed : State → ℕ → Bool
failed s tag = (s.lane (s.lane_of tag)).failed tag

-- whether a block was written since its lane's last sync
abbrev pub unsynced : State → ℕ → Bool
unsynced s tag = (s.lane (s.lane_of tag)).unsynced tag

-- What the lanes and the log are at the start
pub record Store : Type 0 where
  -- the lane of each tag
  pub lane_of : ℕ → ℕ
  -- whether a lane's contents are known
  pub known : ℕ → Bool
  -- the pages that the lanes hold, if their contents are known
  pub origin : ℕ → Option Page
  -- how the log names a block, by its tag
  pub names : ℕ → List ℕ
  -- whether entries may be made of ranges
  pub ranges : Bool
  -- how many reads of each lane have failed
  pub read_faults : ℕ → ℕ
  -- how many writes and syncs of each lane have failed
  pub write_faults : ℕ → ℕ
  -- the blocks that were written since their lanes' last sync
  pub unsynced : ℕ → Bool
  -- how many bytes of the log's head are durable
  pub head_synced : ℕ
  -- how many calls of the log's device have failed
  pub log_faults : ℕ

-- The lanes and the log are such that a buffer pool can be opened over them
pub record CanStore (c : Config) (store : Store) : Type 0 where
  -- forks don't grow or shrink yet
  pub quiet : c.resizes ≡ false
  -- each tag has a lane
  pub placed : (tag : ℕ) → store.lane_of tag < c.lanes
  -- the log begins at a position that a log may reach
  pub based : c.base ≤ last_position
  -- the log names a block in 20 bytes
  pub named : (tag : ℕ) → length (store.names tag) ≡ 20
  -- no more bytes of the log's head are durable than it has
  pub synced : store.head_synced ≤ length (head_bytes c.base)
  -- a lane whose contents are known holds each of its blocks of the relations, and maybe others
  pub there : (tag : ℕ) → is_below c.sizes tag ≡ true → store.known (store.lane_of tag) ≡ true
      → is_some (store.origin tag) ≡ true

-- the lane n at the start, over a log that begins at `base`: no block's last write has failed
abbrev pub fresh_lane : ℕ → Store → ℕ → Lane
fresh_lane base store n = record {
  taken = false;
  known = store.known n;
  stored = store.origin;
  stored_upto = λ _. base;
  synced_upto = λ _. base;
  failed = λ _. false;
  unsynced = store.unsynced;
  read_faults = store.read_faults n;
  write_faults = store.write_faults n;
  read_faults_at_start = store.read_faults n;
  write_faults_at_start = store.write_faults n;
}

-- the log's device at the start: it has the head of a log that begins at `base`
abbrev pub fresh_device : ℕ → Store → Device
fresh_device base store = record {
  taken = false;
  bytes = head_bytes base;
  synced = store.head_synced;
  faults = store.log_faults;
  down = None;
}

-- whether the contents of a block's lane are known at the start
abbrev pub is_known : Store → ℕ → Bool
is_known store tag = store.known (store.lane_of tag)

-- the pages of the blocks at the start, as far as they are known
abbrev pub known_origin : Store → ℕ → Option Page
known_origin store tag = if is_known store tag then store.origin tag else None

-- the state at the start, with an empty log
abbrev pub opening : Config → Store → Page → State
opening c store p = record {
  pool = page.opening c (known_origin store) p;
  lanes = c.lanes;
  lane_of = store.lane_of;
  lane = fresh_lane c.base store;
  known = is_known store;
  opened_sizes = c.sizes;
  origin = page.below_sizes c.sizes store.origin;
  held = store.origin;
  unsynced_at_start = store.unsynced;
  log = record { base = c.base; entries = [] };
  names = store.names;
  ranges = store.ranges;
  device = fresh_device c.base store;
  log_faults = store.log_faults;
  end = c.base;
  flushed = c.base;
  redo = c.base;
  hand = 0;
  counter = λ _. 0;
  hint = λ _. 0;
}
