-- What no step changes, and what only grows.
use Rattle.std.specs.Prelude.{◌≡◌, ◌≢◌, ℕ, ◌≤◌, List, ◌++◌, None}
use Rattle.history_core.specs.Log.{Entry}
use Rattle.history_core.specs.State.{State}
use Rattle.history_core.specs.Steps.{Event, Step}

-- What is fixed at the start is the same in both states
pub record IsSameOpening (s t : State) : Type 0 where
  -- the number of frames is the same
  pub frames : t.pool.core.frames ≡ s.pool.core.frames
  -- the number of backends that there may be is the same
  pub backends : t.pool.core.backends ≡ s.pool.core.backends
  -- the number of partitions is the same
  pub partitions : t.pool.core.partitions ≡ s.pool.core.partitions
  -- the partition of each tag is the same
  pub partition_of : t.pool.core.partition_of ≡ s.pool.core.partition_of
  -- the relations have the same forks
  pub is_fork : t.pool.core.is_fork ≡ s.pool.core.is_fork
  -- forks may grow and shrink in both states, or in neither
  pub resizes : t.pool.core.resizes ≡ s.pool.core.resizes
  -- each fork had the same size at the start
  pub opened_sizes : t.opened_sizes ≡ s.opened_sizes
  -- the number of lanes is the same
  pub lanes : t.lanes ≡ s.lanes
  -- the lane of each tag is the same
  pub lane_of : t.lane_of ≡ s.lane_of
  -- the same lanes' contents are known
  pub known : t.known ≡ s.known
  -- the pages of the blocks below the sizes at the start are the same
  pub origin : t.origin ≡ s.origin
  -- the pages that the lanes held at the start are the same
  pub held : t.held ≡ s.held
  -- the blocks that were unsynced at the start are the same
  pub unsynced : t.unsynced_at_start ≡ s.unsynced_at_start
  -- the log begins at the same position
  pub base : t.log.base ≡ s.log.base
  -- the log names each block in the same way
  pub names : t.names ≡ s.names
  -- entries may be made of ranges in both states, or in neither
  pub ranges : t.ranges ≡ s.ranges
  -- the number of the log's calls that had failed at the start is the same
  pub log_faults : t.log_faults ≡ s.log_faults

-- The log and its device have grown, or are as they were
pub record HasGrown (s t : State) : Type 0 where
  -- the entries that were added
  pub added : List Entry
  -- entries are added at the end
  pub entries : t.log.entries ≡ s.log.entries ++ added
  -- the log's end never falls
  pub end : s.end ≤ t.end
  -- the flushed position never falls
  pub flushed : s.flushed ≤ t.flushed
  -- the redo position never falls
  pub redo : s.redo ≤ t.redo
  -- the bytes that were added
  pub rest : List ℕ
  -- bytes are added at the end of the device
  pub bytes : t.device.bytes ≡ s.device.bytes ++ rest
  -- durable bytes stay durable
  pub synced : s.device.synced ≤ t.device.synced
  -- a log that is down stays down, at the same end
  pub down : s.device.down ≢ None → t.device.down ≡ s.device.down

-- no step changes what is fixed at the start
abbrev pub OpeningStays : State → Type 0
OpeningStays s = (e : Event) (t : State) → Step e s t → IsSameOpening s t

-- no step takes anything from the log or its device
abbrev pub LogGrows : State → Type 0
LogGrows s = (e : Event) (t : State) → Step e s t → HasGrown s t
