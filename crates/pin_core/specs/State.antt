-- The frames of the buffer pool, the partitions of the mapping table, the sizes of forks, and what
-- each backend knows.
use Rattle.std.specs.Prelude.{ℕ, ◌+◌, ◌*◌, ◌/◌, ◌%◌, ◌<◌, Bool, true, false, List, [], ◌∷◌}
use Rattle.std.specs.Prelude.{◌++◌, replicate, length, map, max, nat_eq, nat_lt, nat_le}
use Rattle.std.specs.Prelude.{slice_index_or, slice_set, ◌&&◌, ◌||◌, Option, None, if◌then◌else◌}
use Rattle.state_word.specs.declared.word.StateWord.{StateWord}
use Rattle.pin_core.specs.declared.view.Role.{Role}
use Rattle.pin_core.specs.declared.view.Role.TheVariants.{Absent, HandedOut, Victim}
use Rattle.pin_core.specs.declared.view.Content.TheVariants.{Unlocked}
use Rattle.pin_core.specs.declared.view.Io.TheVariants.{Quiet}
use Rattle.pin_core.specs.declared.view.LastWrite.TheVariants.{Unwritten}
use Rattle.pin_core.specs.declared.view.MapChange.{MapChange}
use Rattle.pin_core.specs.declared.view.MapChange.TheVariants.{Stable}
use Rattle.pin_core.specs.declared.view.LaneChange.TheVariants as lane_change
use Rattle.pin_core.specs.declared.view.LogChange.TheVariants as log_change
use Rattle.pin_core.specs.declared.view.Link.{Link}
use Rattle.pin_core.specs.declared.view.PartitionHold.{PartitionHold}
use Rattle.pin_core.specs.declared.view.LaneHold.{LaneHold}
use Rattle.pin_core.specs.declared.view.LogHold.{LogHold}
use Rattle.pin_core.specs.declared.view.SizeRight.TheVariants as size_right
use Rattle.pin_core.specs.declared.view.SizeHold.{SizeHold}
use Rattle.pin_core.specs.declared.view.FailedCalls.{FailedCalls}
use Rattle.pin_core.specs.declared.view.JoinedCheckpoint.{JoinedCheckpoint}
use Rattle.pin_core.specs.declared.view.View.{View}
use Rattle.std.specs.Option.{is_some}
use Rattle.block_tag.specs.Names.{unpacked_tag}
use Rattle.grid.specs.Shape.{put}

-- the bytes of a page
abbrev pub Page : Type 0
Page = List ℕ

-- A frame: its buffer descriptor (`BufferDesc`) and its page
pub record Frame : Type 0 where
  -- the state word, by its fields
  pub word : StateWord
  -- the tag word: a packed buffer tag, or `no_tag`
  pub tag : ℕ
  -- how many backends share the content lock, by the content word
  pub sharers : ℕ
  -- whether a backend has the content lock exclusively, by the content word
  pub exclusive : Bool
  -- whether a sharer has the copy latch, and so may take the page out to copy it, by the content
  -- word
  pub copying : Bool
  -- the page, as its bytes
  pub page : Page

-- A partition of the mapping table, with its latch (`BufMappingPartitionLock`)
pub record Partition : Type 0 where
  -- whether a backend has the latch
  pub taken : Bool
  -- the frame that the map gives for a tag, if any
  pub map : ℕ → Option ℕ
  -- the pair that the holder of the latch has named, and not yet entered or left out
  pub owed : MapChange

-- The size of a fork; on a table none changes yet
pub record SizeWord : Type 0 where
  -- how many blocks the fork has by its size word
  pub blocks : ℕ
  -- how many backends have the shared right on the size, by the size word
  pub sharers : ℕ
  -- whether a backend has the exclusive right on the size, by the size word
  pub exclusive : Bool
  -- how many blocks the fork has by the log
  pub logged : ℕ

-- The buffer pool, and what each backend knows
pub record State : Type 0 where
  -- how many frames there are
  pub frames : ℕ
  -- how many backends there may be
  pub backends : ℕ
  -- where the log begins
  pub base : ℕ
  -- how many partitions the mapping table has
  pub partitions : ℕ
  -- the partition of each tag (`BufTableHashPartition`)
  pub partition_of : ℕ → ℕ
  -- whether a number is that of a fork of the relations
  pub is_fork : ℕ → Bool
  -- whether forks may grow and shrink; on a table they don't yet
  pub resizes : Bool
  -- the frames, by their numbers
  pub frame : ℕ → Frame
  -- the partitions of the mapping table, by their numbers
  pub partition : ℕ → Partition
  -- the size of each fork, by the fork's number; on a table none changes yet
  pub size : ℕ → SizeWord
  -- what each backend knows, in the order of their numbers
  pub views : List View

-- the tag word of a frame without a tag: all ones
abbrev pub no_tag : ℕ
no_tag = 18446744073709551615

-- the number of a tag's fork
unfoldable pub tag_fork : ℕ → ℕ
tag_fork tag = tag / 4294967296

-- the number of a tag's block in its fork
unfoldable pub tag_block : ℕ → ℕ
tag_block tag = tag % 4294967296

-- the tag of a fork's first block
abbrev pub first_block : ℕ → ℕ
first_block fork = fork * 4294967296

-- whether a tag's block is below its fork's size
abbrev pub is_below : (ℕ → ℕ) → ℕ → Bool
is_below sizes tag = nat_lt (tag_block tag) (sizes (tag_fork tag))

-- whether a tag's block is one of the relations: below its fork's size by the log
abbrev pub is_block : State → ℕ → Bool
is_block s tag = nat_lt (tag_block tag) (s.size (tag_fork tag)).logged

-- whether a cut of a fork to n blocks takes a tag's block away
abbrev pub is_cut : ℕ → ℕ → ℕ → Bool
is_cut fork n tag = nat_eq (tag_fork tag) fork && nat_le n (tag_block tag)

-- whether a tag word is a packed buffer tag
unfoldable pub is_tag : ℕ → Bool
is_tag word = is_some (unpacked_tag word)

-- what a backend has at a frame if it has nothing there
abbrev pub idle : Link
idle = record {
  role = Absent;
  tag = None;
  seen_valid = false;
  ring = false;
  header = None;
  pending = false;
  content = Unlocked;
  copying = false;
  dirtied = false;
  entered = false;
  unapplied = false;
  image = None;
  copied = None;
  io = Quiet;
  read = None;
  read_is_home = false;
  last_write = Unwritten;
  out = None;
  overwritten = None;
  waits = None;
  visited = false;
  left_to_write = false;
  noted = false;
  inside = false;
}

-- what a backend has of a partition's latch if it has nothing of it
abbrev pub no_partition : PartitionHold
no_partition = record { held = false; change = Stable; out = None; changed = false; seen = None }

-- what a new backend has of a lane's latch: nothing
abbrev pub no_lane : LaneHold
no_lane = record {
  held = false;
  out = None;
  change = lane_change.Untouched;
  flushed = 0;
  swept = 0;
}

-- what a new backend has of the log's latch: nothing
abbrev pub no_log : LogHold
no_log = record {
  held = false;
  out = None;
  change = log_change.Untouched;
  appended = None;
  synced = false;
  end = None;
  redo = None;
}

-- what a backend has of a fork's size if it has no right on it
abbrev pub no_size : SizeHold
no_size = record {
  fork = 0;
  right = size_right.Unheld;
  blocks = 0;
  cut_to = None;
  passed = [];
  made = None;
  stored = false;
}

-- what a list of such holds has of a fork's size
unfoldable pub size_in : List SizeHold → ℕ → SizeHold
size_in [] fork = no_size
size_in (h ∷ hs) fork = if nat_eq fork h.fork then h else size_in hs fork

-- a list of such holds without those of a fork's size
unfoldable pub without_size : ℕ → List SizeHold → List SizeHold
without_size fork [] = []
without_size fork (h ∷ hs)
    = if nat_eq fork h.fork then without_size fork hs else h ∷ without_size fork hs

-- what a view has of a fork's size
abbrev pub size_hold : View → ℕ → SizeHold
size_hold v fork = size_in v.sizes fork

-- what a view has of the latch of the partition p
abbrev pub hold : View → ℕ → PartitionHold
hold v p = slice_index_or v.partitions p no_partition

-- what a view has of the latch of the lane n
abbrev pub lane_hold : View → ℕ → LaneHold
lane_hold v n = slice_index_or v.lanes n no_lane

-- what a view has at the frame f
abbrev pub link : View → ℕ → Link
link v f = slice_index_or v.links f idle

-- whether a role is that of a pin
abbrev pub is_pin : Role → Bool
is_pin Absent = false
is_pin HandedOut = true
is_pin Victim = true

-- whether the view pins the frame f
abbrev pub pins_frame : ℕ → View → Bool
pins_frame f v = is_pin (link v f).role

-- the view of a new backend with this number, over a log that begins at `base`: it holds nothing
abbrev pub new_view : ℕ → ℕ → ℕ → ℕ → ℕ → View
new_view number base frames partitions lanes = record {
  number = number;
  next = 0;
  joined = 0;
  emptied = false;
  links = replicate frames idle;
  partitions = replicate partitions no_partition;
  lanes = replicate lanes no_lane;
  sizes = [];
  log = no_log;
  flushed = base;
  raised_to = base;
  redo_raised = [];
  end_seen = base;
  unentered = [];
  torn = [];
  calls = [];
  front = base;
  place_loads = 0;
  steps = 0;
  turns = 0;
  ticks = 0;
  cleared = 0;
  loads = [];
  changes = [];
  hints = [];
  published = [];
  residents = [];
  upto = 0;
  joined_checkpoints = [];
  device_calls = [];
  met = record { reads = 0; writes = 0; logs = 0 };
  saw_down = false;
  dirtied_or_synced = false;
  had_output = false;
  last_ended = None;
}

-- the view of the first backend: it gives the number 1 next
abbrev pub first_view : ℕ → ℕ → ℕ → ℕ → View
first_view base frames partitions lanes
    = record (new_view 0 base frames partitions lanes) { next = 1 }

-- what is left of a view that was joined into the first
abbrev pub emptied_view : View
emptied_view = record (new_view 0 0 0 0 0) { emptied = true }

-- the failed calls of two backends, added up
abbrev pub sum_of_met : FailedCalls → FailedCalls → FailedCalls
sum_of_met a b = record {
  reads = a.reads + b.reads;
  writes = a.writes + b.writes;
  logs = a.logs + b.logs;
}

-- the checkpoint of a view, as the first view keeps it when the view is joined into it
abbrev pub kept_checkpoint : View → JoinedCheckpoint
kept_checkpoint u = record {
  number = u.number;
  upto = u.upto;
  visited = map (λ (l : Link). l.visited) u.links;
  left_to_write = map (λ (l : Link). l.left_to_write) u.links;
  swept = map (λ (h : LaneHold). h.swept) u.lanes;
}

-- the first view v with what it takes over from the view u
abbrev pub joined_view : View → View → View
joined_view v u = record v {
  joined = v.joined + 1;
  raised_to = max v.raised_to u.raised_to;
  redo_raised = v.redo_raised ++ u.redo_raised;
  end_seen = max v.end_seen u.end_seen;
  flushed = max v.flushed u.flushed;
  unentered = v.unentered ++ u.unentered;
  torn = v.torn ++ u.torn;
  calls = v.calls ++ u.calls;
  front = max v.front u.front;
  ticks = v.ticks + u.ticks;
  cleared = v.cleared + u.cleared;
  changes = v.changes ++ u.changes;
  hints = v.hints ++ u.hints;
  published = v.published ++ u.published;
  residents = v.residents ++ u.residents;
  joined_checkpoints = v.joined_checkpoints ++ kept_checkpoint u ∷ u.joined_checkpoints;
  met = sum_of_met v.met u.met;
  saw_down = v.saw_down || u.saw_down;
  dirtied_or_synced = v.dirtied_or_synced || u.dirtied_or_synced;
  had_output = v.had_output || u.had_output;
}

-- the frame f and the view of backend i change, and nothing else
abbrev pub local : State → ℕ → ℕ → Frame → View → State
local s i f fr w = record s { frame = put s.frame f fr; views = slice_set s.views i w }

-- a new backend takes the next number of the first, whose view is v
abbrev pub split_state : State → View → State
split_state s v = record s {
  views = slice_set s.views 0 (record v { next = v.next + 1 })
      ++ new_view v.next s.base (length v.links) (length v.partitions) (length v.lanes) ∷ [];
}

-- backend j, whose view is u, is joined into the first, whose view is v
abbrev pub joined_state : State → View → ℕ → View → State
joined_state s v j u
    = record s { views = slice_set (slice_set s.views 0 (joined_view v u)) j emptied_view }

-- a state word with no flag set and each number 0
abbrev pub zero_word : StateWord
zero_word = record {
  pins = 0;
  usage = 0;
  locked = false;
  dirty = false;
  valid = false;
  tag_valid = false;
  in_progress = false;
  failed = false;
  just_dirtied = false;
  awaited = false;
  checkpoint_needed = false;
  permanent = false;
  waiter = 0;
}

-- a frame at the start (`InitBufferPool`): no pins, no tag, and this page
abbrev pub empty_frame : Page → Frame
empty_frame p = record {
  word = zero_word;
  tag = no_tag;
  sharers = 0;
  exclusive = false;
  copying = false;
  page = p;
}

-- a partition at the start: its map is empty
abbrev pub empty_partition : Partition
empty_partition = record { taken = false; map = λ _. None; owed = Stable }

-- a fork's size at the start: n blocks, with no right given on it
abbrev pub opened_size : ℕ → SizeWord
opened_size n = record { blocks = n; sharers = 0; exclusive = false; logged = n }

-- What a buffer pool is made of
pub record Config : Type 0 where
  -- how many frames there are
  pub frames : ℕ
  -- how many partitions the mapping table has
  pub partitions : ℕ
  -- the partition of each tag (`BufTableHashPartition`)
  pub partition_of : ℕ → ℕ
  -- whether a number is that of a fork of the relations
  pub is_fork : ℕ → Bool
  -- how many blocks each fork has at the start, by the fork's number
  pub sizes : ℕ → ℕ
  -- whether forks may grow and shrink; on a table they don't yet
  pub resizes : Bool
  -- how many lanes there are
  pub lanes : ℕ
  -- how many backends there may be
  pub backends : ℕ
  -- where the log begins
  pub base : ℕ

-- A pool can be made of this: there may be a backend, and each tag has a partition
pub record CanOpen (c : Config) : Type 0 where
  -- there may be at least one backend
  pub some_backend : 0 < c.backends
  -- each tag has a partition
  pub placed : (tag : ℕ) → c.partition_of tag < c.partitions

-- the buffer pool at the start, each frame with this page, and with one backend
abbrev pub opening : Config → Page → State
opening c page = record {
  frames = c.frames;
  backends = c.backends;
  base = c.base;
  partitions = c.partitions;
  partition_of = c.partition_of;
  is_fork = c.is_fork;
  resizes = c.resizes;
  frame = λ _. empty_frame page;
  partition = λ _. empty_partition;
  size = λ fork. opened_size (c.sizes fork);
  views = first_view c.base c.frames c.partitions c.lanes ∷ [];
}
