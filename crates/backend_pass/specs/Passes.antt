-- What contracts see of a pass.
use Rattle.std.specs.Prelude.{◌≡◌, ℕ, ◌+◌, List, [], ◌∷◌, false, None, Result, Ok, Err}
use Rattle.atomic_table.specs.Seated.{TableId}
use Rattle.pin_core.specs.declared.view.View.{View}
use Rattle.pin_core.specs.State.{emptied_view}
use Rattle.clock_sweep.specs.CensusList.{CensusList}
use Rattle.clock_sweep.specs.FreeFrames.{QueueState, lasting}
use Rattle.buffer_frames.specs.Tokens.{HeldFrame, no_tokens}
use Rattle.frame_table.specs.Seats.{OnlyRises}
use Rattle.buffer_frames.specs.Rests.{OnlyTokens, SameLocks}
use Rattle.wal_flush.specs.declared.inserts.InsertError.{InsertError}
use Rattle.wal_flush.specs.declared.inserts.InsertError.TheVariants.{LogFull, LogDown, LogFault}
use Rattle.io_counts.specs.declared.contexts.ByContext.{ByContext}
use Rattle.io_counts.specs.Additions.{io_added}
use Rattle.io_counts.specs.Counts.{no_counts}
use Rattle.io_counts.specs.Tallies.{TallyState}
use Rattle.buffer_frames.specs.Counting.{CountsIo, pages_read}
use Rattle.buffer_frames.specs.declared.hinting.HintSeen.{HintSeen}
use Rattle.buffer_frames.specs.Outside.{shown_count}
use Rattle.backend_pass.specs.declared.marked.MarkedFrame.{MarkedFrame}
use Rattle.backend_pass.specs.declared.met.Shown.{Shown}

-- A backend of a manager between two calls
pub record PassState : Type 0 where
  -- its seat: the table's, with the number that the table gave it, and what it knows and has done
  pub table : TableId
  pub id : ℕ
  pub view : View
  -- its pass of the free list: the list's, with what it knows of it, which is what it pushed there
  -- and took from there
  pub queue : QueueState
  -- the tokens that its callers have
  pub tokens : List HeldFrame
  -- the words that its last choice of a victim loaded, if it found each frame pinned
  pub census : CensusList
  -- the frames that its checkpoint has marked
  pub marked : List MarkedFrame
  -- what its last read saw of the block's hint
  pub hint : HintSeen
  -- what it has counted of its hits, reads, writes and victims
  pub io : ByContext

abbrev pub view_in : List View → View
view_in [] = emptied_view
view_in (v ∷ vs) = v

-- What is shown of a view: its front, and the faults that it met
pub record IsShown (v : View) (s : Shown) : Type 0 where
  pub front : s.front ≡ v.front
  pub reads : s.met.reads ≡ shown_count v.met.reads
  pub writes : s.met.writes ≡ shown_count v.met.writes
  pub logs : s.met.logs ≡ shown_count v.met.logs

-- how many evictions and reuses were counted, in all contexts
abbrev pub taken_in : ByContext → ℕ
taken_in io = io.no_ring.evictions + io.no_ring.reuses
    + (io.bulk_read.evictions + io.bulk_read.reuses)
    + (io.bulk_write.evictions + io.bulk_write.reuses)
    + (io.vacuum.evictions + io.vacuum.reuses)

-- What is counted of a view
pub record IsCounted (v : View) (turns : ℕ) (tally : TallyState) : Type 0 where
  -- the latches of partitions that it took
  pub turns_are : turns ≡ shown_count v.turns
  -- what the tally has published is what the view has added to the table's counters
  pub published : io_added v ≡ tally.published
  -- if no eviction and no reuse is counted, it took no tag from a frame
  pub taken : taken_in tally.counted ≡ 0 → v.cleared ≡ 0

-- the table's counters have all that the pass has counted
abbrev pub HasPublished : PassState → Type 0
HasPublished p = io_added p.view ≡ p.io

-- The number of a pass is its view's, and number 0 is the first seat's
pub record IsNumbered (number id : ℕ) (v : View) : Type 0 where
  pub number_is : v.number ≡ number
  pub first : number ≡ 0 → id ≡ 0

-- The view of a pass that has done nothing, over a log that begins at `base`
pub record IsFreshView (number id base : ℕ) (v : View) : Type 0 where
  pub rests : OnlyTokens no_tokens v
  pub numbered : IsNumbered number id v
  pub front : v.front ≡ base
  pub met : v.met ≡ record { reads = 0; writes = 0; logs = 0 }
  pub turns : v.turns ≡ 0
  pub published : v.published ≡ []
  pub cleared : v.cleared ≡ 0

-- What a pass has of its own and keeps: for how many frames its census has room, and its pass of
-- the free list, but for what it pushed there and took
pub record PassOwn : Type 0 where
  pub frames : ℕ
  pub queue : QueueState

abbrev pub own_of : PassState → PassOwn
own_of p = record { frames = p.census.frames; queue = lasting p.queue }

-- It is the same pass: what every call keeps of it, and what only rises
pub record KeepsPass (p q : PassState) : Type 0 where
  pub table : q.table ≡ p.table
  pub id : q.id ≡ p.id
  pub own : own_of q ≡ own_of p
  pub number : q.view.number ≡ p.view.number
  pub next : q.view.next ≡ p.view.next
  pub joined : q.view.joined ≡ p.view.joined
  pub kept : q.view.joined_checkpoints ≡ p.view.joined_checkpoints
  pub advances : OnlyRises p.view q.view

-- It is the same pass, its checkpoint began where it did before, it published nothing, and it may
-- have failed to append records, and noted blocks as unentered
pub record SameButTorn (p q : PassState) : Type 0 where
  pub keeps : KeepsPass p q
  pub upto : q.view.upto ≡ p.view.upto
  pub published : q.view.published ≡ p.view.published

-- It is the same pass, its checkpoint began where it did before, it published nothing, it failed to
-- append no record, and it may have noted blocks as unentered
pub record SameButUnentered (p q : PassState) : Type 0 where
  pub keeps : KeepsPass p q
  pub upto : q.view.upto ≡ p.view.upto
  pub published : q.view.published ≡ p.view.published
  pub torn : q.view.torn ≡ p.view.torn

-- It is the same pass, its checkpoint began where it did before, it published nothing, it failed to
-- append no record, and it noted no block as unentered
pub record SamePass (p q : PassState) : Type 0 where
  pub keeps : KeepsPass p q
  pub upto : q.view.upto ≡ p.view.upto
  pub published : q.view.published ≡ p.view.published
  pub torn : q.view.torn ≡ p.view.torn
  pub unentered : q.view.unentered ≡ p.view.unentered

-- What the pass read and put, and its front, are as they were
pub record KeepsCalls (p q : PassState) : Type 0 where
  pub calls : q.view.calls ≡ p.view.calls
  pub front : q.view.front ≡ p.view.front
  pub place_loads : q.view.place_loads ≡ p.view.place_loads

-- It looked up no block: what it saw of a hint, how many latches of partitions it took, the hints
-- that it stored, what it took from the free list and pushed there, and how often it moved the
-- clock's hand are as before.
-- Only reads take latches of partitions and store hints; so a pass's other calls need this one
-- short clause. Calls below a pass need none, since the equations of their views say it.
pub record KeepsLookups (p q : PassState) : Type 0 where
  pub hint : q.hint ≡ p.hint
  pub turns : q.view.turns ≡ p.view.turns
  pub stores : q.view.hints ≡ p.view.hints
  pub queue : q.queue ≡ p.queue
  pub ticks : q.view.ticks ≡ p.view.ticks

-- Each write of a lane that was done is counted, without a ring. No lane was read, and no frame
-- lost its tag
pub record CountsWrites (p q : PassState) : Type 0 where
  pub counts : CountsIo None no_counts p.view q.view p.io q.io
  pub unread : pages_read counts.made ≡ 0

-- What callers have of the pass is as it was: their tokens and content locks, the census, what the
-- pass read and put, what it failed to append, and the blocks that it noted as unentered; it looked
-- up no block, and counted its writes of lanes alone
pub record KeepsCallers (p q : PassState) : Type 0 where
  pub keeps : KeepsPass p q
  pub tokens : q.tokens ≡ p.tokens
  pub locks : SameLocks p.view q.view
  pub census : q.census ≡ p.census
  pub calls : KeepsCalls p q
  pub torn : q.view.torn ≡ p.view.torn
  pub unentered : q.view.unentered ≡ p.view.unentered
  pub lookups : KeepsLookups p q
  pub io : CountsWrites p q

-- whether the pass has marked a frame dirty or synced a lane is as before
abbrev pub KeepsMark : PassState → PassState → Type 0
KeepsMark p q = q.view.dirtied_or_synced ≡ p.view.dirtied_or_synced

-- The pass's content locks are as they were
abbrev pub KeepsLocks : PassState → PassState → Type 0
KeepsLocks p q = SameLocks p.view q.view

-- No device was called, and nothing counted
pub record KeepsDevices (p q : PassState) : Type 0 where
  pub device_calls : q.view.device_calls ≡ p.view.device_calls
  pub met : q.view.met ≡ p.view.met
  pub io : q.io ≡ p.io

-- No call of a device failed, and the log isn't seen to be down
pub record NoDeviceFails (p q : PassState) : Type 0 where
  pub up : q.view.saw_down ≡ false
  pub met : q.view.met ≡ p.view.met

-- what is shown with one more fault, of a lane's write or of the log
abbrev pub shown_write : Shown → Shown
shown_write s = record s { met = record s.met { writes = shown_count (s.met.writes + 1) } }

abbrev pub shown_log : Shown → Shown
shown_log s = record s { met = record s.met { logs = shown_count (s.met.logs + 1) } }

-- what is shown after a refused put
abbrev pub shown_unput : InsertError → Shown → Shown
shown_unput (LogFull end) s = s
shown_unput (LogDown at) s = s
shown_unput LogFault s = shown_log s

-- what is shown after a put: the position of its record is the front
abbrev pub shown_after_put : Result ℕ InsertError → Shown → Shown
shown_after_put (Ok lsn) s = record s { front = lsn }
shown_after_put (Err why) s = shown_unput why s
