-- What the work at one frame leaves of a view, and what was done in the course of a call.
use Rattle.std.specs.Prelude.{◌≡◌, ◌≢◌, ℕ, ◌+◌, ◌++◌, true, false, List, Some}
use Rattle.std.specs.List.{All}
use Rattle.atomic_table.specs.declared.shared.Seat.{Seat}
use Rattle.pin_core.specs.declared.view.DeviceCall.{DeviceCall}
use Rattle.pin_core.specs.declared.view.DeviceCall.TheVariants.{LaneWrite, LogSync}
use Rattle.state_word.specs.declared.word.IoEnd.{IoEnd}
use Rattle.state_word.specs.declared.word.StateWord.{StateWord}
use Rattle.pin_core.specs.declared.view.Io.{Io}
use Rattle.pin_core.specs.declared.view.Link.{Link}
use Rattle.pin_core.specs.declared.view.FailedCalls.{FailedCalls}
use Rattle.pin_core.specs.declared.view.View.{View}
use Rattle.pin_core.specs.State.{link}
use Rattle.table_rule.specs.declared.value.Value.{Value}
use Rattle.frame_table.specs.declared.table.FrameTable.{FrameTable}
use Rattle.frame_table.specs.Seats.{ListsOnly, OnlyRises, SameSeat}
use Rattle.content_locks.specs.Io.{EndsIo}
use Rattle.buffer_frames.specs.Rests.{Stands, kept_by_calls}

-- Work at the frame f, and at devices for its page: the view has at other frames, and at the
-- partitions, what it had
pub record WorksAt (f : ℕ) (v w : View) : Type 0 where
  pub kept : kept_by_calls w ≡ kept_by_calls v
  pub advances : OnlyRises v w
  -- the words of frames that it lists are of f
  pub lists : ListsOnly f v w
  pub partitions : w.partitions ≡ v.partitions
  pub others : (g : ℕ) → g ≢ f → link w g ≡ link v g

-- What the checkpoint of the view has noted of a frame is kept: one that it has visited stays
-- visited, and none becomes one that it has to write
pub record KeepsNotes (l m : Link) : Type 0 where
  pub visited : l.visited ≡ true → m.visited ≡ true
  pub left_to_write : l.left_to_write ≡ false → m.left_to_write ≡ false

module _ {L G : Type 0} where
  -- A call that works at the frame f: the seat is the same one, has no slot in hand, and no device's
  -- latch. The frame's role stays, and what the checkpoint of the view has noted there
  pub record Works (f : ℕ) (t : FrameTable L G) (s s' : Seat (Value L G) View) : Type 0 where
    pub seat : SameSeat s s'
    pub stands : Stands t s'
    pub work : WorksAt f s.me.0 s'.me.0
    pub role : (link s'.me.0 f).role ≡ (link s.me.0 f).role
    pub notes : KeepsNotes (link s.me.0 f) (link s'.me.0 f)

-- This was done between v and w
pub record Within (Work : View → View → Type 0) (v w : View) : Type 0 where
  pub before : View
  pub after : View
  pub since : OnlyRises v before
  pub work : Work before after
  pub until : OnlyRises after w

-- A read or a write of the frame f, by the right to it, ended so, and the view notes the state word
-- that this stored (`TerminateBufferIO`)
pub record EndsWork (right : Io) (end : IoEnd) (f : ℕ) (stored : StateWord)
    (v w : View) : Type 0 where
  pub had : (link v f).io ≡ right
  pub ends : EndsIo end f v w
  pub notes : w.last_ended ≡ Some stored

-- These calls of devices were made
abbrev pub Made : List DeviceCall → View → View → Type 0
Made calls v w = w.device_calls ≡ v.device_calls ++ calls

-- Calls of devices were made, each of which is such a call
pub record Calls (P : DeviceCall → Type 0) (v w : View) : Type 0 where
  pub made : List DeviceCall
  pub calls : w.device_calls ≡ v.device_calls ++ made
  pub each : All P made

-- a flush calls the log for a sync, or a lane for a write
abbrev pub IsFlushCall : DeviceCall → Type 0
IsFlushCall (LogSync done) = Unit {0}
IsFlushCall (LaneWrite lane tag page done) = Unit {0}
IsFlushCall _ = ⊥

-- one more fault was met
abbrev pub met_read : FailedCalls → FailedCalls
met_read m = record m { reads = m.reads + 1 }

abbrev pub met_write : FailedCalls → FailedCalls
met_write m = record m { writes = m.writes + 1 }

abbrev pub met_log : FailedCalls → FailedCalls
met_log m = record m { logs = m.logs + 1 }
