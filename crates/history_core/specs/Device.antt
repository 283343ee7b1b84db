-- The log's device and its latch: the kinds of step, and what holds of it.
-- An append is of an entry that could be made: what the store of the log end requires is required
-- before it. There is no append after a sync under one latch, since the sync has to cover all
-- bytes.
-- A failed append leaves the first bytes of the record, and its backend lists the block and the
-- page. It is a list, so the joined view needs no law that only one backend can have failed.
use Rattle.std.specs.Prelude.{◌≡◌, ◌≢◌, ℕ, ◌+◌, ◌<◌, ◌≤◌, Bool, true, false, List, [], ◌∷◌, ◌++◌}
use Rattle.std.specs.Prelude.{length, Option, Some, None, ◌||◌}
use Rattle.pin_core.specs.declared.view.LogChange.{LogChange}
use Rattle.pin_core.specs.declared.view.LogChange.TheVariants as change
use Rattle.pin_core.specs.declared.view.TakenLog.{TakenLog}
use Rattle.pin_core.specs.declared.view.LogHold.{LogHold}
use Rattle.pin_core.specs.declared.view.DeviceCall.{DeviceCall}
use Rattle.pin_core.specs.declared.view.DeviceCall.TheVariants.{LogAppend, LogSync}
use Rattle.pin_core.specs.declared.view.FailedCalls.{FailedCalls}
use Rattle.pin_core.specs.declared.view.TornRecord.{TornRecord}
use Rattle.pin_core.specs.declared.view.View.{View}
use Rattle.pin_core.specs.State.{Page, sum_of_met}
use Rattle.pin_core.specs.Tallies.{flag_weight, some_weight}
use Rattle.history_core.specs.Log.{record_size}
use Rattle.history_core.specs.State.{Device, last_count}
use Rattle.history_core.specs.Lanes.{Rises}
use Rattle.grid.specs.Shape.{Shape, Part}

-- The kinds of step at the log's latch. A call that fails makes the count of faults rise to the
-- number that is its last field; a sync that fails may make some of the bytes durable, up to the
-- number before that
pub data LogKind : Type 0 where
  -- the latch is taken (`WALWriteLock`)
  take_log : LogKind
  -- the latch is left
  leave_log : LogKind
  -- the device goes out to the holder, and this is what it is then
  log_out : TakenLog → LogKind
  -- the holder appends the bytes of a record, of a changed page of a frame's block
  append : ℕ → ℕ → Page → List ℕ → LogKind
  -- the holder fails to append such a record, and the device has some of its bytes
  fail_append : ℕ → ℕ → Page → List ℕ → ℕ → LogKind
  -- the holder makes the bytes durable (`XLogFlush`)
  sync_log : LogKind
  -- the holder fails to make the bytes durable
  fail_sync : ℕ → ℕ → LogKind
  -- the device comes back; the backend counts a fault, or none
  log_back : Bool → LogKind
  -- the holder sees that the log is down
  see_down : LogKind

-- whether a call of the log's device failed
abbrev pub is_failed : LogChange → Bool
is_failed change.AppendFailed = true
is_failed change.SyncFailed = true
is_failed _ = false

-- A backend may take the log's latch
pub record CanTakeLog (d : Device) (h : LogHold) : Type 0 where
  -- the log's latch is free
  pub free : d.taken ≡ false

-- The holder may leave the log's latch; a record that was appended is part of the log by then
pub record CanLeaveLog (d : Device) (h : LogHold) : Type 0 where
  -- the backend holds the latch
  pub held : h.held ≡ true
  -- the device isn't out
  pub home : h.out ≡ None
  -- a record that was appended is part of the log
  pub entered : h.appended ≡ None

-- The holder of the latch may take the log's device out; what is noted of it is what it is
pub record CanTakeDevice (taken : TakenLog) (d : Device) (h : LogHold) : Type 0 where
  -- the backend holds the latch
  pub held : h.held ≡ true
  -- the device isn't out
  pub home : h.out ≡ None
  -- the count of faults that is noted is the device's
  pub faults : taken.faults ≡ d.faults
  -- the number of durable bytes that is noted is the device's
  pub synced : taken.synced ≡ d.synced
  -- whether the log is down is noted, and the end that it had at the failure
  pub down : taken.down ≡ d.down
  -- if bytes are noted, they are the device's
  pub bytes : (bytes : List ℕ) → taken.bytes ≡ Some bytes → bytes ≡ d.bytes

-- The holder may call the log's device: once each time that it is out, and never once the log is
-- down
pub record CanCallLog (d : Device) (h : LogHold) : Type 0 where
  -- the device is out
  pub out : h.out ≢ None
  -- the device wasn't called since it went out
  pub once : h.change ≡ change.Untouched
  -- the log isn't down
  pub up : d.down ≡ None

-- The holder may append: one record at a time, and none after a sync under this latch
pub record CanAppend (bytes : List ℕ) (d : Device) (h : LogHold) : Type 0 where
  -- the device is out, wasn't called since it went out, and the log isn't down
  pub call : CanCallLog d h
  -- no record is appended that isn't part of the log yet
  pub entered : h.appended ≡ None
  -- the device wasn't synced under this latch
  pub unsynced : h.synced ≡ false
  -- the bytes are no more than a record of a page has
  pub short : length bytes ≤ record_size

-- An append may fail
pub record CanFailAppend (bytes : List ℕ) (n : ℕ) (d : Device) (h : LogHold) : Type 0 where
  -- the device is out, wasn't called since it went out, and the log isn't down
  pub call : CanCallLog d h
  -- the count of faults rises to n, or stays at its last value
  pub rises : Rises d.faults n
  -- no record is appended that isn't part of the log yet
  pub entered : h.appended ≡ None
  -- the device wasn't synced under this latch
  pub unsynced : h.synced ≡ false
  -- the bytes are no more than a record of a page has
  pub part : length bytes ≤ record_size

-- A sync may fail; bytes that are durable stay so, and a record that was appended is part of the
-- log by then
pub record CanFailSync (synced n : ℕ) (d : Device) (h : LogHold) : Type 0 where
  -- the device is out, wasn't called since it went out, and the log isn't down
  pub call : CanCallLog d h
  -- the count of faults rises to n, or stays at its last value
  pub rises : Rises d.faults n
  -- a record that was appended is part of the log
  pub entered : h.appended ≡ None
  -- what was durable stays durable
  pub later : d.synced ≤ synced
  -- no more bytes are durable than there are
  pub within : synced ≤ length d.bytes

-- The holder may return the device: a fault is counted only if the call failed, and always if the
-- count rose
pub record CanReturnLog (noted : Bool) (d : Device) (h : LogHold) : Type 0 where
  -- the device is out
  pub out : h.out ≢ None
  -- if a fault is counted, the call failed
  pub failed : noted ≡ true → is_failed h.change ≡ true
  -- if the device's count rose, a fault is counted
  pub rose : (taken : TakenLog) → h.out ≡ Some taken → taken.faults < d.faults → noted ≡ true

-- The holder of the latch may see that the log is down
pub record CanSeeDown (d : Device) (h : LogHold) : Type 0 where
  -- the backend holds the latch
  pub held : h.held ≡ true
  -- the log is down
  pub down : d.down ≢ None

-- What each kind asks of the device, and of what the view has of the latch
abbrev pub LogAllowed : LogKind → Device → LogHold → Type 0
LogAllowed take_log d h = CanTakeLog d h
LogAllowed leave_log d h = CanLeaveLog d h
LogAllowed (log_out taken) d h = CanTakeDevice taken d h
LogAllowed (append f tag p bytes) d h = CanAppend bytes d h
LogAllowed (fail_append f tag p bytes n) d h = CanFailAppend bytes n d h
LogAllowed sync_log d h = CanCallLog d h
LogAllowed (fail_sync synced n) d h = CanFailSync synced n d h
LogAllowed (log_back noted) d h = CanReturnLog noted d h
LogAllowed see_down d h = CanSeeDown d h

-- What a kind makes of the device; the log's end is `end`
abbrev pub device_after : LogKind → ℕ → Device → Device
device_after take_log end d = record d { taken = true }
device_after leave_log end d = record d { taken = false }
device_after (append f tag p bytes) end d = record d { bytes = d.bytes ++ bytes }
device_after (fail_append f tag p bytes n) end d = record d {
  bytes = d.bytes ++ bytes;
  faults = n;
  down = Some end;
}
device_after sync_log end d = record d { synced = length d.bytes }
device_after (fail_sync synced n) end d = record d { synced = synced; faults = n; down = Some end }
device_after _ end d = d

-- What a kind makes of what the view has of the latch
abbrev pub log_hold_after : LogKind → LogHold → LogHold
log_hold_after take_log h = record h { held = true }
log_hold_after leave_log h = record h { held = false; synced = false; end = None; redo = None }
log_hold_after (log_out taken) h = record h { out = Some taken }
log_hold_after (append f tag p bytes) h = record h {
  change = change.Appended f tag p;
  appended = Some bytes;
}
log_hold_after (fail_append f tag p bytes n) h = record h { change = change.AppendFailed }
log_hold_after sync_log h = record h { change = change.Synced; synced = true }
log_hold_after (fail_sync synced n) h = record h { change = change.SyncFailed; appended = None }
log_hold_after (log_back noted) h = record h { out = None; change = change.Untouched }
log_hold_after see_down h = h

-- the device call that a kind is
abbrev pub log_calls_by : LogKind → List DeviceCall
log_calls_by (append f tag p bytes) = LogAppend true ∷ []
log_calls_by (fail_append f tag p bytes n) = LogAppend false ∷ []
log_calls_by sync_log = LogSync true ∷ []
log_calls_by (fail_sync synced n) = LogSync false ∷ []
log_calls_by _ = []

-- the fault that a kind counts
abbrev pub log_met_by : LogKind → FailedCalls
log_met_by (log_back true) = record { reads = 0; writes = 0; logs = 1 }
log_met_by _ = record { reads = 0; writes = 0; logs = 0 }

-- the records that a backend failed to append, after a kind: one that fails is added
abbrev pub torn_by : LogKind → List TornRecord → List TornRecord
torn_by (fail_append f tag p bytes n) xs = xs ++ record { tag = tag; page = p } ∷ []
torn_by _ xs = xs

-- whether a kind shows the holder that the log is down: its own call fails, or it looks
abbrev pub sees_down : LogKind → Bool
sees_down (fail_append f tag p bytes n) = true
sees_down (fail_sync synced n) = true
sees_down see_down = true
sees_down _ = false

-- What a kind makes of the view
abbrev pub view_logged : LogKind → View → View
view_logged k v = record v {
  log = log_hold_after k v.log;
  torn = torn_by k v.torn;
  device_calls = v.device_calls ++ log_calls_by k;
  met = sum_of_met v.met (log_met_by k);
  saw_down = v.saw_down || sees_down k;
  steps = v.steps + 1;
}

-- What is known of the log: its bytes, its end, and how many calls of its device had failed at the
-- start
pub record Written : Type 0 where
  -- the bytes of the log
  pub bytes : List ℕ
  -- the log's end
  pub end : ℕ
  -- how many calls of the log's device had failed at the start
  pub faults : ℕ

-- a count rose: it is greater now, or at its last value
abbrev pub HasRisen : ℕ → ℕ → Type 0
HasRisen before now = now ≢ last_count → before < now

-- What is summed over the views of the log's latch
pub data LogTally : Type 0 where
  -- the views whose record is appended and not part of the log yet
  appenders : LogTally
  -- the views that hold the latch, without those whose record is appended and not part of the log
  -- yet
  holders : LogTally

-- 1 for a holder of the latch with no record appended that isn't part of the log yet, else 0
abbrev pub resting_weight : Option (List ℕ) → Bool → ℕ
resting_weight None held = flag_weight held
resting_weight (Some bytes) held = 0

-- what a view adds to each sum
abbrev pub log_weigh : LogTally → LogHold → ℕ
log_weigh holders h = resting_weight h.appended h.held
log_weigh appenders h = some_weight h.appended

-- the grid of views and of the log's one device; a view's own part is whether it saw the log down
abbrev pub log_shape : Shape
log_shape = record {
  Column = Device;
  Link = LogHold;
  View = View;
  Tally = LogTally;
  Block = Written;
  Own = Bool;
  weigh = log_weigh;
  link = λ v _. v.log;
  own = λ v. v.saw_down;
  spot = λ _. 0;
}

-- The device has the log's bytes, and after them no more than a record of a page has
pub record IsLeft (w : Written) (d : Device) : Type 0 where
  -- what a failed call left
  pub rest : List ℕ
  -- the device has the log's bytes and then what a failed call left
  pub is_bytes : d.bytes ≡ w.bytes ++ rest
  -- what a failed call left is no more than a record of a page
  pub short : length rest ≤ record_size

-- What holds of the device
pub record DeviceLaw (w : Written) (d : Device) (t : LogTally → ℕ) : Type 0 where
  -- one view holds the latch if it is taken, and none if it isn't
  pub taken : flag_weight d.taken ≡ t holders + t appenders
  -- the device holds the log's bytes, unless a record is appended that isn't part of the log yet,
  -- or the log is down
  pub bytes : t appenders ≡ 0 → d.down ≡ None → d.bytes ≡ w.bytes
  -- a log that is down has the end that it had at the failure
  pub down : (p : ℕ) → d.down ≡ Some p → p ≡ w.end
  -- the device of a log that is down has the log's bytes, and at most a record more
  pub left : d.down ≢ None → IsLeft w d
  -- if the log is down, its count of faults rose since the start
  pub rose : d.down ≢ None → HasRisen w.faults d.faults
  -- the count of faults is at least what it was at the start
  pub least : w.faults ≤ d.faults
  -- no more bytes are durable than there are
  pub synced : d.synced ≤ length d.bytes

-- What holds after a view appended a record that isn't part of the log yet
pub record AppendedLog (w : Written) (d : Device) (bytes : List ℕ) : Type 0 where
  -- the log isn't down
  pub up : d.down ≡ None
  -- the device has the log's bytes and then the record's
  pub is_bytes : d.bytes ≡ w.bytes ++ bytes
  -- the bytes are no more than a record of a page has
  pub short : length bytes ≤ record_size

-- What holds of the device and of what a view has of its latch
pub record LogLink (w : Written) (d : Device) (saw_down : Bool) (h : LogHold) : Type 0 where
  -- a view without the latch has neither the device, nor an appended record, nor a sync, nor the
  -- redo position
  pub resting : h.held ≡ false
      → (h.out ≡ None) × (h.appended ≡ None) × (h.synced ≡ false) × (h.redo ≡ None)
  -- a log end that a view keeps as loaded or stored under the latch is the log's end, and the view
  -- holds the latch
  pub end : (e : ℕ) → h.end ≡ Some e → (h.held ≡ true) × (e ≡ w.end)
  -- a call is noted only while the device is out
  pub home : h.out ≡ None → h.change ≡ change.Untouched
  -- after a record that isn't part of the log yet the device has the log's bytes and that record's,
  -- and isn't down
  pub appended : (bytes : List ℕ) → h.appended ≡ Some bytes → AppendedLog w d bytes
  -- after a sync under this latch all bytes are durable
  pub synced : h.synced ≡ true → d.synced ≡ length d.bytes
  -- if a view saw the log down, it is down
  pub saw : saw_down ≡ true → d.down ≢ None

-- the law of the log's device, in this grid
abbrev pub log_part : Part log_shape
log_part = record { column = DeviceLaw; cell = LogLink }
